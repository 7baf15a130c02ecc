-- What a node is by what its row keeps is what its tree stands for.
use Rattle.std.proofs.Common.{◌≡◌, ℕ, true, false, Option, Some, None, refl, sym, ap, ◌∙◌}
use Rattle.std.specs.Prelude.{option_and_then}
use Rattle.std.specs.Option.{option_map}
use Rattle.gql_source.specs.declared.file_id.FileId.{FileId}
use Rattle.gql_ast_base.specs.Forest.{Forest, Plain}
use Rattle.gql_ast_base.specs.SyntaxKind.{SyntaxKind}
use Rattle.gql_ast_base.specs.SyntaxKind.TheVariants as kind
use Rattle.gql_ast_base.specs.Kinds.{is_kind}
use Rattle.gql_ast_base.specs.Parts.{Text, head, or_else, location, span, start_of, end_of}
use Rattle.gql_ast_base.specs.Types.{non_null, type_step, form_step}
use Rattle.gql_ast_base.specs.Values.{truth, value_step, content_step, simple_content}
use Rattle.gql_ast_base.specs.declared.type_ref.TypeRef.{List as ListOf}
use Rattle.gql_ast_base.specs.declared.value.ValueKind.{ValueKind, List as ListKind, Object as ObjectKind}
use Rattle.gql_ast_base.specs.declared.value.ValueKind.TheVariants.{Boolean}
use Rattle.gql_ast.specs.Definitions.{scalar_of, object_of, interface_of, union_of, enum_of, input_object_of}
use Rattle.gql_ast.specs.Extensions.{extends, schema_extension_of, scalar_extension_of, object_extension_of, interface_extension_of}
use Rattle.gql_ast.specs.Extensions.{union_extension_of, enum_extension_of, input_object_extension_of}
use Rattle.gql_ast.specs.Schemas.{directive_definition_of, schema_of}
use Rattle.gql_ast.specs.Operations.{operation_of, fragment_of}
use Rattle.gql_ast.specs.Selections.{selection_step, choice_step}
use Rattle.gql_ast.specs.declared.selection.Selection.{Field as a_field, InlineFragment as an_inline_fragment}
use Rattle.gql_ast.specs.declared.selection.Selection.TheVariants.{FragmentSpread as a_spread}
use Rattle.gql_ast.specs.declared.definition.Definition.TheVariants as definition
use Rattle.gql_ast.specs.Documents.{executable_definition_of, schema_definition_of, type_definition_of, extension_of, choice_of, definition_of}
use Rattle.gql_ast_reader.specs.declared.part.Part.TheVariants as part
use Rattle.gql_ast_reader.specs.declared.part.Item.TheVariants as item
use Rattle.gql_ast_reader.specs.bridge.Standing.{part_at}
use Rattle.gql_ast_reader.specs.bridge.Kept.{row_of}
use Rattle.gql_ast_reader.specs.bridge.Making.{made}
use Rattle.gql_ast_reader.proofs.Words.{nth-text-there}
use Rattle.gql_ast_reader.proofs.Finding.{values-gathered, contents-gathered, members-gathered, types-gathered, forms-gathered, choices-gathered}
use Rattle.gql_ast_reader.proofs.MadeParts.{argument-is, directive-is, pair-is, root-operation-is, operation-type-is, field-is, spread-is, inline-is, variable-is, input-is, field-definition-is, enum-value-is}
use Rattle.gql_ast_reader.proofs.MadeDefinitions.{operation-is, fragment-is, schema-is, directive-definition-is, scalar-is, object-is, interface-is, union-is, enum-is, input-object-is}
use Rattle.gql_ast_reader.proofs.MadeExtensions.{extension-is}

-- nothing else is there, and nothing behind
only : {T : Type 0} (o : Option T) → or_else o None ≡ o
only None = refl
only (Some x) = refl

alone : {T : Type 0} (o : Option T) → or_else (or_else o None) None ≡ o
alone None = refl
alone (Some x) = refl

module _ (text : Text) (file : FileId) (start end : ℕ) (c : Forest) where
  abbrev tree : SyntaxKind → Plain
  tree k = record { kind = k; start = start; end = end; children = c }

  choice-operation-is : choice_of text file (tree kind.OperationDefinition) ≡ option_map definition.OperationDefinition (operation_of text file (tree kind.OperationDefinition))
  unfolding choice_of executable_definition_of schema_definition_of type_definition_of extension_of operation_of fragment_of directive_definition_of
      schema_of scalar_of object_of interface_of union_of enum_of input_object_of schema_extension_of scalar_extension_of object_extension_of
      interface_extension_of union_extension_of enum_extension_of input_object_extension_of extends is_kind
  choice-operation-is = alone _

  choice-fragment-is : choice_of text file (tree kind.FragmentDefinition) ≡ option_map definition.FragmentDefinition (fragment_of text file (tree kind.FragmentDefinition))
  unfolding choice_of executable_definition_of schema_definition_of type_definition_of extension_of operation_of fragment_of directive_definition_of
      schema_of scalar_of object_of interface_of union_of enum_of input_object_of schema_extension_of scalar_extension_of object_extension_of
      interface_extension_of union_extension_of enum_extension_of input_object_extension_of extends is_kind
  choice-fragment-is = only _

  choice-directive-definition-is : choice_of text file (tree kind.DirectiveDefinition) ≡ option_map definition.DirectiveDefinition (directive_definition_of text file (tree kind.DirectiveDefinition))
  unfolding choice_of executable_definition_of schema_definition_of type_definition_of extension_of operation_of fragment_of directive_definition_of
      schema_of scalar_of object_of interface_of union_of enum_of input_object_of schema_extension_of scalar_extension_of object_extension_of
      interface_extension_of union_extension_of enum_extension_of input_object_extension_of extends is_kind
  choice-directive-definition-is = alone _

  choice-schema-is : choice_of text file (tree kind.SchemaDefinition) ≡ option_map definition.SchemaDefinition (schema_of text file (tree kind.SchemaDefinition))
  unfolding choice_of executable_definition_of schema_definition_of type_definition_of extension_of operation_of fragment_of directive_definition_of
      schema_of scalar_of object_of interface_of union_of enum_of input_object_of schema_extension_of scalar_extension_of object_extension_of
      interface_extension_of union_extension_of enum_extension_of input_object_extension_of extends is_kind
  choice-schema-is = only _

  choice-scalar-is : choice_of text file (tree kind.ScalarTypeDefinition) ≡ option_map definition.ScalarTypeDefinition (scalar_of text file (tree kind.ScalarTypeDefinition))
  unfolding choice_of executable_definition_of schema_definition_of type_definition_of extension_of operation_of fragment_of directive_definition_of
      schema_of scalar_of object_of interface_of union_of enum_of input_object_of schema_extension_of scalar_extension_of object_extension_of
      interface_extension_of union_extension_of enum_extension_of input_object_extension_of extends is_kind
  choice-scalar-is = alone _

  choice-object-is : choice_of text file (tree kind.ObjectTypeDefinition) ≡ option_map definition.ObjectTypeDefinition (object_of text file (tree kind.ObjectTypeDefinition))
  unfolding choice_of executable_definition_of schema_definition_of type_definition_of extension_of operation_of fragment_of directive_definition_of
      schema_of scalar_of object_of interface_of union_of enum_of input_object_of schema_extension_of scalar_extension_of object_extension_of
      interface_extension_of union_extension_of enum_extension_of input_object_extension_of extends is_kind
  choice-object-is = alone _

  choice-interface-is : choice_of text file (tree kind.InterfaceTypeDefinition) ≡ option_map definition.InterfaceTypeDefinition (interface_of text file (tree kind.InterfaceTypeDefinition))
  unfolding choice_of executable_definition_of schema_definition_of type_definition_of extension_of operation_of fragment_of directive_definition_of
      schema_of scalar_of object_of interface_of union_of enum_of input_object_of schema_extension_of scalar_extension_of object_extension_of
      interface_extension_of union_extension_of enum_extension_of input_object_extension_of extends is_kind
  choice-interface-is = alone _

  choice-union-is : choice_of text file (tree kind.UnionTypeDefinition) ≡ option_map definition.UnionTypeDefinition (union_of text file (tree kind.UnionTypeDefinition))
  unfolding choice_of executable_definition_of schema_definition_of type_definition_of extension_of operation_of fragment_of directive_definition_of
      schema_of scalar_of object_of interface_of union_of enum_of input_object_of schema_extension_of scalar_extension_of object_extension_of
      interface_extension_of union_extension_of enum_extension_of input_object_extension_of extends is_kind
  choice-union-is = alone _

  choice-enum-is : choice_of text file (tree kind.EnumTypeDefinition) ≡ option_map definition.EnumTypeDefinition (enum_of text file (tree kind.EnumTypeDefinition))
  unfolding choice_of executable_definition_of schema_definition_of type_definition_of extension_of operation_of fragment_of directive_definition_of
      schema_of scalar_of object_of interface_of union_of enum_of input_object_of schema_extension_of scalar_extension_of object_extension_of
      interface_extension_of union_extension_of enum_extension_of input_object_extension_of extends is_kind
  choice-enum-is = alone _

  choice-input-object-is : choice_of text file (tree kind.InputObjectTypeDefinition) ≡ option_map definition.InputObjectTypeDefinition (input_object_of text file (tree kind.InputObjectTypeDefinition))
  unfolding choice_of executable_definition_of schema_definition_of type_definition_of extension_of operation_of fragment_of directive_definition_of
      schema_of scalar_of object_of interface_of union_of enum_of input_object_of schema_extension_of scalar_extension_of object_extension_of
      interface_extension_of union_extension_of enum_extension_of input_object_extension_of extends is_kind
  choice-input-object-is = only _

  -- what a node is, whatever its kind but that of a token
  pub made-is : (k : SyntaxKind) → is_kind k kind.Token ≡ false
      → made text file k (row_of text file k c) (span file (start_of c) (end_of c)) ≡ part_at text file k (tree k)
  unfolding is_kind location definition_of selection_step choice_step value_step content_step simple_content type_step form_step
  made-is kind.Token isnt = absurd (let e : true ≡ false = isnt in cc)
  made-is kind.OperationDefinition isnt = ap (λ o. Some (part.Item (item.Defined (option_map definition.OperationDefinition o)))) (operation-is text file start end c) ∙ ap (λ o. Some (part.Item (item.Defined (o)))) (sym choice-operation-is)
  made-is kind.FragmentDefinition isnt = ap (λ o. Some (part.Item (item.Defined (option_map definition.FragmentDefinition o)))) (fragment-is text file start end c) ∙ ap (λ o. Some (part.Item (item.Defined (o)))) (sym choice-fragment-is)
  made-is kind.DirectiveDefinition isnt = ap (λ o. Some (part.Item (item.Defined (option_map definition.DirectiveDefinition o)))) (directive-definition-is text file start end c) ∙ ap (λ o. Some (part.Item (item.Defined (o)))) (sym choice-directive-definition-is)
  made-is kind.SchemaDefinition isnt = ap (λ o. Some (part.Item (item.Defined (option_map definition.SchemaDefinition o)))) (schema-is text file start end c) ∙ ap (λ o. Some (part.Item (item.Defined (o)))) (sym choice-schema-is)
  made-is kind.ScalarTypeDefinition isnt = ap (λ o. Some (part.Item (item.Defined (option_map definition.ScalarTypeDefinition o)))) (scalar-is text file start end c) ∙ ap (λ o. Some (part.Item (item.Defined (o)))) (sym choice-scalar-is)
  made-is kind.ObjectTypeDefinition isnt = ap (λ o. Some (part.Item (item.Defined (option_map definition.ObjectTypeDefinition o)))) (object-is text file start end c) ∙ ap (λ o. Some (part.Item (item.Defined (o)))) (sym choice-object-is)
  made-is kind.InterfaceTypeDefinition isnt = ap (λ o. Some (part.Item (item.Defined (option_map definition.InterfaceTypeDefinition o)))) (interface-is text file start end c) ∙ ap (λ o. Some (part.Item (item.Defined (o)))) (sym choice-interface-is)
  made-is kind.UnionTypeDefinition isnt = ap (λ o. Some (part.Item (item.Defined (option_map definition.UnionTypeDefinition o)))) (union-is text file start end c) ∙ ap (λ o. Some (part.Item (item.Defined (o)))) (sym choice-union-is)
  made-is kind.EnumTypeDefinition isnt = ap (λ o. Some (part.Item (item.Defined (option_map definition.EnumTypeDefinition o)))) (enum-is text file start end c) ∙ ap (λ o. Some (part.Item (item.Defined (o)))) (sym choice-enum-is)
  made-is kind.InputObjectTypeDefinition isnt = ap (λ o. Some (part.Item (item.Defined (option_map definition.InputObjectTypeDefinition o)))) (input-object-is text file start end c) ∙ ap (λ o. Some (part.Item (item.Defined (o)))) (sym choice-input-object-is)
  made-is kind.Extension isnt = ap (λ o. Some (part.Item (item.Defined (o)))) (extension-is text file start end c)
  made-is kind.OperationType isnt = ap (λ o. Some (part.Operation o)) (operation-type-is text file start end c)
  made-is kind.Selection isnt = ap (λ l. Some (part.Item (item.Selection (head l)))) (sym (choices-gathered text file c))
  made-is kind.Field isnt = ap (λ o. Some (part.Item (item.Choice (option_map a_field o)))) (field-is text file start end c)
  made-is kind.FragmentSpread isnt = ap (λ o. Some (part.Item (item.Choice (option_map a_spread o)))) (spread-is text file start end c)
  made-is kind.InlineFragment isnt = ap (λ o. Some (part.Item (item.Choice (option_map an_inline_fragment o)))) (inline-is text file start end c)
  made-is kind.Argument isnt = ap (λ o. Some (part.Item (item.Argument (o)))) (argument-is text file start end c)
  made-is kind.Directive isnt = ap (λ o. Some (part.Item (item.Directive (o)))) (directive-is text file start end c)
  made-is kind.Value isnt =
      ap (λ l. Some (part.Item (item.Value (option_map (λ (found : ValueKind). record { kind = found; location = span file (start_of c) (end_of c) }) (head l))))) (sym (contents-gathered text file c))
  made-is kind.BooleanValue isnt = ap (λ o. Some (part.Item (item.Content (option_map Boolean (option_and_then truth o))))) (sym (nth-text-there text 0 c))
  made-is kind.ListValue isnt = ap (λ l. Some (part.Item (item.Content (Some (ListKind l))))) (sym (values-gathered text file c))
  made-is kind.ObjectValue isnt = ap (λ l. Some (part.Item (item.Content (Some (ObjectKind l))))) (sym (members-gathered text file c))
  made-is kind.ObjectField isnt = ap (λ o. Some (part.Item (item.Pair (o)))) (pair-is text file start end c)
  made-is kind.VariableDefinition isnt = ap (λ o. Some (part.Item (item.Variable (o)))) (variable-is text file start end c)
  made-is kind.TypeReference isnt = ap (λ l. Some (part.Type (head l))) (sym (forms-gathered text file c))
  made-is kind.ListType isnt = ap (λ l. Some (part.Form (option_map ListOf (head l)))) (sym (types-gathered text file c))
  made-is kind.NonNullType isnt = ap (λ l. Some (part.Form (option_map non_null (head l)))) (sym (forms-gathered text file c))
  made-is kind.RootOperationTypeDefinition isnt = ap (λ o. Some (part.RootOperation o)) (root-operation-is text file start end c)
  made-is kind.FieldDefinition isnt = ap (λ o. Some (part.Item (item.Field (o)))) (field-definition-is text file start end c)
  made-is kind.InputValueDefinition isnt = ap (λ o. Some (part.Item (item.Input (o)))) (input-is text file start end c)
  made-is kind.EnumValueDefinition isnt = ap (λ o. Some (part.Item (item.EnumValue (o)))) (enum-value-is text file start end c)
  made-is _ isnt = refl
