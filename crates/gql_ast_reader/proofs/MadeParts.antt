-- What a node of an executable text, of a definition's fields or of a use of a directive is made of, is what its row keeps.
use Rattle.std.proofs.Common.{◌≡◌, ℕ, List, Option, Some, None, refl, sym, ap, ◌∙◌}
use Rattle.std.specs.Prelude.{option_and_then}
use Rattle.std.specs.Option.{option_map}
use Rattle.gql_source.specs.declared.file_id.FileId.{FileId}
use Rattle.gql_ast_base.specs.Forest.{Forest, Plain}
use Rattle.gql_ast_base.specs.SyntaxKind.{SyntaxKind}
use Rattle.gql_ast_base.specs.SyntaxKind.TheVariants as kind
use Rattle.gql_ast_base.specs.Kinds.{is_kind}
use Rattle.gql_ast_base.specs.Names.{Named}
use Rattle.gql_ast_base.specs.Parts.{Text, gather, first, head, child, location, span, start_of, end_of}
use Rattle.gql_ast_base.specs.Directives as uses
use Rattle.gql_ast_base.specs.Directives.{argument_of, directive_of}
use Rattle.gql_ast_base.specs.OperationTypes.{operation_word, operation_type_of, operation_type_in, root_operation_of}
use Rattle.gql_ast_base.specs.Types.{type_of}
use Rattle.gql_ast_base.specs.Values.{value_of, member_step, pair_of}
use Rattle.gql_ast_base.specs.bridge.Values.{member_of}
use Rattle.gql_ast_base.specs.declared.directive.Directive.{Directive}
use Rattle.gql_ast.specs.declared.selection.Selection.{Selection}
use Rattle.gql_ast.specs.declared.selection.InlineFragment.{InlineFragment}
use Rattle.gql_ast.specs.Fields as fields
use Rattle.gql_ast.specs.Fields.{input_value_of, enum_value_of}
use Rattle.gql_ast.specs.Operations.{variable_of}
use Rattle.gql_ast.specs.Selections as selections
use Rattle.gql_ast.specs.Selections.{field_step, spread_of, inline_step}
use Rattle.gql_ast_reader.specs.bridge.Places.{name_there, first_word}
use Rattle.gql_ast_reader.specs.bridge.Standing.{in_first, joined, listed}
use Rattle.gql_ast_reader.specs.bridge.Kept.{row_of}
use Rattle.gql_ast_reader.specs.bridge.Making.{argument_made, directive_made, pair_made, root_operation_made, operation_made, field_made, spread_made, inline_made, variable_made, input_made, field_definition_made, enum_value_made}
use Rattle.gql_ast_reader.proofs.Words.{nth-text-there}
use Rattle.gql_ast_reader.proofs.Finding.{values-gathered, nth-is, name-inside, condition-is, named-type-is, arguments-are, directives-are, selections-are, inputs-are, description-is, default-is}

module _ (text : Text) (file : FileId) (start end : ℕ) (c : Forest) where
  abbrev tree : SyntaxKind → Plain
  tree k = record { kind = k; start = start; end = end; children = c }

  pub argument-is : argument_made text file (row_of text file kind.Argument c) (span file (start_of c) (end_of c)) ≡ argument_of text file (tree kind.Argument)
  unfolding is_kind location argument_of
  argument-is = λ i. option_and_then (λ name. option_map (λ value. record { name = name; value = value; location = span file (start_of c) (end_of c) }) (first (value_of text file) c)) (nth-is text file 0 c i)

  pub directive-is : directive_made text file (row_of text file kind.Directive c) (span file (start_of c) (end_of c)) ≡ directive_of text file (tree kind.Directive)
  unfolding is_kind location directive_of
  directive-is = λ i. option_map (λ name. record { name = name; arguments = arguments-are text file c i; location = span file (start_of c) (end_of c) }) (nth-is text file 0 c i)

  pub pair-is : pair_made text file (row_of text file kind.ObjectField c) ≡ member_of text file (tree kind.ObjectField)
  unfolding is_kind location member_step
  pair-is = λ i. pair_of text file (nth-is text file 0 c i) (ap head (sym (values-gathered text file c)) i)

  pub root-operation-is : root_operation_made text file (row_of text file kind.RootOperationTypeDefinition c) ≡ root_operation_of text file (tree kind.RootOperationTypeDefinition)
  unfolding is_kind location root_operation_of operation_type_in
  root-operation-is = λ i. option_and_then (λ operation. option_map (λ name. (operation, name)) (named-type-is text file c i)) (first (operation_type_of text) c)

  pub operation-type-is : operation_made text (row_of text file kind.OperationType c) ≡ operation_type_of text (tree kind.OperationType)
  unfolding is_kind location operation_type_of
  operation-type-is = λ i. option_and_then operation_word (sym (nth-text-there text 0 c) i)

  pub field-is : field_made text file (row_of text file kind.Field c) (span file (start_of c) (end_of c)) ≡ selections.field_of text file (tree kind.Field)
  unfolding is_kind location field_step
  field-is = λ i. option_map (λ name. record { alias = name-inside text file kind.Alias c i; name = name; arguments = arguments-are text file c i; directives = directives-are text file c i; selection_set = selections-are text file c i; location = span file (start_of c) (end_of c) }) (nth-is text file 0 c i)

  pub spread-is : spread_made text file (row_of text file kind.FragmentSpread c) (span file (start_of c) (end_of c)) ≡ spread_of text file (tree kind.FragmentSpread)
  unfolding is_kind location spread_of
  spread-is = λ i. option_map (λ name. record { fragment_name = name; directives = directives-are text file c i; location = span file (start_of c) (end_of c) }) (name-inside text file kind.FragmentName c i)

  -- the fragment with these parts
  abbrev an_inline : Option Named → List Directive → List Selection → InlineFragment
  an_inline condition directives set = record { type_condition = condition; directives = directives; selection_set = set; location = span file (start_of c) (end_of c) }

  abbrev kept_condition : Option Named
  kept_condition = name_there text file (joined (in_first kind.TypeCondition (λ inner. joined (in_first kind.NamedType (first_word text) inner)) c))

  abbrev kept_directives : List Directive
  kept_directives = listed (in_first kind.Directives (gather (directive_of text file)) c)

  abbrev set_of : Plain → List Selection
  set_of t = gather (selections.selection_of text file) t.children

  inline-within : (o : Option Plain) → child kind.SelectionSet c ≡ o
      → option_map (an_inline kept_condition kept_directives) (option_map set_of o)
      ≡ option_map (λ (_ : Plain). an_inline (selections.type_condition text file c) (uses.directives text file c) (selections.selected text file c)) o
  inline-within None is = refl
  inline-within (Some set) is = λ i. Some (an_inline (condition-is text file c i) (directives-are text file c i)
      ((ap (λ o. listed (option_map set_of o)) (sym is) ∙ selections-are text file c) i))

  pub inline-is : inline_made text file (row_of text file kind.InlineFragment c) (span file (start_of c) (end_of c)) ≡ selections.inline_fragment_of text file (tree kind.InlineFragment)
  unfolding is_kind location inline_step
  inline-is = inline-within (child kind.SelectionSet c) refl

  pub variable-is : variable_made text file (row_of text file kind.VariableDefinition c) (span file (start_of c) (end_of c)) ≡ variable_of text file (tree kind.VariableDefinition)
  unfolding is_kind location variable_of
  variable-is = λ i. option_and_then (λ name. option_map (λ ty. record { name = name; ty = ty; default_value = default-is text file c i; directives = directives-are text file c i; location = span file (start_of c) (end_of c) }) (first (type_of text file) c)) (name-inside text file kind.Variable c i)

  pub input-is : input_made text file (row_of text file kind.InputValueDefinition c) (span file (start_of c) (end_of c)) ≡ input_value_of text file (tree kind.InputValueDefinition)
  unfolding is_kind location input_value_of
  input-is = λ i. option_and_then (λ name. option_map (λ ty. record { description = description-is text file c i; name = name; ty = ty; default_value = default-is text file c i; directives = directives-are text file c i; location = span file (start_of c) (end_of c) }) (first (type_of text file) c)) (nth-is text file 0 c i)

  pub field-definition-is : field_definition_made text file (row_of text file kind.FieldDefinition c) (span file (start_of c) (end_of c)) ≡ fields.field_of text file (tree kind.FieldDefinition)
  unfolding is_kind location fields.field_of
  field-definition-is = λ i. option_and_then (λ name. option_map (λ ty. record { description = description-is text file c i; name = name; arguments = inputs-are text file c i; ty = ty; directives = directives-are text file c i; location = span file (start_of c) (end_of c) }) (first (type_of text file) c)) (nth-is text file 0 c i)

  pub enum-value-is : enum_value_made text file (row_of text file kind.EnumValueDefinition c) (span file (start_of c) (end_of c)) ≡ enum_value_of text file (tree kind.EnumValueDefinition)
  unfolding is_kind location enum_value_of
  enum-value-is = λ i. option_map (λ value. record { description = description-is text file c i; value = value; directives = directives-are text file c i; location = span file (start_of c) (end_of c) }) (name-inside text file kind.EnumValue c i)
