-- What a definition is made of is what its row keeps.
use Rattle.std.proofs.Common.{◌≡◌, ℕ, List, Option, Some, None, refl, sym}
use Rattle.std.specs.Prelude.{option_and_then, slice_get, unwrap_or, codes}
use Rattle.std.specs.Option.{option_map}
use Rattle.gql_source.specs.declared.file_id.FileId.{FileId}
use Rattle.gql_ast_base.specs.Forest.{Forest, Plain}
use Rattle.gql_ast_base.specs.SyntaxKind.{SyntaxKind}
use Rattle.gql_ast_base.specs.SyntaxKind.TheVariants as kind
use Rattle.gql_ast_base.specs.Kinds.{is_kind}
use Rattle.gql_ast_base.specs.Names.{Named}
use Rattle.gql_ast_base.specs.Parts.{Text, gather, first, child, inside, nth_name, is_word, location, span, start_of, end_of}
use Rattle.gql_ast_base.specs.Directives as uses
use Rattle.gql_ast_base.specs.Directives.{argument_of, directive_of}
use Rattle.gql_ast_base.specs.OperationTypes.{operation_type_of, operation_type_in, root_operation_of}
use Rattle.gql_ast_base.specs.declared.directive.Directive.{Directive}
use Rattle.gql_ast.specs.declared.selection.Selection.{Selection}
use Rattle.gql_ast_base.specs.declared.operation_type.OperationType.{OperationType}
use Rattle.gql_ast_base.specs.declared.operation_type.OperationType.TheVariants.{Query}
use Rattle.gql_ast.specs.declared.operation.VariableDefinition.{VariableDefinition}
use Rattle.gql_ast.specs.declared.operation.OperationDefinition.{OperationDefinition}
use Rattle.gql_ast.specs.declared.operation.FragmentDefinition.{FragmentDefinition}
use Rattle.gql_ast.specs.Definitions.{scalar_of, object_of, interface_of, union_of, enum_of, input_object_of}
use Rattle.gql_ast.specs.Operations as operations
use Rattle.gql_ast.specs.Operations.{variable_of, operation_of, fragment_of}
use Rattle.gql_ast.specs.Schemas.{schema_of, directive_definition_of, root_operations, directive_locations}
use Rattle.gql_ast.specs.Selections as selections
use Rattle.gql_ast_reader.specs.bridge.Places.{words, name_there, first_word}
use Rattle.gql_ast_reader.specs.bridge.Standing.{in_first, joined, listed}
use Rattle.gql_ast_reader.specs.bridge.Kept.{row_of}
use Rattle.gql_ast_reader.specs.bridge.Making.{operation_definition_made, fragment_made, schema_made, directive_definition_made, scalar_made, object_made, interface_made, union_made, enum_made, input_object_made}
use Rattle.gql_ast_reader.proofs.Words.{nth-text-there}
use Rattle.gql_ast_reader.proofs.Finding.{nth-is, name-inside, condition-is, variables-are, directives-are, inputs-are, input-fields-are, fields-are, enum-values-are, interfaces-are, members-are, description-is}

module _ (text : Text) (file : FileId) (start end : ℕ) (c : Forest) where
  abbrev tree : SyntaxKind → Plain
  tree k = record { kind = k; start = start; end = end; children = c }

  abbrev set_of : Plain → List Selection
  set_of t = gather (selections.selection_of text file) t.children

  abbrev kept_directives : List Directive
  kept_directives = listed (in_first kind.Directives (gather (directive_of text file)) c)

  abbrev kept_condition : Option Named
  kept_condition = name_there text file (joined (in_first kind.TypeCondition (λ inner. joined (in_first kind.NamedType (first_word text) inner)) c))

  -- the operation with these parts
  abbrev an_operation : OperationType → Option Named → List VariableDefinition → List Directive → List Selection → OperationDefinition
  an_operation ty name variables directives set = record {
    operation_type = ty;
    name = name;
    variables = variables;
    directives = directives;
    selection_set = set;
    location = span file (start_of c) (end_of c);
  }

  operation-within : (o : Option Plain) → option_map (an_operation (unwrap_or (first (operation_type_of text) c) Query)
      (name_there text file (slice_get (words text c) 0)) (listed (in_first kind.VariableDefinitions (gather (variable_of text file)) c)) kept_directives) (option_map set_of o)
      ≡ option_map (λ (set : Plain). an_operation (unwrap_or (operation_type_in text c) Query) (nth_name text file 0 c) (operations.variables text file c) (uses.directives text file c) (set_of set)) o
  unfolding operation_type_in
  operation-within None = refl
  operation-within (Some set) = λ i. Some (an_operation (unwrap_or (first (operation_type_of text) c) Query) (nth-is text file 0 c i) (variables-are text file c i) (directives-are text file c i) (set_of set))

  pub operation-is : operation_definition_made text file (row_of text file kind.OperationDefinition c) (span file (start_of c) (end_of c)) ≡ operation_of text file (tree kind.OperationDefinition)
  unfolding is_kind location operation_of
  operation-is = operation-within (child kind.SelectionSet c)

  -- the fragment with these parts
  abbrev a_fragment : List Directive → List Selection → Named → Named → FragmentDefinition
  a_fragment directives set name condition = record {
    name = name;
    type_condition = condition;
    directives = directives;
    selection_set = set;
    location = span file (start_of c) (end_of c);
  }

  abbrev fragment_with : List Directive → Option Named → Option Named → List Selection → Option FragmentDefinition
  fragment_with directives name condition set = option_and_then (λ n. option_map (a_fragment directives set n) condition) name

  fragment-within : (o : Option Plain) → option_and_then (fragment_with kept_directives (name_there text file (joined (in_first kind.FragmentName (first_word text) c))) kept_condition) (option_map set_of o)
      ≡ option_and_then (λ (set : Plain). fragment_with (uses.directives text file c) (nth_name text file 0 (inside kind.FragmentName c)) (selections.type_condition text file c) (set_of set)) o
  fragment-within None = refl
  fragment-within (Some set) = λ i. fragment_with (directives-are text file c i) (name-inside text file kind.FragmentName c i) (condition-is text file c i) (set_of set)

  pub fragment-is : fragment_made text file (row_of text file kind.FragmentDefinition c) (span file (start_of c) (end_of c)) ≡ fragment_of text file (tree kind.FragmentDefinition)
  unfolding is_kind location fragment_of
  fragment-is = fragment-within (child kind.SelectionSet c)

  pub schema-is : Some (schema_made text file (row_of text file kind.SchemaDefinition c) (span file (start_of c) (end_of c))) ≡ schema_of text file (tree kind.SchemaDefinition)
  unfolding is_kind location schema_of root_operations
  schema-is = λ i. Some (record { description = description-is text file c i; directives = directives-are text file c i; root_operations = gather (root_operation_of text file) c; location = span file (start_of c) (end_of c) })

  pub directive-definition-is : directive_definition_made text file (row_of text file kind.DirectiveDefinition c) (span file (start_of c) (end_of c)) ≡ directive_definition_of text file (tree kind.DirectiveDefinition)
  unfolding is_kind location directive_definition_of
  directive-definition-is = λ i. option_map (λ name. record { description = description-is text file c i; name = name; arguments = inputs-are text file c i; repeatable = is_word (sym (nth-text-there text 2 c) i) (codes "repeatable"); locations = directive_locations text c; location = span file (start_of c) (end_of c) }) (nth-is text file 1 c i)

  pub scalar-is : scalar_made text file (row_of text file kind.ScalarTypeDefinition c) (span file (start_of c) (end_of c)) ≡ scalar_of text file (tree kind.ScalarTypeDefinition)
  unfolding is_kind location scalar_of
  scalar-is = λ i. option_map (λ name. record { description = description-is text file c i; name = name; directives = directives-are text file c i; location = span file (start_of c) (end_of c) }) (nth-is text file 1 c i)

  pub object-is : object_made text file (row_of text file kind.ObjectTypeDefinition c) (span file (start_of c) (end_of c)) ≡ object_of text file (tree kind.ObjectTypeDefinition)
  unfolding is_kind location object_of
  object-is = λ i. option_map (λ name. record { description = description-is text file c i; name = name; implements_interfaces = interfaces-are text file c i; directives = directives-are text file c i; fields = fields-are text file c i; location = span file (start_of c) (end_of c) }) (nth-is text file 1 c i)

  pub interface-is : interface_made text file (row_of text file kind.InterfaceTypeDefinition c) (span file (start_of c) (end_of c)) ≡ interface_of text file (tree kind.InterfaceTypeDefinition)
  unfolding is_kind location interface_of
  interface-is = λ i. option_map (λ name. record { description = description-is text file c i; name = name; implements_interfaces = interfaces-are text file c i; directives = directives-are text file c i; fields = fields-are text file c i; location = span file (start_of c) (end_of c) }) (nth-is text file 1 c i)

  pub union-is : union_made text file (row_of text file kind.UnionTypeDefinition c) (span file (start_of c) (end_of c)) ≡ union_of text file (tree kind.UnionTypeDefinition)
  unfolding is_kind location union_of
  union-is = λ i. option_map (λ name. record { description = description-is text file c i; name = name; directives = directives-are text file c i; members = members-are text file c i; location = span file (start_of c) (end_of c) }) (nth-is text file 1 c i)

  pub enum-is : enum_made text file (row_of text file kind.EnumTypeDefinition c) (span file (start_of c) (end_of c)) ≡ enum_of text file (tree kind.EnumTypeDefinition)
  unfolding is_kind location enum_of
  enum-is = λ i. option_map (λ name. record { description = description-is text file c i; name = name; directives = directives-are text file c i; values = enum-values-are text file c i; location = span file (start_of c) (end_of c) }) (nth-is text file 1 c i)

  pub input-object-is : input_object_made text file (row_of text file kind.InputObjectTypeDefinition c) (span file (start_of c) (end_of c)) ≡ input_object_of text file (tree kind.InputObjectTypeDefinition)
  unfolding is_kind location input_object_of
  input-object-is = λ i. option_map (λ name. record { description = description-is text file c i; name = name; directives = directives-are text file c i; fields = input-fields-are text file c i; location = span file (start_of c) (end_of c) }) (nth-is text file 1 c i)
