-- What the conversions look for in a row is what the row keeps.
use Rattle.std.proofs.Common.{◌≡◌, ℕ, ◌++◌, option_to_list, Option, Some, None, refl, sym, ap, ◌∙◌}
use Rattle.std.specs.Prelude.{slice_get}
use Rattle.std.specs.Option.{option_map}
use Rattle.gql_source.specs.declared.file_id.FileId.{FileId}
use Rattle.gql_ast_base.specs.Forest.{Forest, Plain, nothing, tree_then}
use Rattle.gql_ast_base.specs.SyntaxKind.{SyntaxKind}
use Rattle.gql_ast_base.specs.SyntaxKind.TheVariants as kind
use Rattle.gql_ast_base.specs.Parts.{Text, gather, first, child, children_of, inside, nth_name}
use Rattle.gql_ast_base.specs.Directives as uses
use Rattle.gql_ast_base.specs.Directives.{argument_of, directive_of}
use Rattle.gql_ast_base.specs.Literals as literals
use Rattle.gql_ast_base.specs.Literals.{string_of}
use Rattle.gql_ast_base.specs.NamedTypes.{named_type_of, named_type_in}
use Rattle.gql_ast_base.specs.Types.{types, forms, type_of}
use Rattle.gql_ast_base.specs.bridge.Types.{form_of}
use Rattle.gql_ast_base.specs.Values.{values, contents, members, value_of, default_value}
use Rattle.gql_ast_base.specs.bridge.Values.{content_of, member_of}
use Rattle.gql_ast.specs.Definitions as definitions
use Rattle.gql_ast.specs.Fields as fields
use Rattle.gql_ast.specs.Fields.{input_value_of, field_of, enum_value_of}
use Rattle.gql_ast.specs.Operations as operations
use Rattle.gql_ast.specs.Operations.{variable_of}
use Rattle.gql_ast.specs.Selections as selections
use Rattle.gql_ast.specs.bridge.Selections as selections_bridge
use Rattle.gql_ast.proofs.Selected.{selected-inside, selections-gathered}
use Rattle.gql_ast_reader.specs.bridge.Places.{words, name_there, first_word}
use Rattle.gql_ast_reader.specs.bridge.Standing.{in_first, joined, listed}
use Rattle.gql_ast_reader.proofs.Words.{nth-name-there}

-- ---- values, types and choices one after the other

module _ (text : Text) (file : FileId) where
  pub values-gathered : (row : Forest) → values text file row ≡ gather (value_of text file) row
  values-gathered nothing = refl
  values-gathered (tree_then k start end children rest) =
      ap (λ l. option_to_list (value_of text file (record { kind = k; start = start; end = end; children = children })) ++ l) (values-gathered rest)

  pub contents-gathered : (row : Forest) → contents text file row ≡ gather (content_of text file) row
  contents-gathered nothing = refl
  contents-gathered (tree_then k start end children rest) =
      ap (λ l. option_to_list (content_of text file (record { kind = k; start = start; end = end; children = children })) ++ l) (contents-gathered rest)

  pub members-gathered : (row : Forest) → members text file row ≡ gather (member_of text file) row
  members-gathered nothing = refl
  members-gathered (tree_then k start end children rest) =
      ap (λ l. option_to_list (member_of text file (record { kind = k; start = start; end = end; children = children })) ++ l) (members-gathered rest)

  pub types-gathered : (row : Forest) → types text file row ≡ gather (type_of text file) row
  types-gathered nothing = refl
  types-gathered (tree_then k start end children rest) =
      ap (λ l. option_to_list (type_of text file (record { kind = k; start = start; end = end; children = children })) ++ l) (types-gathered rest)

  pub forms-gathered : (row : Forest) → forms text file row ≡ gather (form_of text file) row
  forms-gathered nothing = refl
  forms-gathered (tree_then k start end children rest) =
      ap (λ l. option_to_list (form_of text file (record { kind = k; start = start; end = end; children = children })) ++ l) (forms-gathered rest)

  pub choices-gathered : (row : Forest) → selections.choices text file row ≡ gather (selections_bridge.choice_of text file) row
  choices-gathered nothing = refl
  choices-gathered (tree_then k start end children rest) =
      ap (λ l. option_to_list (selections_bridge.choice_of text file (record { kind = k; start = start; end = end; children = children })) ++ l) (choices-gathered rest)

-- ---- what stands in the first tree of a kind

pub listed-inside : {T : Type 0} (of : Plain → Option T) (k : SyntaxKind) (row : Forest) → listed (in_first k (gather of) row) ≡ gather of (inside k row)
listed-inside {T = T} of k row = within (child k row)
  where
    within : (o : Option Plain) → listed (option_map (λ (tree : Plain). gather of tree.children) o) ≡ gather of (children_of o)
    within None = refl
    within (Some tree) = refl

pub first-inside : {T : Type 0} (of : Plain → Option T) (k : SyntaxKind) (row : Forest) → joined (in_first k (first of) row) ≡ first of (inside k row)
first-inside {T = T} of k row = within (child k row)
  where
    within : (o : Option Plain) → joined (option_map (λ (tree : Plain). first of tree.children) o) ≡ first of (children_of o)
    within None = refl
    within (Some tree) = refl

module _ (text : Text) (file : FileId) where
  pub nth-is : (n : ℕ) (row : Forest) → name_there text file (slice_get (words text row) n) ≡ nth_name text file n row
  nth-is n row = sym (nth-name-there text file n row)

  name-within : (o : Option Plain) → name_there text file (joined (option_map (λ (tree : Plain). first_word text tree.children) o)) ≡ nth_name text file 0 (children_of o)
  name-within None = nth-is 0 nothing
  name-within (Some tree) = nth-is 0 tree.children

  pub name-inside : (k : SyntaxKind) (row : Forest) → name_there text file (joined (in_first k (first_word text) row)) ≡ nth_name text file 0 (inside k row)
  name-inside k row = name-within (child k row)

  condition-within : (o : Option Plain) → name_there text file (joined (option_map (λ (tree : Plain). joined (in_first kind.NamedType (first_word text) tree.children)) o))
      ≡ named_type_in text file (children_of o)
  unfolding named_type_in
  condition-within None = nth-is 0 nothing
  condition-within (Some tree) = name-inside kind.NamedType tree.children

  pub condition-is : (row : Forest) → name_there text file (joined (in_first kind.TypeCondition (λ inner. joined (in_first kind.NamedType (first_word text) inner)) row))
      ≡ selections.type_condition text file row
  unfolding selections.type_condition
  condition-is row = condition-within (child kind.TypeCondition row)

  pub named-type-is : (row : Forest) → name_there text file (joined (in_first kind.NamedType (first_word text) row)) ≡ named_type_in text file row
  unfolding named_type_in
  named-type-is row = name-inside kind.NamedType row

  pub arguments-are : (row : Forest) → listed (in_first kind.Arguments (gather (argument_of text file)) row) ≡ uses.arguments text file row
  unfolding uses.arguments
  arguments-are row = listed-inside (argument_of text file) kind.Arguments row

  pub directives-are : (row : Forest) → listed (in_first kind.Directives (gather (directive_of text file)) row) ≡ uses.directives text file row
  unfolding uses.directives
  directives-are row = listed-inside (directive_of text file) kind.Directives row

  pub selections-are : (row : Forest) → listed (in_first kind.SelectionSet (gather (selections.selection_of text file)) row) ≡ selections.selected text file row
  selections-are row =
      listed-inside (selections.selection_of text file) kind.SelectionSet row
      ∙ sym (selections-gathered text file (inside kind.SelectionSet row)) ∙ selected-inside text file row

  pub variables-are : (row : Forest) → listed (in_first kind.VariableDefinitions (gather (variable_of text file)) row) ≡ operations.variables text file row
  unfolding operations.variables
  variables-are row = listed-inside (variable_of text file) kind.VariableDefinitions row

  pub inputs-are : (row : Forest) → listed (in_first kind.ArgumentsDefinition (gather (input_value_of text file)) row) ≡ fields.argument_definitions text file row
  unfolding fields.argument_definitions
  inputs-are row = listed-inside (input_value_of text file) kind.ArgumentsDefinition row

  pub input-fields-are : (row : Forest) → listed (in_first kind.InputFieldsDefinition (gather (input_value_of text file)) row) ≡ fields.input_fields text file row
  unfolding fields.input_fields
  input-fields-are row = listed-inside (input_value_of text file) kind.InputFieldsDefinition row

  pub fields-are : (row : Forest) → listed (in_first kind.FieldsDefinition (gather (field_of text file)) row) ≡ fields.fields text file row
  unfolding fields.fields
  fields-are row = listed-inside (field_of text file) kind.FieldsDefinition row

  pub enum-values-are : (row : Forest) → listed (in_first kind.EnumValuesDefinition (gather (enum_value_of text file)) row) ≡ fields.enum_values text file row
  unfolding fields.enum_values
  enum-values-are row = listed-inside (enum_value_of text file) kind.EnumValuesDefinition row

  pub interfaces-are : (row : Forest) → listed (in_first kind.ImplementsInterfaces (gather (named_type_of text file)) row) ≡ definitions.interfaces text file row
  unfolding definitions.interfaces
  interfaces-are row = listed-inside (named_type_of text file) kind.ImplementsInterfaces row

  pub members-are : (row : Forest) → listed (in_first kind.UnionMemberTypes (gather (named_type_of text file)) row) ≡ definitions.members text file row
  unfolding definitions.members
  members-are row = listed-inside (named_type_of text file) kind.UnionMemberTypes row

  pub description-is : (row : Forest) → joined (in_first kind.Description (first (string_of text)) row) ≡ literals.description text row
  unfolding literals.description
  description-is row = first-inside (string_of text) kind.Description row

  pub default-is : (row : Forest) → joined (in_first kind.DefaultValue (first (value_of text file)) row) ≡ default_value text file row
  unfolding default_value
  default-is row = first-inside (value_of text file) kind.DefaultValue row
