-- What a row keeps once one tree more stands at its end.
use Rattle.std.proofs.Common.{◌≡◌, List, [], ◌∷◌, ◌++◌, option_to_list, Option, Some, None, refl, ap, ◌∙◌}
use Rattle.std.proofs.lemmas.List.{append-nil}
use Rattle.std.specs.Prelude.{option_and_then}
use Rattle.gql_source.specs.declared.file_id.FileId.{FileId}
use Rattle.gql_ast_base.specs.Forest.{Forest, Plain, row_of as forest_of}
use Rattle.gql_ast_base.specs.SyntaxKind.{SyntaxKind}
use Rattle.gql_ast_base.specs.SyntaxKind.TheVariants as kind
use Rattle.gql_ast_base.specs.Parts.{Text, or_else, gather, first}
use Rattle.gql_ast_base.specs.Directives.{argument_of, directive_of}
use Rattle.gql_ast_base.specs.Literals.{string_of}
use Rattle.gql_ast_base.specs.NamedTypes.{named_type_of}
use Rattle.gql_ast_base.specs.OperationTypes.{operation_type_of, root_operation_of}
use Rattle.gql_ast_base.specs.Types.{type_of}
use Rattle.gql_ast_base.specs.bridge.Types.{form_of}
use Rattle.gql_ast_base.specs.Values.{value_of}
use Rattle.gql_ast_base.specs.bridge.Values.{content_of, member_of}
use Rattle.gql_ast.specs.Selections as selections
use Rattle.gql_ast.specs.bridge.Selections as selections_bridge
use Rattle.gql_ast.specs.Operations.{variable_of}
use Rattle.gql_ast.specs.Fields.{input_value_of, field_of, enum_value_of}
use Rattle.gql_ast.specs.Documents as documents
use Rattle.gql_ast_reader.specs.declared.part.Part.{Part}
use Rattle.gql_ast_reader.specs.declared.row.Own.TheVariants as own
use Rattle.gql_ast_reader.specs.bridge.Places.{first_word}
use Rattle.gql_ast_reader.specs.bridge.Standing.{in_first, joined, part_of}
use Rattle.gql_ast_reader.specs.bridge.Kept.{words_of, roles_of, singles_of, groups_of, own_of, row_of}
use Rattle.gql_ast_reader.specs.bridge.Taking.{kept, added, word_part, root_operation_part, words_taken, roles_taken, groups_taken, singles_taken, own_taken, taken_if}
use Rattle.gql_ast_reader.proofs.Behind.{gather-behind, first-behind, child-behind}
use Rattle.gql_ast_reader.proofs.Sorts.{with_part, in_it, roles-at, groups-at, singles-at, root_operation-at, argument-at, directive-at, selection-at, choice-at, value-at, pair-at, variable-at, input-at, field-at, enum_value-at, name-at, content-at, text-at, word-at}
use Rattle.gql_ast_reader.proofs.Defined.{defined-at, definition-at}
use Rattle.gql_ast_reader.proofs.MoreWords.{words-behind}
use Rattle.gql_ast_reader.proofs.Own as owns

else-kept : {T : Type 0} (a b : Option T) → or_else a b ≡ kept a b
else-kept None None = refl
else-kept (Some x) None = refl
else-kept None (Some y) = refl
else-kept (Some x) (Some y) = refl

append-added : {T : Type 0} (list : List T) (o : Option T) → list ++ option_to_list o ≡ added list o
append-added list None = append-nil list
append-added list (Some x) = refl

module _ (text : Text) (file : FileId) (trees : List Plain) (tree : Plain) where
  in-first-behind : {T : Type 0} (k : SyntaxKind) (of : Forest → T)
      → in_first k of (forest_of (trees ++ tree ∷ [])) ≡ kept (in_first k of (forest_of trees)) (in_it text file tree.start tree.end tree.children k of tree)
  in-first-behind k of = child-behind (λ t. of t.children) k trees tree ∙ else-kept (in_first k of (forest_of trees)) (in_it text file tree.start tree.end tree.children k of tree)

  all-behind : {T : Type 0} (of : Plain → Option T) → gather of (forest_of (trees ++ tree ∷ [])) ≡ added (gather of (forest_of trees)) (of tree)
  all-behind of = gather-behind of trees tree ∙ append-added (gather of (forest_of trees)) (of tree)

  one-behind : {T : Type 0} (of : Plain → Option T) → first of (forest_of (trees ++ tree ∷ [])) ≡ kept (first of (forest_of trees)) (of tree)
  one-behind of = first-behind of trees tree ∙ else-kept (first of (forest_of trees)) (of tree)

  roles-behind : roles_of text (forest_of (trees ++ tree ∷ [])) ≡ with_part roles_taken (roles_of text (forest_of trees)) (part_of text file tree)
  roles-behind = (λ i. record {
    alias = in-first-behind kind.Alias (first_word text) i;
    fragment_name = in-first-behind kind.FragmentName (first_word text) i;
    type_condition = in-first-behind kind.TypeCondition (λ inner. joined (in_first kind.NamedType (first_word text) inner)) i;
    enum_value = in-first-behind kind.EnumValue (first_word text) i;
    variable = in-first-behind kind.Variable (first_word text) i;
    named_type = in-first-behind kind.NamedType (first_word text) i;
  }) ∙ roles-at text file tree.start tree.end tree.children (roles_of text (forest_of trees)) tree.kind

  groups-behind : groups_of text file (forest_of (trees ++ tree ∷ [])) ≡ with_part groups_taken (groups_of text file (forest_of trees)) (part_of text file tree)
  groups-behind = (λ i. record {
    arguments = in-first-behind kind.Arguments (gather (argument_of text file)) i;
    directives = in-first-behind kind.Directives (gather (directive_of text file)) i;
    selections = in-first-behind kind.SelectionSet (gather (selections.selection_of text file)) i;
    variables = in-first-behind kind.VariableDefinitions (gather (variable_of text file)) i;
    inputs = in-first-behind kind.ArgumentsDefinition (gather (input_value_of text file)) i;
    input_fields = in-first-behind kind.InputFieldsDefinition (gather (input_value_of text file)) i;
    fields = in-first-behind kind.FieldsDefinition (gather (field_of text file)) i;
    enum_values = in-first-behind kind.EnumValuesDefinition (gather (enum_value_of text file)) i;
    interfaces = in-first-behind kind.ImplementsInterfaces (gather (named_type_of text file)) i;
    members = in-first-behind kind.UnionMemberTypes (gather (named_type_of text file)) i;
  }) ∙ groups-at text file tree.start tree.end tree.children (groups_of text file (forest_of trees)) tree.kind

  singles-behind : singles_of text file (forest_of (trees ++ tree ∷ [])) ≡ with_part (singles_taken text file) (singles_of text file (forest_of trees)) (part_of text file tree)
  singles-behind = (λ i. record {
    operation = one-behind (operation_type_of text) i;
    form = one-behind (form_of text file) i;
    ty = one-behind (type_of text file) i;
    default_value = in-first-behind kind.DefaultValue (first (value_of text file)) i;
    description = in-first-behind kind.Description (first (string_of text)) i;
  }) ∙ singles-at text file tree.start tree.end tree.children (singles_of text file (forest_of trees)) tree.kind

  own-behind : (k : SyntaxKind) → own_of text file k (forest_of (trees ++ tree ∷ [])) ≡ with_part (own_taken text file) (own_of text file k (forest_of trees)) (part_of text file tree)
  own-behind kind.Value =
      ap own.Content (one-behind (content_of text file) ∙ ap (kept (first (content_of text file) (forest_of trees))) (content-at text file tree.start tree.end tree.children tree.kind))
      ∙ owns.own-content text file (first (content_of text file) (forest_of trees)) (part_of text file tree)
  own-behind kind.Description =
      ap own.Text (one-behind (string_of text) ∙ ap (kept (first (string_of text) (forest_of trees))) (text-at text file tree.start tree.end tree.children tree.kind))
      ∙ owns.own-text text file (first (string_of text) (forest_of trees)) (part_of text file tree)
  own-behind kind.Argument =
      ap own.Value (one-behind (value_of text file) ∙ ap (kept (first (value_of text file) (forest_of trees))) (value-at text file tree.start tree.end tree.children tree.kind))
      ∙ owns.own-value text file (first (value_of text file) (forest_of trees)) (part_of text file tree)
  own-behind kind.ObjectField =
      ap own.Value (one-behind (value_of text file) ∙ ap (kept (first (value_of text file) (forest_of trees))) (value-at text file tree.start tree.end tree.children tree.kind))
      ∙ owns.own-value text file (first (value_of text file) (forest_of trees)) (part_of text file tree)
  own-behind kind.DefaultValue =
      ap own.Value (one-behind (value_of text file) ∙ ap (kept (first (value_of text file) (forest_of trees))) (value-at text file tree.start tree.end tree.children tree.kind))
      ∙ owns.own-value text file (first (value_of text file) (forest_of trees)) (part_of text file tree)
  own-behind kind.Selection =
      ap own.Choice (one-behind (selections_bridge.choice_of text file) ∙ ap (kept (first (selections_bridge.choice_of text file) (forest_of trees))) (choice-at text file tree.start tree.end tree.children tree.kind))
      ∙ owns.own-choice text file (first (selections_bridge.choice_of text file) (forest_of trees)) (part_of text file tree)
  own-behind kind.Definition =
      ap own.Defined (one-behind (documents.choice_of text file) ∙ ap (kept (first (documents.choice_of text file) (forest_of trees))) (defined-at text file tree.start tree.end tree.children tree.kind))
      ∙ owns.own-defined text file (first (documents.choice_of text file) (forest_of trees)) (part_of text file tree)
  own-behind kind.Arguments =
      ap own.Arguments (all-behind (argument_of text file) ∙ ap (added (gather (argument_of text file) (forest_of trees))) (argument-at text file tree.start tree.end tree.children tree.kind))
      ∙ owns.own-arguments text file (gather (argument_of text file) (forest_of trees)) (part_of text file tree)
  own-behind kind.Directives =
      ap own.Directives (all-behind (directive_of text file) ∙ ap (added (gather (directive_of text file) (forest_of trees))) (directive-at text file tree.start tree.end tree.children tree.kind))
      ∙ owns.own-directives text file (gather (directive_of text file) (forest_of trees)) (part_of text file tree)
  own-behind kind.SelectionSet =
      ap own.Selections (all-behind (selections.selection_of text file) ∙ ap (added (gather (selections.selection_of text file) (forest_of trees))) (selection-at text file tree.start tree.end tree.children tree.kind))
      ∙ owns.own-selections text file (gather (selections.selection_of text file) (forest_of trees)) (part_of text file tree)
  own-behind kind.ListValue =
      ap own.Values (all-behind (value_of text file) ∙ ap (added (gather (value_of text file) (forest_of trees))) (value-at text file tree.start tree.end tree.children tree.kind))
      ∙ owns.own-values text file (gather (value_of text file) (forest_of trees)) (part_of text file tree)
  own-behind kind.ObjectValue =
      ap own.Pairs (all-behind (member_of text file) ∙ ap (added (gather (member_of text file) (forest_of trees))) (pair-at text file tree.start tree.end tree.children tree.kind))
      ∙ owns.own-pairs text file (gather (member_of text file) (forest_of trees)) (part_of text file tree)
  own-behind kind.VariableDefinitions =
      ap own.Variables (all-behind (variable_of text file) ∙ ap (added (gather (variable_of text file) (forest_of trees))) (variable-at text file tree.start tree.end tree.children tree.kind))
      ∙ owns.own-variables text file (gather (variable_of text file) (forest_of trees)) (part_of text file tree)
  own-behind kind.ArgumentsDefinition =
      ap own.Inputs (all-behind (input_value_of text file) ∙ ap (added (gather (input_value_of text file) (forest_of trees))) (input-at text file tree.start tree.end tree.children tree.kind))
      ∙ owns.own-inputs text file (gather (input_value_of text file) (forest_of trees)) (part_of text file tree)
  own-behind kind.InputFieldsDefinition =
      ap own.Inputs (all-behind (input_value_of text file) ∙ ap (added (gather (input_value_of text file) (forest_of trees))) (input-at text file tree.start tree.end tree.children tree.kind))
      ∙ owns.own-inputs text file (gather (input_value_of text file) (forest_of trees)) (part_of text file tree)
  own-behind kind.FieldsDefinition =
      ap own.Fields (all-behind (field_of text file) ∙ ap (added (gather (field_of text file) (forest_of trees))) (field-at text file tree.start tree.end tree.children tree.kind))
      ∙ owns.own-fields text file (gather (field_of text file) (forest_of trees)) (part_of text file tree)
  own-behind kind.EnumValuesDefinition =
      ap own.EnumValues (all-behind (enum_value_of text file) ∙ ap (added (gather (enum_value_of text file) (forest_of trees))) (enum_value-at text file tree.start tree.end tree.children tree.kind))
      ∙ owns.own-enumvalues text file (gather (enum_value_of text file) (forest_of trees)) (part_of text file tree)
  own-behind kind.ImplementsInterfaces =
      ap own.Names (all-behind (named_type_of text file) ∙ ap (added (gather (named_type_of text file) (forest_of trees))) (name-at text file tree.start tree.end tree.children tree.kind))
      ∙ owns.own-names text file (gather (named_type_of text file) (forest_of trees)) (part_of text file tree)
  own-behind kind.UnionMemberTypes =
      ap own.Names (all-behind (named_type_of text file) ∙ ap (added (gather (named_type_of text file) (forest_of trees))) (name-at text file tree.start tree.end tree.children tree.kind))
      ∙ owns.own-names text file (gather (named_type_of text file) (forest_of trees)) (part_of text file tree)
  own-behind kind.Document =
      ap own.Definitions (all-behind (documents.definition_of text file) ∙ ap (added (gather (documents.definition_of text file) (forest_of trees))) (definition-at text file tree.start tree.end tree.children tree.kind))
      ∙ owns.own-definitions text file (gather (documents.definition_of text file) (forest_of trees)) (part_of text file tree)
  own-behind _ = owns.own-nothing text file (part_of text file tree)

  assembled : (k : SyntaxKind) (p : Option Part) → (record {
    words = words_taken text (words_of text (forest_of trees)) (option_and_then word_part p);
    roles = with_part roles_taken (roles_of text (forest_of trees)) p;
    singles = with_part (singles_taken text file) (singles_of text file (forest_of trees)) p;
    groups = with_part groups_taken (groups_of text file (forest_of trees)) p;
    root_operations = added (gather (root_operation_of text file) (forest_of trees)) (option_and_then root_operation_part p);
    own = with_part (own_taken text file) (own_of text file k (forest_of trees)) p;
  }) ≡ taken_if text file (row_of text file k (forest_of trees)) p
  assembled k None = refl
  assembled k (Some p) = refl

  -- the row with one tree more is the row with that tree's part
  pub row-behind : (k : SyntaxKind) → row_of text file k (forest_of (trees ++ tree ∷ [])) ≡ taken_if text file (row_of text file k (forest_of trees)) (part_of text file tree)
  row-behind k = (λ i. record {
    words = (words-behind text trees tree ∙ ap (words_taken text (words_of text (forest_of trees))) (word-at text file tree.start tree.end tree.children tree.kind)) i;
    roles = roles-behind i;
    singles = singles-behind i;
    groups = groups-behind i;
    root_operations = (all-behind (root_operation_of text file) ∙ ap (added (gather (root_operation_of text file) (forest_of trees))) (root_operation-at text file tree.start tree.end tree.children tree.kind)) i;
    own = own-behind k i;
  }) ∙ assembled k (part_of text file tree)
