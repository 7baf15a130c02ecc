-- Fields of one response key that one object can have are given the same arguments: section 5.3.2 of GraphQL October 2021.
-- `is_broken` of FieldSelectionMerging.antt says where it is broken.
use Rattle.std.specs.Prelude.{Bool, not, false, ◌&&◌, ◌==◌, List, [], ◌∷◌, length}
use Rattle.std.specs.List.{list_all}
use Rattle.std.specs.Option.{option_map_or}
use Rattle.gql_ast_base.specs.declared.directive.Argument.{Argument}
use Rattle.gql_diag_messages.specs.declared.rule.Rule.TheVariants.{ConflictingFieldArgument}
use Rattle.gql_diag_messages.specs.declared.diagnostic_data.DiagnosticData.{DiagnosticData}
use Rattle.gql_rules_values.specs.Faults.{fault}
use Rattle.gql_schema_types.specs.Called.{argument_name}
use Rattle.gql_schema_types.specs.Entries.{entry}
use Rattle.gql_rules_merging.specs.Numbering.{Selected}
use Rattle.gql_rules_merging.specs.ResponseKeys.{key_of}
use Rattle.gql_rules_merging.specs.SameValue.{same_value}

-- an argument has the value of the first of its name
abbrev pub is_given : List Argument → Argument → Bool
is_given others argument = option_map_or (λ (other : Argument). same_value argument.value other.value) (entry argument_name argument.name.text others) false

-- as many arguments, and each among the others, in any order
abbrev pub same_arguments : List Argument → List Argument → Bool
same_arguments arguments others = (length arguments == length others) && list_all (is_given others) arguments

abbrev pub arguments_conflict : Selected → Selected → Bool
arguments_conflict one other = not (same_arguments one.arguments other.arguments)

-- told at the later field, with the place of the earlier one
abbrev pub conflicting_arguments : Selected → Selected → DiagnosticData
conflicting_arguments earlier later = fault ConflictingFieldArgument (key_of earlier ∷ []) later.location earlier.location
