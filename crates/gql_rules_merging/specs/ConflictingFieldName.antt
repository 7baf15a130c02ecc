-- Fields of one response key that one object can have are the same field: section 5.3.2 of GraphQL October 2021. `is_broken` of
-- FieldSelectionMerging.antt says where it is broken.
use Rattle.std.specs.Prelude.{Bool, not, [], ◌∷◌}
use Rattle.std.specs.Str.{bytes_eq}
use Rattle.gql_diag_messages.specs.declared.rule.Rule.TheVariants.{ConflictingFieldName}
use Rattle.gql_diag_messages.specs.declared.diagnostic_data.DiagnosticData.{DiagnosticData}
use Rattle.gql_rules_values.specs.Faults.{fault}
use Rattle.gql_rules_merging.specs.Numbering.{Selected}
use Rattle.gql_rules_merging.specs.ResponseKeys.{key_of}

abbrev pub names_conflict : Selected → Selected → Bool
names_conflict one other = not (bytes_eq one.name.text other.name.text)

-- told at the later field, with the place of the earlier one
abbrev pub conflicting_names : Selected → Selected → DiagnosticData
conflicting_names earlier later =
    fault ConflictingFieldName (key_of earlier ∷ earlier.name.text ∷ later.name.text ∷ []) later.location earlier.location
