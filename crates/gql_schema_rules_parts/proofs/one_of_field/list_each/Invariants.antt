use Rattle.std.proofs.Common.{◌≡◌, ◌++◌, drop}
use Rattle.std.specs.List.{flat_map}
use Rattle.gql_schema_rules_parts.specs.OneOfField.{one_of_field}
use Rattle.gql_schema_rules_parts.proofs.one_of_field.list_each.Given as goal

-- what is listed and what is left make the whole
abbrev pub invariant-loop-field : goal.invariant-loop-field
invariant-loop-field l = l.faults ++ flat_map (one_of_field l.owner) (drop l.field-index l.fields) ≡ l.fn.faults ++ flat_map (one_of_field l.owner) l.fields
