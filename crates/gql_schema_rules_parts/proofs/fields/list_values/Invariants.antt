use Rattle.std.proofs.Common.{◌≡◌, ◌++◌, drop}
use Rattle.gql_schema_rules_parts.specs.Fields.{values_faults}
use Rattle.gql_schema_rules_parts.proofs.fields.list_values.Given as goal

-- what is listed and what is left make the whole
abbrev pub invariant-loop-value : goal.invariant-loop-value
invariant-loop-value l = l.faults ++ values_faults l.schema (drop l.value-index l.values) ≡ l.fn.faults ++ values_faults l.schema l.values
