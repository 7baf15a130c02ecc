use Rattle.std.proofs.Common.{◌≡◌, ◌++◌, drop}
use Rattle.gql_schema_rules_parts.specs.InputValues.{input_fields_faults}
use Rattle.gql_schema_rules_parts.proofs.input_values.list_input_fields.Given as goal

-- what is listed and what is left make the whole
abbrev pub invariant-loop-value : goal.invariant-loop-value
invariant-loop-value l = l.faults ++ input_fields_faults l.schema (drop l.value-index l.values) ≡ l.fn.faults ++ input_fields_faults l.schema l.values
