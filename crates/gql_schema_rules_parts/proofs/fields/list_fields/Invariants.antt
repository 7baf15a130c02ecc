use Rattle.std.proofs.Common.{◌≡◌, ◌++◌, drop}
use Rattle.gql_schema_rules_parts.specs.Fields.{fields_faults}
use Rattle.gql_schema_rules_parts.proofs.fields.list_fields.Given as goal

-- what is listed and what is left make the whole
abbrev pub invariant-loop-field : goal.invariant-loop-field
invariant-loop-field l = l.faults ++ fields_faults l.schema (drop l.field-index l.fields) ≡ l.fn.faults ++ fields_faults l.schema l.fields
