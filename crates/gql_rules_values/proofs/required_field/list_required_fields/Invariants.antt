use Rattle.std.proofs.Common.{◌≡◌, ◌++◌, drop}
use Rattle.gql_rules_values.specs.RequiredField.{required_fields}
use Rattle.gql_rules_values.proofs.required_field.list_required_fields.Given as goal

-- what is listed and what is left make the whole
abbrev pub invariant-loop-field : goal.invariant-loop-field
invariant-loop-field l = l.faults ++ required_fields l.literal l.members (drop l.field-index l.fields) ≡ l.fn.faults ++ required_fields l.literal l.members l.fields
