use Rattle.std.proofs.Common.{◌≡◌, ◌++◌, drop}
use Rattle.gql_schema_rules_parts.specs.TypeRules.{listed_names_faults}
use Rattle.gql_schema_rules_parts.proofs.types.list_listed_names.Given as goal

-- what is listed and what is left make the whole
abbrev pub invariant-loop-name : goal.invariant-loop-name
invariant-loop-name l = l.faults ++ listed_names_faults l.schema (drop l.name-index l.names) ≡ l.fn.faults ++ listed_names_faults l.schema l.names
