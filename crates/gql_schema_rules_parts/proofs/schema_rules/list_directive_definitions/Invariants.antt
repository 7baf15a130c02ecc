use Rattle.std.proofs.Common.{◌≡◌, ◌++◌, drop}
use Rattle.std.specs.List.{flat_map}
use Rattle.gql_schema_rules_parts.specs.SchemaRules.{directive_definition_faults, directive_definitions_faults}
use Rattle.gql_schema_rules_parts.proofs.schema_rules.list_directive_definitions.Given as goal

-- what is listed and what is left make the whole
abbrev pub invariant-loop-definition : goal.invariant-loop-definition
invariant-loop-definition l = l.faults ++ flat_map (directive_definition_faults l.schema) (drop l.definition-index l.definition-items) ≡ l.fn.faults ++ directive_definitions_faults l.schema
