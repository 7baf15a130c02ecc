use Rattle.std.proofs.Common.{◌≡◌, [], drop}
use Rattle.gql_rules.specs.bridge.Operations.{definitions_of}
use Rattle.gql_rules.specs.UndefinedVariable.{variable_name}
use Rattle.gql_rules.proofs.variables.table_of.Given as goal
use Rattle.gql_schema_types.specs.Entries.{joined}

-- with those that are left it is the whole
abbrev pub invariant-loop-definition : goal.invariant-loop-definition
invariant-loop-definition l =
    joined variable_name (definitions_of l.table) (drop l.definition-index l.definition-items) ≡ joined variable_name [] l.definition-items
