use Rattle.std.proofs.Common.{◌≡◌, ◌++◌, drop}
use Rattle.gql_schema_rules.specs.RecursiveDirectiveDefinition.{directive_nodes}
use Rattle.gql_schema_rules.proofs.recursive_directive_definition.push_directives.Given as goal

-- what is made and what is left make the whole
abbrev pub invariant-loop-used : goal.invariant-loop-used
invariant-loop-used l = l.nodes ++ directive_nodes l.definitions (drop l.used-index l.directives) ≡ l.fn.nodes ++ directive_nodes l.definitions l.directives
