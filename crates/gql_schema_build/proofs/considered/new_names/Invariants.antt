use Rattle.std.proofs.Common.{◌≡◌, ◌++◌}
use Rattle.gql_schema_build.specs.Considered as spec
use Rattle.gql_schema_build.proofs.considered.new_names.Given as goal

-- what is there and what is left make the whole
abbrev pub invariant-loop-definition : goal.invariant-loop-definition
invariant-loop-definition l = l.made ++ spec.new_names l.built_in l.definition-iterator ≡ spec.new_names l.built_in l.fn.definitions
