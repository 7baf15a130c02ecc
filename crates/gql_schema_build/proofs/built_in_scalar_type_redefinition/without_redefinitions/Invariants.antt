use Rattle.std.proofs.Common.{◌≡◌, ◌++◌}
use Rattle.gql_schema_build.specs.BuiltInScalarTypeRedefinition as spec
use Rattle.gql_schema_build.proofs.built_in_scalar_type_redefinition.without_redefinitions.Given as goal

-- what is sorted out and what is left make the whole
abbrev pub invariant-loop-definition : goal.invariant-loop-definition
invariant-loop-definition l = record {
  rest : l.rest ++ spec.without_redefinitions l.built_in l.definition-iterator ≡ spec.without_redefinitions l.built_in l.fn.definitions;
  faults : l.faults ++ spec.built_in_scalar_type_redefinitions l.built_in l.definition-iterator
      ≡ l.fn.faults ++ spec.built_in_scalar_type_redefinitions l.built_in l.fn.definitions;
}
