use Rattle.std.proofs.Common.{◌≡◌, ◌++◌, fold}
use Rattle.gql_schema_build.specs.DuplicateRootOperation.{duplicate_root_operations}
use Rattle.gql_schema_build.specs.Roots.{with_root}
use Rattle.gql_schema_build.proofs.duplicate_root_operation.add_roots.Given as goal

-- what is there and what is left make the whole
abbrev pub invariant-loop-operation_type : goal.invariant-loop-operation_type
invariant-loop-operation_type l = record {
  definition : fold with_root l.definition l.operation_type-iterator ≡ fold with_root l.fn.definition l.fn.roots;
  faults : l.faults ++ duplicate_root_operations l.definition l.operation_type-iterator ≡ l.fn.faults ++ duplicate_root_operations l.fn.definition l.fn.roots;
}
