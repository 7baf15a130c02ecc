use Rattle.std.proofs.Common.{◌≡◌, ◌++◌}
use Rattle.gql_document.specs.OperationNameCollision as spec
use Rattle.gql_document.proofs.operation_name_collision.first_operations.Given as goal

-- what is there and what is left make the whole
abbrev pub invariant-loop-operation : goal.invariant-loop-operation
invariant-loop-operation l = record {
  operations : l.made ++ spec.first_after l.names l.operation-iterator ≡ spec.first_operations l.fn.operations;
  faults : l.faults ++ spec.collisions_after l.names l.operation-iterator ≡ l.fn.faults ++ spec.operation_name_collisions l.fn.operations;
}
