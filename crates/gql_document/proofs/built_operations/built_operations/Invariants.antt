use Rattle.std.proofs.Common.{◌≡◌, ◌++◌}
use Rattle.std.specs.List.{flat_map}
use Rattle.gql_document.specs.Build as spec
use Rattle.gql_document.proofs.built_operations.built_operations.Given as goal

-- what is there and what is left make the whole
abbrev pub invariant-loop-operation : goal.invariant-loop-operation
invariant-loop-operation l = l.made ++ flat_map (spec.built_operation l.schema l.several) l.operation-iterator ≡ flat_map (spec.built_operation l.schema l.several) l.fn.operations
