use Rattle.std.proofs.Common.{◌≡◌, ◌++◌, drop}
use Rattle.std.specs.List.{flat_map}
use Rattle.gql_document.specs.Build as spec
use Rattle.gql_document.proofs.operation_faults.Judge.list_operations.Given as goal

-- what is there and what is left make the whole
abbrev pub invariant-loop-operation : goal.invariant-loop-operation
invariant-loop-operation l = l.faults ++ flat_map (spec.operation_faults l.self.schema.now l.self.fragments.now l.several) (drop l.operation-index l.operation-items)
    ≡ l.fn.faults ++ flat_map (spec.operation_faults l.self.schema.now l.self.fragments.now l.several) l.operation-items
