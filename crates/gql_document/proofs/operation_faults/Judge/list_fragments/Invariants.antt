use Rattle.std.proofs.Common.{◌≡◌, ◌++◌, drop}
use Rattle.std.specs.List.{flat_map}
use Rattle.gql_document.specs.Build as spec
use Rattle.gql_document.proofs.operation_faults.Judge.list_fragments.Given as goal

-- what is there and what is left make the whole
abbrev pub invariant-loop-fragment : goal.invariant-loop-fragment
invariant-loop-fragment l = l.faults ++ flat_map (spec.fragment_faults l.self.schema.now) (drop l.fragment-index l.fragment-items)
    ≡ l.fn.faults ++ flat_map (spec.fragment_faults l.self.schema.now) l.fragment-items
