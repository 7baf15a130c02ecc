use Rattle.std.proofs.Common.{◌≡◌, ◌++◌, drop}
use Rattle.std.specs.List.{flat_map}
use Rattle.gql_document.specs.AmbiguousAnonymousOperation.{ambiguous_anonymous_operation}
use Rattle.gql_document.proofs.distinct.list_ambiguous.Given as goal

-- what is listed and what is left make the whole
abbrev pub invariant-loop-operation : goal.invariant-loop-operation
invariant-loop-operation l =
    l.faults ++ flat_map (ambiguous_anonymous_operation l.several) (drop l.operation-index l.operations)
    ≡ l.fn.faults ++ flat_map (ambiguous_anonymous_operation l.several) l.operations
