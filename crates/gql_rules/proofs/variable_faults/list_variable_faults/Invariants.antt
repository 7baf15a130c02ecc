use Rattle.std.proofs.Common.{take}
use Rattle.gql_rules.proofs.Told.{AreSoFar}
use Rattle.gql_rules.proofs.variable_faults.list_variable_faults.Given as goal
use Rattle.gql_rules.specs.bridge.Views.{rows_of}

-- the operations so far are judged
abbrev pub invariant-loop-operation : goal.invariant-loop-operation
invariant-loop-operation l = AreSoFar l.schema l.document.fragments (take l.operation-index l.operation-items) l.fn.faults (rows_of l.rows) l.faults
