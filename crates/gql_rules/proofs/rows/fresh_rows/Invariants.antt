use Rattle.std.proofs.Common.{◌≡◌, ◌++◌, drop}
use Rattle.gql_rules.specs.bridge.Operations.{fresh_rows}
use Rattle.gql_rules.specs.bridge.Views.{rows_of}
use Rattle.gql_rules.proofs.rows.fresh_rows.Given as goal

-- those that are there, and those that are left, make the whole
abbrev pub invariant-loop-fragment : goal.invariant-loop-fragment
invariant-loop-fragment l = rows_of l.rows ++ fresh_rows l.schema (drop l.fragment-index l.fragments) ≡ fresh_rows l.schema l.fragments
