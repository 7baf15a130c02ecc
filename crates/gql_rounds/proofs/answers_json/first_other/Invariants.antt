use Rattle.std.proofs.Common.{take}
use Rattle.std.specs.List.{AllByRecursion}
use Rattle.gql_rounds.specs.Told.{IsAnswer}
use Rattle.gql_rounds.proofs.answers_json.first_other.Given as goal

-- those so far are answers
abbrev pub invariant-loop-index : goal.invariant-loop-index
invariant-loop-index l = AllByRecursion IsAnswer (take l.index l.items)
