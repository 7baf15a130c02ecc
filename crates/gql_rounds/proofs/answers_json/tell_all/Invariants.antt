use Rattle.std.proofs.Common.{◌≡◌, take}
use Rattle.gql_rounds.specs.Told.{all_told}
use Rattle.gql_rounds.proofs.answers_json.tell_all.Given as goal

-- those so far are told
abbrev pub invariant-loop-item : goal.invariant-loop-item
invariant-loop-item l = l.answers ≡ all_told l.fn.answers (take l.item-index l.items)
