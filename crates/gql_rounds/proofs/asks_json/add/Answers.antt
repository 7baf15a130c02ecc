use Rattle.std.proofs.Common.{ℕ, List, is_some, ap, ◌∙◌}
use Rattle.std.specs.Map.{lookup}
use Rattle.std.specs.Str.{bytes_eq}
use Rattle.gql_rounds.proofs.AbsentKeys.{no-place}
use Rattle.gql_rounds.proofs.asks_json.add.Goals as goal

pub insert_new-requires : goal.insert_new-requires
insert_new-requires c =
    no-place c.in_ok-key.key c.args.members.now
    (ap (λ (k : List ℕ). is_some (lookup (bytes_eq k) c.args.members.now)) c.in_ok-key.ensures ∙ ap is_some c.requires)
