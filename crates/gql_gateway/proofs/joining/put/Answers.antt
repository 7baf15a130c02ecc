use Rattle.std.proofs.Common.{◌≡◌, ℕ, List, None, sym, ap, ◌∙◌}
use Rattle.std.specs.Map.{lookup}
use Rattle.std.specs.Str.{bytes_eq}
use Rattle.gql_gateway.proofs.AbsentKeys.{no-place}
use Rattle.gql_gateway.proofs.joining.put.Goals as goal

pub insert_new-requires : goal.insert_new-requires
insert_new-requires c =
    let same = c.in_ok-key.ensures ∙ c.text.ensures in
    no-place c.in_ok-key.key c.args.members.now (ap (λ (k : List ℕ). lookup (bytes_eq k) c.args.members.now) same ∙ c.requires)
