use Rattle.std.proofs.Common.{◌≡◌, ◌+◌, Some, cond, drop, sym, ap, ◌∙◌, arith}
use Rattle.std.specs.Option.{option_copied}
use Rattle.std.specs.Str.{bytes_eq}
use Rattle.std.specs.Map.{lookup}
use Rattle.gql_coerce.specs.LiteralValue.{last_of}
use Rattle.gql_coerce.proofs.Found.{found-inserted}
use Rattle.gql_coerce.proofs.Steps.{drop_at}
use Rattle.gql_coerce.proofs.literal_members.last_by_name.Goals as goal

pub loop-member-preserved : goal.loop-member-preserved
loop-member-preserved c = λ name.
    let i = c.loop-member.member-index in
    let members = c.args.members.now in
    let member = c.member-item.result in
    let rest = drop (i + 1) members in
    let before = option_copied (lookup (bytes_eq name) c.loop-member.found) in
    let key : c.in_ok-key.key ≡ member.0.text = c.in_ok-key.ensures ∙ c.as_str.ensures.text in
    ap (λ found. last_of (option_copied (lookup (bytes_eq name) found)) name rest) c.in_ok-insert.ensures
    ∙ ap (λ found. last_of found name rest) (found-inserted c.loop-member.found c.in_ok-key.key _ name)
    ∙ ap (λ text. last_of (cond (bytes_eq name text) (Some member.1) before) name rest) key
    ∙ sym (ap (last_of before name) (drop_at members i member (omega arith) c.member-item.is))
    ∙ c.loop-member.invariant name
