use Rattle.std.proofs.Common.{◌≡◌, ◌-◌, ℕ, length, take, sym, subst}
use Rattle.jb_io.specs.Reply.{line}
use Rattle.gql_client_schema.proofs.Lines.{front_line}
use Rattle.gql_client_schema.proofs.reply.before_line_feed.Goals as goal

pub returns : goal.returns
returns c =
    let text = c.args.text in
    let e : c.len-len.result ≡ length text = c.len-len.ensures.value in
    rw c.truncate.ensures (subst (λ (n : ℕ). line (take (n - 1) text) ≡ text) (sym e) (front_line text c.requires))
