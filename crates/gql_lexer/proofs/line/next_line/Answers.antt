use Rattle.std.proofs.Common.{◌≡◌, ◌∙◌, ap, sym}
use Rattle.gql_lexer.specs.BlockString.{lines}
use Rattle.gql_lexer.specs.bridge.BlockWriting.{end_len}
use Rattle.gql_lexer.proofs.BlockLines.{following-none, following-some}
use Rattle.gql_lexer.proofs.line.next_line.Goals as goal

pub returns-then-end-eq0-clause-none : goal.returns-then-end-eq0-clause-none
returns-then-end-eq0-clause-none c = following-none c.args.behind.now (cc)

pub returns-clause-some : goal.returns-clause-some
returns-clause-some c =
    let e : c.end_len-end.result ≡ end_len c.args.behind.now = c.end_len-end.ensures ∙ ap end_len c.as_bytes.ensures.value in
    following-some c.args.behind.now (λ h. c.if-end-eq0.false (e ∙ h))
    ∙ ap lines (rw e at (sym c.skip.ensures)) ∙ c.split_line.ensures.lines
