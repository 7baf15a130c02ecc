use Rattle.std.proofs.Common.{◌≡◌, ◌+◌, ◌∙◌, sym, ap, drop}
use Rattle.gql_lexer.specs.Lex.{blank_len, run_len}
use Rattle.gql_lexer.specs.bridge.Lex.{token}
use Rattle.gql_lexer.specs.declared.token.TokenKind.TheVariants.{Ignored}
use Rattle.gql_lexer.proofs.Blanks.{blanks_end, blanks-row, blanks-alone}
use Rattle.gql_lexer.proofs.scan.blanks.Goals as goal

pub returns-then-byte-clause-value : goal.returns-then-byte-clause-value
returns-then-byte-clause-value c =
    let at = c.args.at.now in
    let e : c.past-end.result ≡ blanks_end at = c.past-end.ensures.value in
    ap (token Ignored) (c.past_items.ensures.value ∙ ap (λ n. n + run_len blank_len (drop n at)) e ∙ sym (blanks-row at c.requires.some c.requires.blank))

pub returns-else-byte-clause-value : goal.returns-else-byte-clause-value
returns-else-byte-clause-value c =
    let at = c.args.at.now in
    let e : c.past-end.result ≡ blanks_end at = c.past-end.ensures.value in
    ap (token Ignored) (e ∙ sym (blanks-alone at c.requires.some c.requires.blank (λ m. c.if-byte.false (c.byte.ensures.value ∙ rw e m))))
