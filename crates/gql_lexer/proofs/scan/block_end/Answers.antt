use Rattle.std.proofs.Common.{◌≡◌, ◌+◌, ◌∙◌, sym, ap, drop}
use Rattle.gql_lexer.specs.Lex.{block_len, run_len}
use Rattle.gql_lexer.proofs.Strings.{block_plain_end, block-row}
use Rattle.gql_lexer.proofs.scan.block_end.Goals as goal

pub returns-clause-value : goal.returns-clause-value
returns-clause-value c =
    let at = c.args.at.now in
    let e : c.past-plain.result ≡ block_plain_end at = c.past-plain.ensures.value in
    c.past_items.ensures.value ∙ ap (λ n. n + run_len block_len (drop n at)) e ∙ sym (block-row at)
