use Rattle.std.proofs.Common.{◌∙◌, sym}
use Rattle.gql_lexer.proofs.Values.{is_escape}
use Rattle.gql_lexer.proofs.value.escape.Goals as goal

pub returns-then-len-gt0-clause-some : goal.returns-then-len-gt0-clause-some
returns-then-len-gt0-clause-some c =
    rw (c.escape_value.ensures, c.string_len-len.ensures.value)
    (is_escape c.args.at.now (sym c.byte.ensures.value ∙ c.if-byte-eq92.true) (rw c.string_len-len.ensures.value at c.if-len-gt0.true))
