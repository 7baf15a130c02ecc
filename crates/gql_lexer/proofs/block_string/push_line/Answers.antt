use Rattle.std.proofs.Common.{sym, string_bytes, length}
use Rattle.std.proofs.lemmas.Bool.{eqb-true}
use Rattle.gql_lexer.proofs.BlockValue.{takes-first}
use Rattle.gql_lexer.proofs.block_string.push_line.Goals as goal

pub returns-in_ok-push_str-in-true-false : goal.returns-in_ok-push_str-in-true-false
returns-in_ok-push_str-in-true-false c =
    takes-first (string_bytes c.args.text.now) (string_bytes c.args.white.now) c.args.line.now (string_bytes c.push_str.new.self)
    (eqb-true (length (string_bytes c.args.text.now)) 0 (rw c.as_str.ensures.value at (sym c.in-true-false.ensures))) c.requires (sym c.in-true-false.ensures')
    c.in_ok-push_str-in-true-false.ensures.bytes
