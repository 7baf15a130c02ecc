use Rattle.std.proofs.Common.{◌≡◌, sym, false}
use Rattle.std.specs.Prelude.{slice_index}
use Rattle.gql_lexer.specs.Lex.{is_escaped}
use Rattle.gql_lexer.proofs.Values.{scalar}
use Rattle.gql_lexer.proofs.value.escape_value.Goals as goal

pub unwrap-requires : goal.unwrap-requires
unwrap-requires c =
    let other : is_escaped (slice_index c.args.at.now 1) ≡ false = sym (rw c.byte-b.ensures.value at c.if-is_escaped.ensures) in
    c.from_u32.ensures.succeeds (rw c.escaped_character.ensures (scalar c.args.at.now c.requires.begins other c.requires.some))
