use Rattle.std.proofs.Common.{◌≡◌, ◌∙◌, string_bytes}
use Rattle.gql_lexer.specs.Lex.{string_len}
use Rattle.gql_lexer.specs.Value.{string_value}
use Rattle.gql_lexer.proofs.Values.{no_item, last_piece, next_piece}
use Rattle.gql_lexer.proofs.value.string_value.Goals as goal

pub returns-in_default : goal.returns-in_default
returns-in_default c =
    let behind = c.split_plain.result.1.now in
    let none : string_len behind ≡ 0 = no_item behind c.split_plain.ensures.stops (rw c.as_bytes.ensures.value at c.in_default.ensures.none) in
    c.in_ok-push_str.ensures.bytes
    ∙ last_piece (string_bytes c.pieces.out) c.pieces.rest.now c.split_plain.result.0.now behind (string_value c.args.token.now)
    c.pieces.invariant.0 c.split_plain.ensures.plain c.split_plain.ensures.rest none

pub pieces-preserved : goal.pieces-preserved
pieces-preserved c =
    let behind = c.split_plain.result.1.now in
    let escape = rw c.as_bytes.ensures.value at c.in-Some.ensures.some in (
      rw (c.in_ok-push.ensures.bytes, c.in_ok-push_str.ensures.bytes, c.skip-rest-in-pieces.ensures)
          (next_piece (string_bytes c.pieces.out) c.pieces.rest.now c.split_plain.result.0.now behind (string_value c.args.token.now) c.in-Some.character c.in-Some.len
          c.pieces.invariant.0 c.split_plain.ensures.plain c.split_plain.ensures.rest escape),
      c.skip-rest-in-pieces.utf8,
    )
