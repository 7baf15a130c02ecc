use Rattle.std.proofs.Common.{◌∙◌, sym, string_bytes, length}
use Rattle.std.proofs.lemmas.Bool.{eqb-true}
use Rattle.gql_lexer.specs.BlockString.{raw_value}
use Rattle.gql_lexer.proofs.Cuts.{backslash-ascii, backslash-first, run-ascii}
use Rattle.gql_lexer.proofs.BlockValue.{is_other, last_raw_piece, next_raw_piece}
use Rattle.gql_lexer.proofs.block_string.raw_value.Goals as goal

pub returns-then-is_empty : goal.returns-then-is_empty
returns-then-is_empty c =
    c.in_ok-push_str.ensures.bytes
    ∙ last_raw_piece (string_bytes c.pieces.out) c.pieces.rest.now c.split_run.result.0.now c.split_run.result.1.now (raw_value c.args.s.now)
    c.pieces.invariant.0 c.split_run.ensures.front c.split_run.ensures.rest (eqb-true (length c.split_run.result.1.now) 0 (sym c.if-is_empty.ensures))

pub kept_backslash-requires : goal.kept_backslash-requires
kept_backslash-requires c =
    rw c.as_bytes.ensures.value (backslash-first c.pieces.rest.now c.split_run.result.1.now c.split_run.ensures.rest (sym c.if-is_empty.ensures))

pub skip-rest-requires-clause-ascii : goal.skip-rest-requires-clause-ascii
skip-rest-requires-clause-ascii c = rw c.split_run.ensures.rest (run-ascii is_other c.pieces.rest.now backslash-ascii)

pub pieces-preserved : goal.pieces-preserved
pieces-preserved c = (
  rw
      (c.in_ok-push_str-2.ensures.bytes, c.in_ok-push_str.ensures.bytes, c.kept_backslash.ensures, c.as_bytes.ensures.value, c.skip-rest.ensures)
      (next_raw_piece (string_bytes c.pieces.out) c.pieces.rest.now c.split_run.result.0.now c.split_run.result.1.now (raw_value c.args.s.now)
      c.pieces.invariant.0 c.split_run.ensures.front c.split_run.ensures.rest
      (backslash-first c.pieces.rest.now c.split_run.result.1.now c.split_run.ensures.rest (sym c.if-is_empty.ensures))),
  c.skip-rest.utf8,
)
