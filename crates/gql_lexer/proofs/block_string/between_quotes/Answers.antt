use Rattle.std.proofs.Common.{◌≡◌, ◌&&◌, arith}
use Rattle.std.specs.Prelude.{slice_index, ◌==◌}
use Rattle.std.proofs.lemmas.Bool.{eqb-true}
use Rattle.std.proofs.lemmas.Str.{IsCharBoundary-after_ascii}
use Rattle.gql_lexer.proofs.Choices.{both}
use Rattle.gql_lexer.proofs.block_string.between_quotes.Goals as goal

pub range-requires-clause-start_boundary : goal.range-requires-clause-start_boundary
range-requires-clause-start_boundary c _ =
    let token = c.args.token.now in
    let quotes = both (slice_index token 0 == 0x22 && slice_index token 1 == 0x22) (slice_index token 2 == 0x22) c.requires.opens in
    let third : slice_index token 2 ≡ 0x22 = eqb-true (slice_index token 2) 0x22 quotes.1 in
    IsCharBoundary-after_ascii token 2 c.utf8.token (omega (arith, c.requires.apart)) (omega (arith, third))
