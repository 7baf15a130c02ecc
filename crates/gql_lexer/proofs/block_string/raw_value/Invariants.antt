use Rattle.std.proofs.Common.{◌≡◌, ◌++◌, length, string_bytes}
use denote.Text.{Utf8}
use denote.Shadow.{shadow}
use Rattle.gql_lexer.specs.BlockString as spec
use Rattle.gql_lexer.proofs.block_string.raw_value.Given as goal

abbrev pub invariant-pieces : goal.invariant-pieces
invariant-pieces l = (string_bytes l.out ++ spec.raw_value l.rest ≡ spec.raw_value l.s) × shadow (Utf8 l.rest)

abbrev pub decreases-pieces : goal.decreases-pieces
decreases-pieces l = length l.rest
