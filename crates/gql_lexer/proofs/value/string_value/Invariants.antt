use Rattle.std.proofs.Common.{◌≡◌, ◌++◌, length, drop, string_bytes}
use denote.Shadow.{shadow}
use denote.Text.{Utf8}
use Rattle.gql_lexer.specs.Value.{values}
use Rattle.gql_lexer.proofs.value.string_value.Given as goal

abbrev pub invariant-pieces : goal.invariant-pieces
invariant-pieces l = (string_bytes l.out ++ values l.rest ≡ values (drop 1 l.fn.token)) × shadow (Utf8 l.rest)

abbrev pub decreases-pieces : goal.decreases-pieces
decreases-pieces l = length l.rest
