use Rattle.std.proofs.Common.{◌≡◌, ◌<◌, length}
use Rattle.std.specs.Prelude.{slice_index}
use denote.Text.{Utf8}
use denote.Shadow.{shadow}
use Rattle.gql_lexer.specs.BlockString as spec
use Rattle.gql_lexer.specs.bridge.BlockWriting as writing
use Rattle.gql_lexer.proofs.block_string.common_indent.Given as goal

abbrev pub invariant-lines : goal.invariant-lines
invariant-lines l =
    shadow (Utf8 l.rest)
    × (spec.least l.common (spec.common_indent (writing.following l.rest)) ≡ spec.common_indent (writing.following l.behind))
    × (slice_index l.rest 0 < 128)

abbrev pub decreases-lines : goal.decreases-lines
decreases-lines l = length l.rest
