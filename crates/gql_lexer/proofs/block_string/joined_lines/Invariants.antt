use Rattle.std.proofs.Common.{◌≡◌, ◌<◌, [], map, length, string_bytes}
use Rattle.std.specs.Prelude.{slice_index}
use denote.Text.{Utf8}
use denote.Shadow.{shadow}
use Rattle.gql_lexer.specs.BlockString as spec
use Rattle.gql_lexer.specs.bridge.BlockWriting as writing
use Rattle.gql_lexer.proofs.block_string.joined_lines.Given as goal

abbrev pub invariant-lines : goal.invariant-lines
invariant-lines l =
    shadow (Utf8 l.behind)
    × (writing.completed (string_bytes l.text) (string_bytes l.white) (map (λ line. writing.without_indent l.common line) (writing.following l.behind))
    ≡ spec.joined (spec.unindented (spec.lines l.raw)))
    × (slice_index l.behind 0 < 128)
    × (string_bytes l.text ≡ [] → string_bytes l.white ≡ [])

abbrev pub decreases-lines : goal.decreases-lines
decreases-lines l = length l.behind
