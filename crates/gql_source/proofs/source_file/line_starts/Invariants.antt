use Rattle.std.proofs.Common.{◌≡◌, ◌<◌, ◌+◌, ◌++◌, length, map}
use Rattle.std.specs.List.{All, filter}
use Rattle.memchr.specs.Find.{Passes, is_byte2}
use Rattle.gql_source.specs.Lines as lines
use Rattle.gql_source.proofs.source_file.line_starts.Given as goal

-- the starts that are there, and those behind the ends that are left, are all of them
abbrev pub invariant-loop-at : goal.invariant-loop-at
invariant-loop-at l = record {
  starts : l.starts.items ++ map (λ at. at + 1) (filter (lines.ends_line l.text) l.at-iterator) ≡ lines.line_starts l.text (length l.text);
  within : All (λ at. (at < length l.text) × Passes (is_byte2 lines.line_feed lines.carriage_return) l.text at) l.at-iterator;
}
