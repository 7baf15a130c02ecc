use Rattle.std.proofs.Common.{◌≡◌, take}
use Rattle.gql_source.proofs.source_map.SourceMap.copy.Given as goal

abbrev pub invariant-loop-id : goal.invariant-loop-id
invariant-loop-id l = l.entries.items ≡ take l.id-index l.id-items
