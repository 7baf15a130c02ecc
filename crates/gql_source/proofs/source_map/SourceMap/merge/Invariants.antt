use Rattle.std.proofs.Common.{◌≡◌, length, take}
use Rattle.gql_source.specs.File.{joined}
use Rattle.gql_source.proofs.source_map.SourceMap.merge.Given as goal

abbrev pub invariant-loop-id : goal.invariant-loop-id
invariant-loop-id l = record {
  all : l.self ≡ joined l.initial.self l.yielded;
  front : take (length l.initial.self) l.self ≡ l.initial.self;
}
