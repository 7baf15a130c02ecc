use Rattle.std.proofs.Common.{◌≡◌, ◌<◌, None, IfSome, length, take, fold}
use Rattle.std.specs.Map.{keys_of}
use Rattle.jb_map.specs.bridge.NextByKey.{key_of, lesser_key}
use Rattle.jb_map.proofs.pairs.Pairs.next_by_key.Given as goal

abbrev pub invariant-loop-index : goal.invariant-loop-index
invariant-loop-index g l =
    IfSome l.least (λ i. i < length l.self) × (key_of l.self l.least ≡ fold (lesser_key (key_of l.self l.last)) None (take l.index (keys_of l.self)))
