use Rattle.std.proofs.Common.{◌≡◌, ◌<◌, IfSome, length, fold}
use Rattle.std.specs.List.{flat_map}
use Rattle.jb_map.specs.ByKey.{by_key, pair_input, pairs_input}
use Rattle.jb_map.specs.bridge.NextByKey.{key_of}
use Rattle.jb_map.proofs.Taken.{after}
use Rattle.jb_map.proofs.compared.PairsHash.hash.Given as goal

-- what the pairs left feed comes on top, and makes all that the map feeds
abbrev pub invariant-loop-at : goal.invariant-loop-at
invariant-loop-at g l =
    IfSome l.last (λ i. i < length l.self)
    × (fold g.H.Hasher.write l.state (flat_map (pair_input g.V.Hash.hash_input) (after (key_of l.self l.last) (by_key l.self)))
    ≡ fold g.H.Hasher.write l.fn.state (pairs_input g.V.Hash.hash_input l.self))

abbrev pub decreases-loop-at : goal.decreases-loop-at
decreases-loop-at g l = length (after (key_of l.self l.last) (by_key l.self))
