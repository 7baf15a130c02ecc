-- A name more on a way.
use Rattle.std.proofs.Common.{◌≡◌, ℕ, suc, ◌+◌, ◌-◌, ◌<◌, List, [], ◌++◌, Option, refl, ap, arith}
use Rattle.gql_rules_nodes.specs.WayRound.{named, next, further, way_on}

pub name_more : (nexts : List (Option ℕ)) (start i : ℕ) (at : Option ℕ) → i < 32
    → way_on nexts start (32 - i) at ≡ named (next nexts at) ++ way_on nexts start (32 - (i + 1)) (further start (next nexts at))
unfolding way_on
name_more nexts start i at within =
    let more : 32 - i ≡ suc (32 - (i + 1)) = omega (arith, within) in
    ap (λ n. way_on nexts start n at) more

pub none_more : (nexts : List (Option ℕ)) (start : ℕ) (at : Option ℕ) → way_on nexts start 0 at ≡ []
unfolding way_on
none_more nexts start at = refl
