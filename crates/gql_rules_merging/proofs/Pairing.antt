-- Pairs, and the order of their fields.
use Rattle.std.proofs.Common.{◌≡◌, ℕ, zero, suc, ◌<◌, Bool, cond, Some, List, [], ◌∷◌, length, refl, ap, arith}
use Rattle.std.specs.List.{slice_get}
use Rattle.std.proofs.lemmas.Bool.{lt-ltb}
use Rattle.gql_graph.specs.bridge.Explored.{pair_of}
use Rattle.gql_graph.proofs.Inserted.{made}

pub pair_of-low : (in_full : Bool) (a b : ℕ) → a < b → pair_of in_full a b ≡ record { first = a; second = b; in_full = in_full }
pair_of-low in_full a b low = ap (λ t. cond t (made (a, b, in_full)) (made (b, a, in_full))) (lt-ltb a b low)

pub got_within : {A : Type 0} (xs : List A) (i : ℕ) → i < length xs → (x : A) × (slice_get xs i ≡ Some x)
got_within [] i within = absurd (omega (arith, within))
got_within (z ∷ xs) zero within = (z, refl)
got_within (z ∷ xs) (suc i) within = got_within xs i (omega (arith, within))
