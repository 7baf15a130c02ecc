-- A name is no word that begins with another byte.
use Rattle.std.proofs.Common.{◌≡◌, ◌≢◌, ℕ, Bool, true, false, List, refl, ap}
use Rattle.std.specs.Prelude.{slice_index}
use Rattle.std.specs.Str.{bytes_eq}
use Rattle.std.proofs.lemmas.Slice.Eq.{bytes_eq-Decides}
use native.Mathlib.Omega.{arith}

pub other_first : (name word : List ℕ) → (slice_index name 0 ≢ slice_index word 0) → bytes_eq name word ≡ false
other_first name word differs = grind (arith, bytes_eq-Decides name word, λ (e : name ≡ word). differs (ap (λ l. slice_index l 0) e))
