-- What is found, with why it is so.
use Rattle.std.proofs.Common.{◌≡◌, Bool, true, false, Option, Some, None, refl}
use Rattle.std.proofs.lemmas.Bool.{false≢true}

abbrev pub and_then : {A B : Type 0} → Option A → (A → Option B) → Option B
and_then None f = None
and_then (Some a) f = f a

abbrev pub is_found : {A : Type 0} → Option A → Bool
is_found None = false
is_found (Some a) = true

-- what is there
abbrev pub the : {A : Type 0} (o : Option A) → is_found o ≡ true → A
the None found = absurd (false≢true found)
the (Some a) found = a

abbrev pub holds : (b : Bool) → Option (b ≡ true)
holds true = Some refl
holds false = None

abbrev pub fails : (b : Bool) → Option (b ≡ false)
fails true = None
fails false = Some refl

-- by a test
abbrev pub choose : {A : Type 0} (b : Bool) → (b ≡ true → Option A) → (b ≡ false → Option A) → Option A
choose true f g = f refl
choose false f g = g refl
