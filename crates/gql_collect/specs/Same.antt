-- Lists that are the same once repeats are left out: whatever is looked for is first found at the same item.
use Rattle.std.specs.Prelude.{◌≡◌, Bool, List}
use Rattle.std.specs.List.{find}

abbrev pub SameFirst : {A : Type 0} → List A → List A → Type 0
SameFirst {A} xs ys = (p : A → Bool) → find p xs ≡ find p ys
