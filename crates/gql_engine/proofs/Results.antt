-- A thing or a refusal is one of both, and one.
use Rattle.std.proofs.Common.{◌≡◌, Bool, true, false, Option, Some, None, Result, Ok, Err}

pub same_some : {A : Type 0} (found : Option A) (a b : A) → found ≡ Some a → found ≡ Some b → a ≡ b
same_some found a b h k = cc (h, k)

pub some_or_none : {A : Type 0} (found : Option A) (a : A) → found ≡ Some a → found ≡ None → ⊥
some_or_none found a h k = cc (h, k)

pub same_ok : {A E : Type 0} (result : Result A E) (a b : A) → result ≡ Ok a → result ≡ Ok b → a ≡ b
same_ok result a b h k = cc (h, k)

pub same_err : {A E : Type 0} (result : Result A E) (x y : E) → result ≡ Err x → result ≡ Err y → x ≡ y
same_err result x y h k = cc (h, k)

pub ok_or_err : {A E : Type 0} (result : Result A E) (a : A) (x : E) → result ≡ Ok a → result ≡ Err x → ⊥
ok_or_err result a x h k = cc (h, k)

pub true_or_false : (b : Bool) → b ≡ true → b ≡ false → ⊥
true_or_false b on off = cc (on, off)
