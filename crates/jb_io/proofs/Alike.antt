-- Reading with fewer levels and with more.
use Rattle.std.proofs.Common.{ℕ, zero, suc, ◌≤◌, Bool, true, false, cond, inl, inr, List, [], ◌∷◌, length, Result, Ok, Err, refl, subst, arith}
use Rattle.std.specs.Prelude.{◌==◌, ◌||◌}
use Rattle.jb_tree.specs.declared.value.Value.{Value}
use Rattle.jb_read.specs.declared.fault.Broken.{Broken}
use Rattle.jb_read.specs.declared.fault.FaultKind.TheVariants.{Depth}
use Rattle.jb_read.specs.Bytes.{skip_white}
use Rattle.jb_read.specs.Reading.{◌>>=◌, fails, turns}
use Rattle.jb_read.specs.Values.{begins_with, item_at, key_at, member_at, array_at, object_at, scalar_at, value_at, first_value, whole_value}
use Rattle.jb_io.specs.Levels.{IsDeep, IsAlikeOrDeep}

abbrev Reader : Type 0
Reader = List ℕ → Result (Value × List ℕ) Broken

abbrev AreAlike : Reader → Reader → Type 0
AreAlike few many = (at : List ℕ) → IsAlikeOrDeep (few at) (many at)

bind_alike : {A B : Type 0} (few many : Result A Broken) (f g : A → Result B Broken) → IsAlikeOrDeep few many → ((x : A) → IsAlikeOrDeep (f x) (g x)) → IsAlikeOrDeep (few >>= f) (many >>= g)
bind_alike (Ok x) many f g (inl same) h = subst (λ r. IsAlikeOrDeep (f x) (r >>= g)) same (h x)
bind_alike (Err stop) many f g (inl same) h = subst (λ r. IsAlikeOrDeep (Err stop) (r >>= g)) same (inl refl)
bind_alike (Ok x) many f g (inr deep) h = absurd deep
bind_alike (Err stop) many f g (inr deep) h = inr deep

cond_alike : {A : Type 0} (b : Bool) (x y z w : Result A Broken) → IsAlikeOrDeep x z → IsAlikeOrDeep y w → IsAlikeOrDeep (cond b x y) (cond b z w)
cond_alike true x y z w s t = s
cond_alike false x y z w s t = t

turns_alike : {A : Type 0} (few many : A → List ℕ → Result ((Bool × A) × List ℕ) Broken) → ((made : A) (at : List ℕ) → IsAlikeOrDeep (few made at) (many made at))
    → (most : ℕ) (made : A) (at : List ℕ) → IsAlikeOrDeep (turns few most made at) (turns many most made at)
turns_alike few many h zero made at = inl refl
turns_alike few many h (suc most) made at =
    bind_alike (few made at) (many made at) _ _ (h made at) (λ t. cond_alike t.0.0 _ _ _ _ (turns_alike few many h most t.0.1 t.1) (inl refl))

item_alike : (few many : Reader) → AreAlike few many → (items : List Value) (at : List ℕ) → IsAlikeOrDeep (item_at few items at) (item_at many items at)
unfolding item_at
item_alike few many h items at = bind_alike (few at) (many at) _ _ (h at) (λ item. inl refl)

member_alike : (few many : Reader) → AreAlike few many → (members : List (List ℕ × Value)) (at : List ℕ) → IsAlikeOrDeep (member_at few members at) (member_at many members at)
unfolding member_at
member_alike few many h members at = bind_alike (key_at at) (key_at at) _ _ (inl refl) (λ key. bind_alike (few key.1) (many key.1) _ _ (h key.1) (λ member. inl refl))

array_alike : (few many : Reader) → AreAlike few many → (at : List ℕ) → IsAlikeOrDeep (array_at few at) (array_at many at)
unfolding array_at
array_alike few many h at =
    cond_alike (begins_with 93 (skip_white at)) _ _ _ _ (inl refl) (turns_alike (item_at few) (item_at many) (item_alike few many h) (suc (length (skip_white at))) [] (skip_white at))

object_alike : (few many : Reader) → AreAlike few many → (at : List ℕ) → IsAlikeOrDeep (object_at few at) (object_at many at)
unfolding object_at
object_alike few many h at =
    cond_alike (begins_with 125 (skip_white at)) _ _ _ _ (inl refl) (turns_alike (member_at few) (member_at many) (member_alike few many h) (suc (length (skip_white at))) [] (skip_white at))

-- no level is allowed: a bracket is too deep, and what begins with none is alike
none_alike : {A : Type 0} (p q : Bool) (x y z w : Result A Broken) → IsDeep x → IsAlikeOrDeep (cond (p || q) x z) (cond p y (cond q w z))
none_alike true q x y z w deep = inr deep
none_alike false true x y z w deep = inr deep
none_alike false false x y z w deep = inl refl

value_alike : (few many : ℕ) → few ≤ many → AreAlike (value_at few) (value_at many)
unfolding value_at
value_alike zero zero le at = inl refl
value_alike zero (suc many) le [] = inl refl
value_alike zero (suc many) le (b ∷ at) = none_alike (b == 91) (b == 123) (fails Depth (b ∷ at)) _ (scalar_at (b ∷ at)) _ refl
value_alike (suc few) zero le at = absurd (omega arith)
value_alike (suc few) (suc many) le [] = inl refl
value_alike (suc few) (suc many) le (b ∷ at) =
    cond_alike (b == 91) _ _ _ _ (bind_alike (array_at (value_at few) at) (array_at (value_at many) at) _ _ (array_alike (value_at few) (value_at many) (value_alike few many (omega arith)) at) (λ array. inl refl))
    (cond_alike (b == 123) _ _ _ _ (bind_alike (object_at (value_at few) at) (object_at (value_at many) at) _ _ (object_alike (value_at few) (value_at many) (value_alike few many (omega arith)) at) (λ object. inl refl)) (inl refl))

pub whole_alike : (few many : ℕ) (bytes : List ℕ) → few ≤ many → IsAlikeOrDeep (whole_value few bytes) (whole_value many bytes)
unfolding whole_value first_value
whole_alike few many bytes le = bind_alike (value_at few (skip_white bytes)) (value_at many (skip_white bytes)) _ _ (value_alike few many le (skip_white bytes)) (λ read. inl refl)
