-- Places in a list that was mapped, and what it means that nothing is found.
use Rattle.std.proofs.Common.{◌≡◌, ℕ, ◌+◌, Bool, false, cond, not, Some, None, List, [], ◌∷◌, map, nat_lt, position, refl, sym, ap, ◌∙◌, subst, ◌||◌, ◌++◌, if◌then◌else◌, zero, suc, ◌<◌, length, get_or, slice_get, swap_remove, IfSome, Option, arith}
use Rattle.std.specs.List.{prefix_len, list_any, AllByRecursion}
use Rattle.std.specs.Map.{keys_of}
use Rattle.std.specs.Str.{bytes_eq}
use Rattle.std.proofs.lemmas.List.{length-map, map-append}
use Rattle.indexmap.proofs.MapLemmas.{Missing-position, swap_remove-default}
use Rattle.indexmap.proofs.SetLemmas.{map-swap_remove}

module _ {X Y : Type 0} (f : X → Y) where
  prefix_len-map : (p : Y → Bool) (xs : List X) → prefix_len p (map f xs) ≡ prefix_len (λ x. p (f x)) xs
  prefix_len-map p [] = refl
  prefix_len-map p (x ∷ xs) = ap (λ n. cond (p (f x)) (1 + n) 0) (prefix_len-map p xs)

  pub position-map : (t : Y → Bool) (xs : List X) → position t (map f xs) ≡ position (λ x. t (f x)) xs
  position-map t xs =
      let at = prefix_len-map (λ y. not (t y)) xs in
      let len = length-map xs f in
      λ i. cond (nat_lt (at i) (len i)) (Some (at i)) None

  pub list_any-absent : (t : Y → Bool) (xs : List X) → AllByRecursion (λ y. t y ≡ false) (map f xs) → list_any (λ x. t (f x)) xs ≡ false
  list_any-absent t [] h = refl
  list_any-absent t (x ∷ xs) h = λ i. h.0 i || list_any-absent t xs h.1 i

abbrev pub beside : {K : Type 0} → K → K × ℕ
beside k = (k, 0)

pub keys_back : {K : Type 0} (ks : List K) → keys_of (map beside ks) ≡ ks
keys_back [] = refl
keys_back (k ∷ ks) = ap (λ l. k ∷ l) (keys_back ks)

pub none_any : {X : Type 0} (p : X → Bool) (xs : List X) → AllByRecursion (λ x. p x ≡ false) xs → list_any p xs ≡ false
none_any p [] h = refl
none_any p (x ∷ xs) h = λ i. h.0 i || none_any p xs h.1 i

-- a test that passes nowhere fails everywhere
pub absent_from_position : {K : Type 0} (t : K → Bool) (ks : List K) → position t ks ≡ None → AllByRecursion (λ k. t k ≡ false) ks
absent_from_position t ks none =
    let pairs = map beside ks in
    subst (AllByRecursion (λ k. t k ≡ false)) (keys_back ks) (Missing-position t pairs (ap (position t) (keys_back ks) ∙ none)).absent

-- the texts of a set of keys after a key that was not among them went in
pub pushed_texts : {X : Type 0} (f : X → List ℕ) (ks new : List X) (text : X) (key : List ℕ) → f text ≡ key
    → new ≡ (if list_any (λ k. bytes_eq (f text) (f k)) ks then ks else ks ++ text ∷ []) → position (bytes_eq key) (map f ks) ≡ None
    → map f new ≡ map f ks ++ key ∷ []
pushed_texts f ks new text key same is_new none =
    let none_of_it = subst (λ k. position (bytes_eq k) (map f ks) ≡ None) (sym same) none in
    let gone = list_any-absent f (bytes_eq (f text)) ks (absent_from_position (bytes_eq (f text)) (map f ks) none_of_it) in
    ap (map f) (is_new ∙ ap (λ b. if b then ks else ks ++ text ∷ []) gone) ∙ map-append f ks (text ∷ []) ∙ ap (λ k. map f ks ++ k ∷ []) same

pub none_within : {X : Type 0} (xs : List X) (i : ℕ) → i < length xs → None ≡ slice_get xs i → ⊥
none_within [] i h e = omega arith
none_within (x ∷ xs) zero h e = cc
none_within (x ∷ xs) (suc i) h e = none_within xs i (omega arith) e

-- the texts of a set of keys after the one at a place went out
pub removed_texts : {X : Type 0} (f : X → List ℕ) (ks new : List X) (i : ℕ) (r : Option X) → i < length ks → r ≡ slice_get ks i
    → IfSome r (λ k. new ≡ swap_remove ks i k) → (d : List ℕ) → map f new ≡ swap_remove (map f ks) i d
removed_texts f ks new i None within is went d = absurd (none_within ks i within is)
removed_texts f ks new i (Some k) within is went d =
    let some : 0 < length ks = omega arith in
    ap (map f) went ∙ map-swap_remove f ks i k some ∙ swap_remove-default (map f ks) i (f k) d (omega (arith, length-map ks f))

-- the item at a place, whatever stands for a place outside
pub same_at : {X : Type 0} (xs : List X) (i : ℕ) (x d : X) → i < length xs → x ≡ get_or xs i x → x ≡ get_or xs i d
same_at [] i x d within at = absurd (omega arith)
same_at (y ∷ xs) zero x d within at = at
same_at (y ∷ xs) (suc i) x d within at = same_at xs i x d (omega arith) at
