-- Two lists that have the same things, each once, tell the same in another order.
use Rattle.std.proofs.Common.{◌≡◌, ◌⊎◌, inl, inr, ℕ, zero, suc, ◌+◌, ◌<◌, Bool, true, false, List, [], ◌∷◌, ◌++◌, length, get_or, flat_map, Contains, refl, sym, ◌∙◌, ap, subst, arith, append_assoc, append-nil, length-append}
use Rattle.std.specs.List.{AllByRecursion, IsDistinct}
use Rattle.std.specs.List.Sorted.{IsPermutation}
use Rattle.std.proofs.lemmas.List.Concat.{flat_map-append}
use Rattle.std.proofs.lemmas.List.Sorted.{IsPermutation-refl, IsPermutation-sym, IsPermutation-trans, IsPermutation-append_comm, IsPermutation-append_left, IsPermutation-append_right}

module _ {X D : Type 0} (e : X → X → Bool) (itself : (x : X) → e x x ≡ true) (turn : (x y : X) → e x y ≡ true → e y x ≡ true) (join : (x y z : X) → e x y ≡ true → e y z ≡ true → e x z ≡ true)
    (f : X → List D) (respects : (x y : X) → e x y ≡ true → f x ≡ f y) where
  -- one of these is the same
  abbrev pub Has : List X → X → Type 0
  Has [] x = ⊥
  Has (y ∷ ys) x = (e x y ≡ true) ⊎ Has ys x

  pub has_at : (ys : List X) (x y : X) (k : ℕ) → k < length ys → get_or ys k y ≡ y → e x y ≡ true → Has ys x
  has_at [] x y k inside is same = absurd (omega (arith, inside))
  has_at (z ∷ zs) x y zero inside is same = inl (subst (λ (w : X). e x w ≡ true) (sym is) same)
  has_at (z ∷ zs) x y (suc k) inside is same = inr (has_at zs x y k (omega (arith, inside)) is same)

  -- it stands at a place
  record Cut (ys : List X) (x : X) : Type 0 where
    left : List X
    it : X
    right : List X
    whole : ys ≡ left ++ it ∷ right
    same : e x it ≡ true

  cut : (ys : List X) (x : X) → Has ys x → Cut ys x
  cut [] x has = absurd has
  cut (y ∷ ys) x (inl same) = record { left = []; it = y; right = ys; whole = refl; same = same }
  cut (y ∷ ys) x (inr has) =
      let c = cut ys x has in
      record { left = y ∷ c.left; it = c.it; right = c.right; whole = ap (λ (l : List X). y ∷ l) c.whole; same = c.same }

  -- what stands beside it
  beside : (left : List X) (it : X) (right : List X) (x : X) → Has (left ++ it ∷ right) x → (e x it ≡ true → ⊥) → Has (left ++ right) x
  beside [] it right x (inl same) other = absurd (other same)
  beside [] it right x (inr has) other = has
  beside (y ∷ ys) it right x (inl same) other = inl same
  beside (y ∷ ys) it right x (inr has) other = inr (beside ys it right x has other)

  apart : (x : X) (xs : List X) → AllByRecursion (λ (y : X). e x y ≡ false) xs → (y : X) → Has xs y → e y x ≡ true → ⊥
  apart x [] all y has same = has
  apart x (z ∷ zs) all y (inl is) same = let both : e x z ≡ true = join x y z (turn y x same) is in let t : true ≡ false = sym both ∙ all.0 in absurd cc
  apart x (z ∷ zs) all y (inr has) same = apart x zs all.1 y has same

  moved : (a b c : List D) → IsPermutation (a ++ (b ++ c)) (b ++ (a ++ c))
  moved a b c =
      subst (λ (l : List D). IsPermutation l (b ++ (a ++ c))) (append_assoc a b c)
      (subst (λ (l : List D). IsPermutation ((a ++ b) ++ c) l) (append_assoc b a c) (IsPermutation-append_left c (a ++ b) (b ++ a) (IsPermutation-append_comm a b)))

  record Covered (xs ys : List X) : Type 0 where
    others : List X
    told : IsPermutation (flat_map f ys) (flat_map f xs ++ flat_map f others)
    count : length ys ≡ length xs + length others

  split : (left : List X) (it : X) (right : List X) → IsPermutation (flat_map f (left ++ it ∷ right)) (f it ++ flat_map f (left ++ right))
  split left it right =
      subst (λ (l : List D). IsPermutation l (f it ++ flat_map f (left ++ right))) (sym (flat_map-append f left (it ∷ right)))
      (subst (λ (l : List D). IsPermutation (flat_map f left ++ (f it ++ flat_map f right)) (f it ++ l)) (sym (flat_map-append f left right)) (moved (flat_map f left) (f it) (flat_map f right)))

  more_covered : (x : X) (xs ys : List X) → (c : Cut ys x) → Covered xs (c.left ++ c.right) → Covered (x ∷ xs) ys
  more_covered x xs ys c rest = record {
    others = rest.others;
    told =
        let front : IsPermutation (flat_map f ys) (f x ++ flat_map f (c.left ++ c.right)) =
        subst (λ (l : List X). IsPermutation (flat_map f l) (f x ++ flat_map f (c.left ++ c.right))) (sym c.whole)
        (subst (λ (l : List D). IsPermutation (flat_map f (c.left ++ c.it ∷ c.right)) (l ++ flat_map f (c.left ++ c.right))) (sym (respects x c.it c.same)) (split c.left c.it c.right)) in
        let behind : IsPermutation (f x ++ flat_map f (c.left ++ c.right)) (f x ++ (flat_map f xs ++ flat_map f rest.others)) =
        IsPermutation-append_right (f x) (flat_map f (c.left ++ c.right)) (flat_map f xs ++ flat_map f rest.others) rest.told in
        subst (λ (l : List D). IsPermutation (flat_map f ys) l) (sym (append_assoc (f x) (flat_map f xs) (flat_map f rest.others)))
        (IsPermutation-trans (flat_map f ys) (f x ++ flat_map f (c.left ++ c.right)) (f x ++ (flat_map f xs ++ flat_map f rest.others)) front behind);
    count = omega (arith, rest.count, ap length c.whole, length-append c.left (c.it ∷ c.right), length-append c.left c.right);
  }

  covered : (xs ys : List X) → IsDistinct e xs → ((x : X) → Has xs x → Has ys x) → Covered xs ys
  unfolding IsDistinct
  covered [] ys distinct all = record { others = ys; told = IsPermutation-refl (flat_map f ys); count = omega arith }
  covered (x ∷ xs) ys distinct all =
      let c = cut ys x (all x (inl (itself x))) in
      more_covered x xs ys c (covered xs (c.left ++ c.right) distinct.1 (λ y has. beside c.left c.it c.right y (subst (λ (l : List X). Has l y) c.whole (all y (inr has)))
      (λ same. apart x xs distinct.0 y has (join y c.it x same (turn x c.it c.same)))))

  none_left : (xs ys : List X) → (c : Covered xs ys) → length c.others ≡ 0 → IsPermutation (flat_map f xs) (flat_map f ys)
  none_left xs ys c none = by_others c.others none c.told
    where
      by_others : (others : List X) → length others ≡ 0 → IsPermutation (flat_map f ys) (flat_map f xs ++ flat_map f others) → IsPermutation (flat_map f xs) (flat_map f ys)
      by_others [] none told = IsPermutation-sym (flat_map f ys) (flat_map f xs) (subst (λ (l : List D). IsPermutation (flat_map f ys) l) (append-nil (flat_map f xs)) told)
      by_others (z ∷ zs) none told = absurd (omega (arith, none))

  pub same_told : (xs ys : List X) → IsDistinct e xs → IsDistinct e ys → ((x : X) → Has xs x → Has ys x) → ((x : X) → Has ys x → Has xs x)
      → IsPermutation (flat_map f xs) (flat_map f ys)
  same_told xs ys d distinct all back =
      let c = covered xs ys d all in
      none_left xs ys c (omega (arith, c.count, (covered ys xs distinct back).count))

  pub found : (xs : List X) (x : X) → Has xs x → (y : X) × Contains xs y × (e x y ≡ true)
  found [] x has = absurd has
  found (y ∷ ys) x (inl same) = (y, (0, omega arith, refl), same)
  found (y ∷ ys) x (inr has) = let f = found ys x has in (f.0, (suc f.1.0, omega (arith, f.1.1), f.1.2), f.2)
