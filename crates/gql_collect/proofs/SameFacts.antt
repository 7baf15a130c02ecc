-- What keeps two lists the same once repeats are left out.
use Rattle.std.proofs.Common.{◌≡◌, Bool, true, false, cond, ◌&&◌, List, [], ◌∷◌, ◌++◌, Option, Some, None, refl, sym, ap, ◌∙◌}
use Rattle.std.specs.List.{find, filter, flat_map}
use Rattle.std.specs.Option.{option_or, option_map, option_and_then}
use Rattle.std.specs.Prelude.{map, is_some}
use Rattle.std.proofs.lemmas.List.Folds.{find-append}
use Rattle.gql_collect.specs.Same.{SameFirst}

module _ {A : Type 0} where
  or-twice : (a b : Option A) → option_or (option_or a b) b ≡ option_or a b
  or-twice None None = refl
  or-twice None (Some y) = refl
  or-twice (Some x) b = refl

  or-none : (a : Option A) → option_or a None ≡ a
  or-none None = refl
  or-none (Some x) = refl

  -- what adds nothing to a adds nothing to more than a
  or-known : (a b c : Option A) → option_or a c ≡ a → option_or (option_or a b) c ≡ option_or a b
  or-known None b c known = ap (option_or b) known ∙ or-none b
  or-known (Some x) b c known = refl

  pub same-append : (xs ys us vs : List A) → SameFirst xs ys → SameFirst us vs → SameFirst (xs ++ us) (ys ++ vs)
  same-append xs ys us vs s t p =
      find-append p xs us ∙ ap (λ o. option_or o (find p us)) (s p) ∙ ap (option_or (find p ys)) (t p) ∙ sym (find-append p ys vs)

  -- what adds nothing to a list adds nothing to a longer one
  pub same-known : (xs ys zs : List A) → SameFirst (xs ++ zs) xs → SameFirst ((xs ++ ys) ++ zs) (xs ++ ys)
  same-known xs ys zs known p =
      find-append p (xs ++ ys) zs ∙ ap (λ o. option_or o (find p zs)) (find-append p xs ys)
      ∙ or-known (find p xs) (find p ys) (find p zs) (sym (find-append p xs zs) ∙ known p) ∙ sym (find-append p xs ys)

  -- the same again adds nothing
  pub same-twice : (xs ys zs : List A) → SameFirst (xs ++ ys) (xs ++ zs) → SameFirst ((xs ++ ys) ++ zs) (xs ++ ys)
  same-twice xs ys zs same p =
      find-append p (xs ++ ys) zs ∙ ap (λ o. option_or o (find p zs)) (same p) ∙ ap (λ o. option_or o (find p zs)) (find-append p xs zs)
      ∙ or-twice (find p xs) (find p zs) ∙ sym (find-append p xs zs) ∙ sym (same p)

  find-filter : (p q : A → Bool) (xs : List A) → find p (filter q xs) ≡ find (λ x. q x && p x) xs
  find-filter p q [] = refl
  find-filter p q (x ∷ xs) =
      elim (q x) as (λ b. find p (cond b (x ∷ filter q xs) (filter q xs)) ≡ cond (b && p x) (Some x) (find (λ x. q x && p x) xs)) [
        | true ↦ ap (λ r. cond (p x) (Some x) r) (find-filter p q xs)
        | false ↦ find-filter p q xs
      ]

  pub same-filter : (q : A → Bool) (xs ys : List A) → SameFirst xs ys → SameFirst (filter q xs) (filter q ys)
  same-filter q xs ys s p = find-filter p q xs ∙ s (λ x. q x && p x) ∙ sym (find-filter p q ys)

module _ {A B : Type 0} where
  find-map : (p : B → Bool) (f : A → B) (xs : List A) → find p (map f xs) ≡ option_map f (find (λ x. p (f x)) xs)
  find-map p f [] = refl
  find-map p f (x ∷ xs) =
      elim (p (f x)) as (λ b. cond b (Some (f x)) (find p (map f xs)) ≡ option_map f (cond b (Some x) (find (λ x. p (f x)) xs))) [
        | true ↦ refl
        | false ↦ find-map p f xs
      ]

  pub same-map : (f : A → B) (xs ys : List A) → SameFirst xs ys → SameFirst (map f xs) (map f ys)
  same-map f xs ys s p = find-map p f xs ∙ ap (option_map f) (s (λ x. p (f x))) ∙ sym (find-map p f ys)

  hit : (h : A → Option B) (x : A) (r : Option A) (o : Option B) → h x ≡ o
      → option_or o (option_and_then h r) ≡ option_and_then h (cond (is_some o) (Some x) r)
  hit h x r None e = refl
  hit h x r (Some y) e = sym e

  -- what is found in joined lists is found in the first of them that has such an item
  find-flat_map : (p : B → Bool) (g : A → List B) (xs : List A)
      → find p (flat_map g xs) ≡ option_and_then (λ x. find p (g x)) (find (λ x. is_some (find p (g x))) xs)
  find-flat_map p g [] = refl
  find-flat_map p g (x ∷ xs) =
      find-append p (g x) (flat_map g xs) ∙ ap (option_or (find p (g x))) (find-flat_map p g xs)
      ∙ hit (λ x. find p (g x)) x (find (λ x. is_some (find p (g x))) xs) (find p (g x)) refl

  pub same-flat_map : (g : A → List B) (xs ys : List A) → SameFirst xs ys → SameFirst (flat_map g xs) (flat_map g ys)
  same-flat_map g xs ys s p =
      find-flat_map p g xs ∙ ap (option_and_then (λ x. find p (g x))) (s (λ x. is_some (find p (g x)))) ∙ sym (find-flat_map p g ys)
