-- The first of some things of which something is told.
use Rattle.std.proofs.Common.{◌≡◌, Bool, true, false, ◌||◌, if◌then◌else◌, List, [], ◌∷◌, ◌++◌, map, Option, Some, None, refl, sym, ap, ◌∙◌}
use Rattle.std.specs.List.{list_any, flat_map}
use Rattle.std.specs.Option.{option_map_or}
use Rattle.std.proofs.lemmas.List.Folds.{list_any-append}
use Rattle.gql_rules.specs.bridge.Judged.{or_first}
use Rattle.gql_rules.specs.VariableFaults.{or_else, first_told}

-- the first of what is found
abbrev pub first_of : {X T : Type 0} → (X → Option T) → List X → Option T
first_of f [] = None
first_of f (x ∷ xs) = or_first (f x) (first_of f xs)

-- the same as for diagnostics
abbrev pub only_one : {D : Type 0} → Bool → D → List D
only_one holds told = if holds then told ∷ [] else []

pub or-false : (a : Bool) → (a || false) ≡ a
or-false true = refl
or-false false = refl

or_first-None : {T : Type 0} (o : Option T) → or_first o None ≡ o
or_first-None None = refl
or_first-None (Some x) = refl

or_first_assoc : {T : Type 0} (a b c : Option T) → or_first (or_first a b) c ≡ or_first a (or_first b c)
or_first_assoc None b c = refl
or_first_assoc (Some x) b c = refl

if-same : {T : Type 0} (x : T) (b : Bool) → (if b then x else x) ≡ x
if-same x true = refl
if-same x false = refl

module _ {X : Type 0} where
  pub any-one_more : (p : X → Bool) (xs : List X) (x : X) → list_any p (xs ++ x ∷ []) ≡ (list_any p xs || p x)
  any-one_more p xs x = list_any-append p xs (x ∷ []) ∙ ap (λ b. list_any p xs || b) (or-false (p x))

  pub first-one_more : {T : Type 0} (f : X → Option T) (xs : List X) (x : X) → first_of f (xs ++ x ∷ []) ≡ or_first (first_of f xs) (f x)
  first-one_more f [] x = or_first-None (f x)
  first-one_more f (y ∷ ys) x = ap (or_first (f y)) (first-one_more f ys x) ∙ sym (or_first_assoc (f y) (first_of f ys) (f x))

  pub any-told : {D : Type 0} (p : X → Bool) (told : D) (xs : List X) → only_one (list_any p xs) told ≡ first_told (λ x. only_one (p x) told) xs
  any-told p told [] = refl
  any-told p told (x ∷ xs) = by_test (p x) (any-told p told xs)
    where
      by_test : (b : Bool) → only_one (list_any p xs) told ≡ first_told (λ x. only_one (p x) told) xs
          → only_one (b || list_any p xs) told ≡ or_else (only_one b told) (first_told (λ x. only_one (p x) told) xs)
      by_test true later = refl
      by_test false later = later

  pub first-told : {T D : Type 0} (f : X → Option T) (told : T → D) (xs : List X)
      → option_map_or (λ t. told t ∷ []) (first_of f xs) [] ≡ first_told (λ x. option_map_or (λ t. told t ∷ []) (f x) []) xs
  first-told {T = T} f told [] = refl
  first-told {T = T} f told (x ∷ xs) = by_case (f x) (first-told f told xs)
    where
      by_case : (o : Option T) → option_map_or (λ t. told t ∷ []) (first_of f xs) [] ≡ first_told (λ x. option_map_or (λ t. told t ∷ []) (f x) []) xs
          → option_map_or (λ t. told t ∷ []) (or_first o (first_of f xs)) []
          ≡ or_else (option_map_or (λ t. told t ∷ []) o []) (first_told (λ x. option_map_or (λ t. told t ∷ []) (f x) []) xs)
      by_case None later = later
      by_case (Some t) later = refl

  -- where there is none
  pub none-first : {T : Type 0} (f : X → Option T) → ((x : X) → f x ≡ None) → (xs : List X) → first_of f xs ≡ None
  none-first f none [] = refl
  none-first f none (x ∷ xs) = ap (λ o. or_first o (first_of f xs)) (none x) ∙ none-first f none xs

  pub none-told : {D : Type 0} (f : X → List D) → ((x : X) → f x ≡ []) → (xs : List X) → first_told f xs ≡ []
  none-told f none [] = refl
  none-told f none (x ∷ xs) = ap (λ l. or_else l (first_told f xs)) (none x) ∙ none-told f none xs

  -- all that is told, where anything is
  pub any-all_told : {D : Type 0} (p : X → Bool) (told : List D) (xs : List X) → (if list_any p xs then told else []) ≡ first_told (λ x. if p x then told else []) xs
  any-all_told {D = D} p [] xs =
      let none : List D = [] in
      if-same none (list_any p xs) ∙ sym (none-told (λ x. if p x then none else none) (λ x. if-same none (p x)) xs)
  any-all_told p (one ∷ more) [] = refl
  any-all_told p (one ∷ more) (x ∷ xs) = by_test (p x) (any-all_told p (one ∷ more) xs)
    where
      by_test : (b : Bool) → (if list_any p xs then one ∷ more else []) ≡ first_told (λ x. if p x then one ∷ more else []) xs
          → (if b || list_any p xs then one ∷ more else []) ≡ or_else (if b then one ∷ more else []) (first_told (λ x. if p x then one ∷ more else []) xs)
      by_test true later = refl
      by_test false later = later

  pub flat-same : {Y : Type 0} (f g : X → List Y) → ((x : X) → f x ≡ g x) → (xs : List X) → flat_map f xs ≡ flat_map g xs
  flat-same f g same [] = refl
  flat-same f g same (x ∷ xs) = λ i. same x i ++ flat-same f g same xs i
