-- Of each name the place of the first thing that has it.
use Rattle.std.proofs.Common.{◌≡◌, ◌==◌, ℕ, zero, suc, ◌+◌, ◌<◌, nat_lt, Bool, true, false, cond, not, ◌&&◌, ◌||◌, if◌then◌else◌, Option, Some, None, is_some, List, [], ◌∷◌, ◌++◌, length, take, get_or, slice_get, position, refl, sym, ap, ◌∙◌, arith}
use Rattle.std.specs.List.{list_any, position_or_len}
use Rattle.std.specs.Map.{lookup}
use Rattle.std.specs.Option.{option_map}
use Rattle.std.specs.Str.{bytes_eq}
use Rattle.std.specs.Cmp.Lexicographic.{nat_list_eq_equiv}
use Rattle.std.proofs.lemmas.Bool.Decides.{nat_tests}
use Rattle.std.proofs.lemmas.List.{length-take-le, take_more}
use Rattle.std.proofs.lemmas.Option.{slice_get_read}
use Rattle.std.proofs.lemmas.Slice.Eq.{bytes_eq-Decides}
use Rattle.gql_ast_base.specs.Names.{Named}
use Rattle.gql_rules_values.specs.bridge.ByName.{Places, with_place}
use Rattle.gql_schema_types.specs.Entries.{is_called}

-- what is found first
abbrev or_first : {A : Type 0} → Option A → Option A → Option A
or_first None o = o
or_first (Some x) o = Some x

or_none : {A : Type 0} (o : Option A) → o ≡ or_first o None
or_none None = refl
or_none (Some x) = refl

some_first : {A : Type 0} (o further : Option A) → is_some o ≡ true → o ≡ or_first o further
some_first None further is = absurd cc
some_first (Some x) further is = refl

some-same : {A : Type 0} {a b : A} → Some a ≡ Some b → a ≡ b
some-same is = cc

-- the place that is found is this one
abbrev pub stands_at : Option ℕ → ℕ → Bool
stands_at None i = false
stands_at (Some first) i = first == i

one_more : (n : ℕ) → 1 + n ≡ suc n
one_more n = omega arith

below_more : (n m : ℕ) → nat_lt (suc n) (suc m) ≡ nat_lt n m
below_more n m = grind (arith, nat_tests)

below_suc : (m : ℕ) → nat_lt 0 (suc m) ≡ true
below_suc m = grind (arith, nat_tests)

same_more : (n m : ℕ) → (suc n == suc m) ≡ (n == m)
same_more n m = grind (arith, nat_tests)

none_before : (m : ℕ) → (0 == suc m) ≡ false
none_before m = grind (arith, nat_tests)

module _ {X : Type 0} (p : X → Bool) where
  position-cons : (x : X) (xs : List X) → position p (x ∷ xs) ≡ cond (p x) (Some 0) (option_map suc (position p xs))
  position-cons x xs = by_test (p x)
    where
      next : (within : Bool) → cond within (Some (suc (position_or_len p xs))) None ≡ option_map suc (cond within (Some (position_or_len p xs)) None)
      next true = refl
      next false = refl

      by_test : (b : Bool)
          → cond (nat_lt (cond (not b) (1 + position_or_len p xs) 0) (suc (length xs))) (Some (cond (not b) (1 + position_or_len p xs) 0)) None
          ≡ cond b (Some 0) (option_map suc (position p xs))
      by_test true = ap (λ b. cond b (Some 0) None) (below_suc (length xs))
      by_test false =
          ap (λ n. cond (nat_lt n (suc (length xs))) (Some n) None) (one_more (position_or_len p xs))
          ∙ ap (λ b. cond b (Some (suc (position_or_len p xs))) None) (below_more (position_or_len p xs) (length xs))
          ∙ next (nat_lt (position_or_len p xs) (length xs))

  -- it has a place exactly if there is one
  pub place-any : (xs : List X) → is_some (position p xs) ≡ list_any p xs
  place-any [] = refl
  place-any (x ∷ xs) = ap is_some (position-cons x xs) ∙ by_test (p x) (position p xs) ∙ ap (λ b. p x || b) (place-any xs)
    where
      by_test : (b : Bool) (o : Option ℕ) → is_some (cond b (Some 0) (option_map suc o)) ≡ (b || is_some o)
      by_test true o = refl
      by_test false (Some i) = refl
      by_test false None = refl

  -- what has a place has it exactly if none before passes
  pub first-place : (xs : List X) (i : ℕ) (x : X) → slice_get xs i ≡ Some x → p x ≡ true → stands_at (position p xs) i ≡ not (list_any p (take i xs))
  first-place [] i x at passes = absurd cc
  first-place (y ∷ ys) zero x at passes =
      ap (λ o. stands_at o 0) (position-cons y ys) ∙ ap (λ b. stands_at (cond b (Some 0) (option_map suc (position p ys))) 0) (ap p (some-same at) ∙ passes)
  first-place (y ∷ ys) (suc i) x at passes =
      ap (λ o. stands_at o (suc i)) (position-cons y ys) ∙ by_test (p y) (position p ys) ∙ ap (λ b. not (p y) && b) (first-place ys i x at passes) ∙ not_or (p y) (list_any p (take i ys))
    where
      by_test : (b : Bool) (o : Option ℕ) → stands_at (cond b (Some 0) (option_map suc o)) (suc i) ≡ (not b && stands_at o i)
      by_test true o = none_before i
      by_test false (Some k) = same_more k i
      by_test false None = refl

      not_or : (a b : Bool) → (not a && not b) ≡ not (a || b)
      not_or true b = refl
      not_or false b = refl

  pub position-last : (xs : List X) (x : X) → position p (xs ++ x ∷ []) ≡ or_first (position p xs) (cond (p x) (Some (length xs)) None)
  position-last [] x = position-cons x []
  position-last (y ∷ ys) x =
      position-cons y (ys ++ x ∷ [])
      ∙ ap (λ o. cond (p y) (Some 0) (option_map suc o)) (position-last ys x)
      ∙ by_test (p y) (position p ys) (p x)
      ∙ sym (ap (λ o. or_first o (cond (p x) (Some (suc (length ys))) None)) (position-cons y ys))
    where
      by_test : (b : Bool) (o : Option ℕ) (c : Bool)
          → cond b (Some 0) (option_map suc (or_first o (cond c (Some (length ys)) None)))
          ≡ or_first (cond b (Some 0) (option_map suc o)) (cond c (Some (suc (length ys))) None)
      by_test true o c = refl
      by_test false (Some i) c = refl
      by_test false None true = refl
      by_test false None false = refl

lookup-last : (t : List ℕ → Bool) (es : Places) (k : List ℕ) (at : ℕ) → lookup t (es ++ (k, at) ∷ []) ≡ or_first (lookup t es) (cond (t k) (Some at) None)
lookup-last t [] k at = refl
lookup-last t (e ∷ es) k at = by_test (t e.0) (lookup-last t es k at)
  where
    by_test : (b : Bool) → lookup t (es ++ (k, at) ∷ []) ≡ or_first (lookup t es) (cond (t k) (Some at) None)
        → cond b (Some e.1) (lookup t (es ++ (k, at) ∷ [])) ≡ or_first (cond b (Some e.1) (lookup t es)) (cond (t k) (Some at) None)
    by_test true later = refl
    by_test false later = later

-- with a thing more, a name has the place that it had, or else that
lookup-noted : {X : Type 0} (name_of : X → Named) (name : List ℕ) (places : Places) (x : X) (at : ℕ)
    → lookup (bytes_eq name) (with_place name_of places x at) ≡ or_first (lookup (bytes_eq name) places) (cond (bytes_eq name (name_of x).text) (Some at) None)
lookup-noted name_of name places x at = by_noted (is_some (lookup (bytes_eq (name_of x).text) places)) refl
  where
    same_name : (b : Bool) → bytes_eq name (name_of x).text ≡ b → is_some (lookup (bytes_eq (name_of x).text) places) ≡ true
        → lookup (bytes_eq name) places ≡ or_first (lookup (bytes_eq name) places) (cond b (Some at) None)
    same_name true same is =
        some_first (lookup (bytes_eq name) places) (Some at)
        (ap (λ n. is_some (lookup (bytes_eq n) places)) ((bytes_eq-Decides name (name_of x).text).0 same) ∙ is)
    same_name false same is = or_none (lookup (bytes_eq name) places)

    by_noted : (b : Bool) → is_some (lookup (bytes_eq (name_of x).text) places) ≡ b
        → lookup (bytes_eq name) (if b then places else places ++ ((name_of x).text, at) ∷ [])
        ≡ or_first (lookup (bytes_eq name) places) (cond (bytes_eq name (name_of x).text) (Some at) None)
    by_noted true is = same_name (bytes_eq name (name_of x).text) refl is
    by_noted false is = lookup-last (bytes_eq name) places (name_of x).text at

taken : {X : Type 0} (xs : List X) (i : ℕ) → i < length xs → length (take i xs) ≡ i
taken xs i within = length-take-le i xs (omega arith)

module _ {X : Type 0} (own : X → Named) (xs : List X) (i : ℕ) (x : X) (within : i < length xs) (is : x ≡ get_or xs i x) where
  -- the places of the things before x, once that of x is noted
  pub places-more : (name : List ℕ) (places : Places) → lookup (bytes_eq name) places ≡ position (is_called own name) (take i xs)
      → lookup (bytes_eq name) (with_place own places x i) ≡ position (is_called own name) (take (i + 1) xs)
  places-more name places are =
      let p = is_called own name in
      lookup-noted own name places x i
      ∙ ap (λ o. or_first o (cond (p x) (Some i) None)) are
      ∙ sym (ap (λ n. or_first (position p (take i xs)) (cond (p x) (Some n) None)) (taken xs i within))
      ∙ sym (position-last p (take i xs) x)
      ∙ sym (ap (position p) (take_more xs i x within ∙ ap (λ y. take i xs ++ y ∷ []) (sym is)))

  -- x is the first of its name exactly if none before it has that
  pub first-of-name : (item : X) → slice_get xs i ≡ Some item
      → stands_at (position (is_called own (own x).text) xs) i ≡ not (list_any (is_called own (own item).text) (take i xs))
  first-of-name item there =
      let same : x ≡ item = some-same (sym (slice_get_read xs (length xs) i x refl within is) ∙ there) in
      ap (λ y. stands_at (position (is_called own (own y).text) xs) i) same
      ∙ first-place (is_called own (own item).text) xs i item there (nat_list_eq_equiv.refl (own item).text)
