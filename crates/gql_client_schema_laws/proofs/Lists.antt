-- Lists of which something holds of each item.
use Rattle.std.proofs.Common.{◌≡◌, ℕ, Bool, true, false, cond, if◌then◌else◌, Some, None, List, [], ◌∷◌, ◌++◌, map, fold, refl, sym, ap, ◌∙◌, append_assoc}
use Rattle.std.specs.List.{IsDistinct, AllByRecursion, filter, flat_map}
use Rattle.std.specs.Str.{bytes_eq}
use Rattle.std.proofs.lemmas.Slice.Eq.{bytes_eq-Decides}
use Rattle.gql_ast_base.specs.Names.{Named}
use Rattle.gql_schema_types.specs.Entries.{texts, is_called, entry, put}

pub all_unmapped : {X Y : Type 0} (P : Y → Type 0) (f : X → Y) (xs : List X) → AllByRecursion P (map f xs) → AllByRecursion (λ x. P (f x)) xs
all_unmapped P f [] all = tt
all_unmapped P f (x ∷ xs) all = (all.0, all_unmapped P f xs all.1)

pub flat_map_append : {X Y : Type 0} (f : X → List Y) (xs ys : List X) → flat_map f (xs ++ ys) ≡ flat_map f xs ++ flat_map f ys
flat_map_append f [] ys = refl
flat_map_append f (x ∷ xs) ys = ap (λ l. f x ++ l) (flat_map_append f xs ys) ∙ sym (append_assoc (f x) (flat_map f xs) (flat_map f ys))

pub filter_none : {X : Type 0} (p : X → Bool) (xs ys : List X) → AllByRecursion (λ x. p x ≡ false) xs → filter p (xs ++ ys) ≡ filter p ys
filter_none p [] ys all = refl
filter_none p (x ∷ xs) ys all = ap (λ b. cond b (x ∷ filter p (xs ++ ys)) (filter p (xs ++ ys))) all.0 ∙ filter_none p xs ys all.1

pub filter_all : {X : Type 0} (p : X → Bool) (xs : List X) → AllByRecursion (λ x. p x ≡ true) xs → filter p xs ≡ xs
filter_all p [] all = refl
filter_all p (x ∷ xs) all = ap (λ b. cond b (x ∷ filter p xs) (filter p xs)) all.0 ∙ ap (λ l. x ∷ l) (filter_all p xs all.1)

-- a name that passes a test is another than one that does not
pub apart : (p : List ℕ → Bool) (n m : List ℕ) → p n ≡ true → p m ≡ false → bytes_eq n m ≡ false
apart p n m one other = by_test (bytes_eq n m) refl
  where
    by_test : (b : Bool) → bytes_eq n m ≡ b → b ≡ false
    by_test true is =
        let same : n ≡ m = (bytes_eq-Decides n m).0 is in
        let both : true ≡ false = sym one ∙ ap p same ∙ other in
        absurd cc
    by_test false is = refl

module _ {X : Type 0} (own : X → Named) (p : List ℕ → Bool) where
  abbrev pub Passes : X → Type 0
  Passes x = p (own x).text ≡ true

  abbrev pub Fails : X → Type 0
  Fails x = p (own x).text ≡ false

  put_passes : (x : X) (xs : List X) → Passes x → AllByRecursion Passes xs → AllByRecursion Passes (put own xs x)
  put_passes x [] is all = (is, tt)
  put_passes x (y ∷ ys) is all = by_test (is_called own (own x).text y) (put_passes x ys is all.1)
    where
      by_test : (b : Bool) → AllByRecursion Passes (put own ys x) → AllByRecursion Passes (if b then x ∷ ys else y ∷ put own ys x)
      by_test true later = (is, all.1)
      by_test false later = (all.0, later)

  pub all_put_pass : (xs ys : List X) → AllByRecursion Passes xs → AllByRecursion Passes ys → AllByRecursion Passes (fold (put own) xs ys)
  all_put_pass xs [] first all = first
  all_put_pass xs (y ∷ ys) first all = all_put_pass (put own xs y) ys (put_passes y xs all.0 first) all.1

  all_behind : (P : List ℕ → Type 0) (xs ys : List X) → AllByRecursion P (texts own xs) → AllByRecursion P (texts own ys) → AllByRecursion P (texts own (xs ++ ys))
  all_behind P [] ys one two = two
  all_behind P (x ∷ xs) ys one two = (one.0, all_behind P xs ys one.1 two)

  apart_from_all : (n : List ℕ) → p n ≡ true → (ys : List X) → AllByRecursion Fails ys → AllByRecursion (λ k. bytes_eq n k ≡ false) (texts own ys)
  apart_from_all n is [] all = tt
  apart_from_all n is (y ∷ ys) all = (apart p n (own y).text is all.0, apart_from_all n is ys all.1)

  -- distinct names that pass, and distinct names that do not
  pub distinct_both : (xs ys : List X) → AllByRecursion Passes xs → AllByRecursion Fails ys → IsDistinct bytes_eq (texts own xs) → IsDistinct bytes_eq (texts own ys)
      → IsDistinct bytes_eq (texts own (xs ++ ys))
  unfolding IsDistinct
  distinct_both [] ys pass fail one two = two
  distinct_both (x ∷ xs) ys pass fail one two =
      (all_behind (λ k. bytes_eq (own x).text k ≡ false) xs ys one.0 (apart_from_all (own x).text pass.0 ys fail), distinct_both xs ys pass.1 fail one.1 two)

  none_called : (n : List ℕ) → p n ≡ true → (ys : List X) → AllByRecursion Fails ys → entry own n ys ≡ None
  none_called n is [] all = refl
  none_called n is (y ∷ ys) all = ap (λ b. cond b (Some y) (entry own n ys)) (apart p n (own y).text is all.0) ∙ none_called n is ys all.1

  -- what fails has no name that passes
  pub entry_before : (n : List ℕ) → p n ≡ true → (xs ys : List X) → AllByRecursion Fails ys → entry own n (xs ++ ys) ≡ entry own n xs
  entry_before n is [] ys all = none_called n is ys all
  entry_before n is (x ∷ xs) ys all = ap (λ o. cond (is_called own n x) (Some x) o) (entry_before n is xs ys all)
