-- Things of distinct names: none repeats another, and joined they stay as they are.
use Rattle.std.proofs.Common.{◌≡◌, ℕ, Bool, true, false, cond, if◌then◌else◌, Option, Some, None, is_some, List, [], ◌∷◌, ◌++◌, map, fold, refl, sym, ap, ◌∙◌, subst, append_assoc}
use Rattle.std.specs.Option.{option_map_or}
use Rattle.std.specs.List.{IsDistinct, AllByRecursion}
use Rattle.std.specs.Str.{bytes_eq}
use Rattle.std.specs.Cmp.Lexicographic.{nat_list_eq_equiv}
use Rattle.std.proofs.lemmas.List.{append-nil}
use Rattle.std.proofs.lemmas.Slice.Eq.{bytes_eq-Decides}
use Rattle.gql_ast_base.specs.Names.{Named}
use Rattle.gql_schema_types.specs.Entries.{texts, is_called, entry, put, put_new, joined, repeats}
use Rattle.gql_schema_types.proofs.Joins.{put_new-missing, push-distinct}
use Rattle.gql_schema_types.proofs.Lookups.{put-missing}

-- ---- lists

pub unmapped : {X Y : Type 0} (f : X → Y) (xs : List X) → map f xs ≡ [] → xs ≡ []
unmapped f [] is = refl
unmapped f (x ∷ xs) is = absurd cc

module _ {X : Type 0} (own : X → Named) where
  apart_later : (s x : X) (seen xs : List X) → AllByRecursion (λ k. bytes_eq (own s).text k ≡ false) (texts own (seen ++ x ∷ xs)) → bytes_eq (own s).text (own x).text ≡ false
  apart_later s x [] xs apart = apart.0
  apart_later s x (y ∷ seen) xs apart = apart_later s x seen xs apart.1

  -- behind others of distinct names it has none of theirs
  pub is_new : (x : X) (seen xs : List X) → IsDistinct bytes_eq (texts own (seen ++ x ∷ xs)) → entry own (own x).text seen ≡ None
  unfolding IsDistinct
  is_new x [] xs distinct = refl
  is_new x (s ∷ seen) xs distinct =
      ap (λ b. cond b (Some s) (entry own (own x).text seen)) (nat_list_eq_equiv.symm (own x).text (own s).text ∙ apart_later s x seen xs distinct.0)
      ∙ is_new x seen xs distinct.1

  step : (x : X) (seen xs : List X) → IsDistinct bytes_eq (texts own (seen ++ (x ∷ xs))) → IsDistinct bytes_eq (texts own ((seen ++ x ∷ []) ++ xs))
  step x seen xs distinct = subst (λ l. IsDistinct bytes_eq (texts own l)) (sym (append_assoc seen (x ∷ []) xs)) distinct

  pub none_repeats : (seen xs : List X) → IsDistinct bytes_eq (texts own (seen ++ xs)) → repeats own seen xs ≡ []
  none_repeats seen [] distinct = refl
  none_repeats seen (x ∷ xs) distinct =
      let new : entry own (own x).text seen ≡ None = is_new x seen xs distinct in
      ap (λ o. option_map_or (λ first. (x, first) ∷ []) o [] ++ repeats own (put_new own seen x) xs) new
      ∙ ap (λ l. repeats own l xs) (put_new-missing own x seen new) ∙ none_repeats (seen ++ x ∷ []) xs (step x seen xs distinct)

  pub stay_joined : (seen xs : List X) → IsDistinct bytes_eq (texts own (seen ++ xs)) → joined own seen xs ≡ seen ++ xs
  stay_joined seen [] distinct = sym (append-nil seen)
  stay_joined seen (x ∷ xs) distinct =
      let new : entry own (own x).text seen ≡ None = is_new x seen xs distinct in
      ap (λ l. joined own l xs) (put_new-missing own x seen new) ∙ stay_joined (seen ++ x ∷ []) xs (step x seen xs distinct) ∙ append_assoc seen (x ∷ []) xs

  -- where none repeats another, the names are distinct
  pub distinct_of : (seen xs : List X) → IsDistinct bytes_eq (texts own seen) → repeats own seen xs ≡ [] → IsDistinct bytes_eq (texts own (seen ++ xs))
  distinct_of seen [] distinct none = subst (λ l. IsDistinct bytes_eq (texts own l)) (sym (append-nil seen)) distinct
  distinct_of seen (x ∷ xs) distinct none = by_test (entry own (own x).text seen) refl none (distinct_of (seen ++ x ∷ []) xs)
    where
      by_test : (o : Option X) → entry own (own x).text seen ≡ o
          → option_map_or (λ first. (x, first) ∷ []) o [] ++ repeats own (if is_some o then seen else seen ++ x ∷ []) xs ≡ []
          → (IsDistinct bytes_eq (texts own (seen ++ x ∷ [])) → repeats own (seen ++ x ∷ []) xs ≡ [] → IsDistinct bytes_eq (texts own ((seen ++ x ∷ []) ++ xs)))
          → IsDistinct bytes_eq (texts own (seen ++ (x ∷ xs)))
      by_test (Some first) is none later = absurd cc
      by_test None is none later =
          subst (λ l. IsDistinct bytes_eq (texts own l)) (append_assoc seen (x ∷ []) xs) (later (push-distinct own seen x distinct is) none)

  none_front : (name : List ℕ) (xs ys : List X) → entry own name (xs ++ ys) ≡ None → entry own name xs ≡ None
  none_front name [] ys none = refl
  none_front name (x ∷ xs) ys none = by_test (is_called own name x) none (none_front name xs ys)
    where
      by_test : (b : Bool) → cond b (Some x) (entry own name (xs ++ ys)) ≡ None → (entry own name (xs ++ ys) ≡ None → entry own name xs ≡ None) → cond b (Some x) (entry own name xs) ≡ None
      by_test true none later = absurd cc
      by_test false none later = later none

  all_new_behind : (front more xs : List X) → IsDistinct bytes_eq (texts own ((front ++ more) ++ xs)) → AllByRecursion (λ x. entry own (own x).text front ≡ None) xs
  all_new_behind front more [] distinct = tt
  all_new_behind front more (x ∷ xs) distinct =
      let again : IsDistinct bytes_eq (texts own ((front ++ (more ++ x ∷ [])) ++ xs)) =
      subst (λ l. IsDistinct bytes_eq (texts own (l ++ xs))) (append_assoc front more (x ∷ [])) (step x (front ++ more) xs distinct) in
      (none_front (own x).text front more (is_new x (front ++ more) xs distinct), all_new_behind front (more ++ x ∷ []) xs again)

  -- none of the later ones has a name of the first ones
  pub all_new : (front xs : List X) → IsDistinct bytes_eq (texts own (front ++ xs)) → AllByRecursion (λ x. entry own (own x).text front ≡ None) xs
  all_new front xs distinct = all_new_behind front [] xs (subst (λ l. IsDistinct bytes_eq (texts own (l ++ xs))) (sym (append-nil front)) distinct)

  -- ---- put one after the other
  put_texts : (x first : X) (xs : List X) → entry own (own x).text xs ≡ Some first → texts own (put own xs x) ≡ texts own xs
  put_texts x first [] is = absurd cc
  put_texts x first (y ∷ ys) is = by_test (is_called own (own x).text y) refl is (put_texts x first ys)
    where
      by_test : (b : Bool) → is_called own (own x).text y ≡ b → cond b (Some y) (entry own (own x).text ys) ≡ Some first
          → (entry own (own x).text ys ≡ Some first → texts own (put own ys x) ≡ texts own ys)
          → texts own (if b then x ∷ ys else y ∷ put own ys x) ≡ texts own (y ∷ ys)
      by_test true is found later = ap (λ n. n ∷ texts own ys) ((bytes_eq-Decides (own x).text (own y).text).0 is)
      by_test false is found later = ap (λ l. (own y).text ∷ l) (later found)

  put_distinct : (xs : List X) (x : X) → IsDistinct bytes_eq (texts own xs) → IsDistinct bytes_eq (texts own (put own xs x))
  put_distinct xs x distinct = by_test (entry own (own x).text xs) refl
    where
      by_test : (o : Option X) → entry own (own x).text xs ≡ o → IsDistinct bytes_eq (texts own (put own xs x))
      by_test (Some first) is = subst (IsDistinct bytes_eq) (sym (put_texts x first xs is)) distinct
      by_test None is = subst (λ l. IsDistinct bytes_eq (texts own l)) (sym (put-missing own x xs is)) (push-distinct own xs x distinct is)

  pub all_put_distinct : (xs ys : List X) → IsDistinct bytes_eq (texts own xs) → IsDistinct bytes_eq (texts own (fold (put own) xs ys))
  all_put_distinct xs [] distinct = distinct
  all_put_distinct xs (y ∷ ys) distinct = all_put_distinct (put own xs y) ys (put_distinct xs y distinct)

-- ---- what is shown of things

-- the texts of the names, by what is shown
pub texts_shown : {X Y : Type 0} (own : X → Named) (shown : X → Y) (text : Y → List ℕ) → ((x : X) → text (shown x) ≡ (own x).text)
    → (xs : List X) → texts own xs ≡ map text (map shown xs)
texts_shown own shown text same [] = refl
texts_shown own shown text same (x ∷ xs) = λ i. sym (same x) i ∷ texts_shown own shown text same xs i
