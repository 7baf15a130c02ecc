-- Lists of things with names: what stays under a name.
use Rattle.std.proofs.Common.{◌≡◌, ℕ, Bool, true, false, not, cond, if◌then◌else◌, Option, Some, None, is_some, List, [], ◌∷◌, ◌++◌, refl, sym, ap, ◌∙◌, subst}
use Rattle.std.specs.Str.{bytes_eq}
use Rattle.std.proofs.lemmas.Slice.Eq.{bytes_eq-Decides}
use Rattle.gql_ast_base.specs.Names.{Named}
use Rattle.gql_schema_types.specs.Entries.{is_called, entry, put_new, joined, without}

module _ {X : Type 0} (own : X → Named) (name : List ℕ) where
  -- ---- behind the one that is there
  pub entry-front : (d : X) (xs ys : List X) → entry own name xs ≡ Some d → entry own name (xs ++ ys) ≡ Some d
  entry-front d [] ys found = absurd cc
  entry-front d (x ∷ xs) ys found = by_test (is_called own name x) found (entry-front d xs ys)
    where
      by_test : (b : Bool) → cond b (Some x) (entry own name xs) ≡ Some d → (entry own name xs ≡ Some d → entry own name (xs ++ ys) ≡ Some d)
          → cond b (Some x) (entry own name (xs ++ ys)) ≡ Some d
      by_test true found later = found
      by_test false found later = later found

  pub entry-last : (x : X) (xs : List X) → entry own name xs ≡ None → entry own name (xs ++ x ∷ []) ≡ cond (is_called own name x) (Some x) None
  entry-last x [] none = refl
  entry-last x (y ∷ ys) none = by_test (is_called own name y) none (entry-last x ys)
    where
      by_test : (b : Bool) → cond b (Some y) (entry own name ys) ≡ None → (entry own name ys ≡ None → entry own name (ys ++ x ∷ []) ≡ cond (is_called own name x) (Some x) None)
          → cond b (Some y) (entry own name (ys ++ x ∷ [])) ≡ cond (is_called own name x) (Some x) None
      by_test true none later = absurd cc
      by_test false none later = later none

  -- ---- of each name the first
  pub joined-kept : (d : X) (seen xs : List X) → entry own name seen ≡ Some d → entry own name (joined own seen xs) ≡ Some d
  joined-kept d seen [] found = found
  joined-kept d seen (x ∷ xs) found = joined-kept d (put_new own seen x) xs (by_test (entry own (own x).text seen))
    where
      by_test : (o : Option X) → entry own name (if is_some o then seen else seen ++ x ∷ []) ≡ Some d
      by_test (Some first) = found
      by_test None = entry-front d seen (x ∷ []) found

  pub joined-first : (d : X) (seen xs : List X) → entry own name seen ≡ None → entry own name xs ≡ Some d → entry own name (joined own seen xs) ≡ Some d
  joined-first d seen [] none found = absurd cc
  joined-first d seen (x ∷ xs) none found = by_test (is_called own name x) refl found (joined-first d (put_new own seen x) xs)
    where
      first : is_called own name x ≡ true → entry own name (put_new own seen x) ≡ Some x
      first is =
          let same : name ≡ (own x).text = (bytes_eq-Decides name (own x).text).0 is in
          let new : entry own (own x).text seen ≡ None = subst (λ n. entry own n seen ≡ None) same none in
          ap (λ o. entry own name (if is_some o then seen else seen ++ x ∷ [])) new ∙ entry-last x seen none ∙ ap (λ b. cond b (Some x) None) is

      later_none : is_called own name x ≡ false → (o : Option X) → entry own name (if is_some o then seen else seen ++ x ∷ []) ≡ None
      later_none is (Some y) = none
      later_none is None = entry-last x seen none ∙ ap (λ b. cond b (Some x) None) is

      by_test : (b : Bool) → is_called own name x ≡ b → cond b (Some x) (entry own name xs) ≡ Some d
          → (entry own name (put_new own seen x) ≡ None → entry own name xs ≡ Some d → entry own name (joined own (put_new own seen x) xs) ≡ Some d)
          → entry own name (joined own (put_new own seen x) xs) ≡ Some d
      by_test true is found later = joined-kept d (put_new own seen x) xs (first is ∙ found)
      by_test false is found later = later (later_none is (entry own (own x).text seen)) found

  -- ---- where others are left out
  pub entry-without : (n : List ℕ) → bytes_eq name n ≡ false → (xs : List X) → entry own name (without own n xs) ≡ entry own name xs
  entry-without n other [] = refl
  entry-without n other (x ∷ xs) = by_test (is_called own n x) refl (entry-without n other xs)
    where
      by_test : (b : Bool) → is_called own n x ≡ b → entry own name (without own n xs) ≡ entry own name xs
          → entry own name (cond (not b) (x ∷ without own n xs) (without own n xs)) ≡ cond (is_called own name x) (Some x) (entry own name xs)
      by_test true is later =
          let same : n ≡ (own x).text = (bytes_eq-Decides n (own x).text).0 is in
          later ∙ ap (λ b. cond b (Some x) (entry own name xs)) (sym (subst (λ k. bytes_eq name k ≡ false) same other))
      by_test false is later = ap (λ o. cond (is_called own name x) (Some x) o) later
