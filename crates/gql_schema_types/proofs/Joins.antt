-- Lists that are joined, of each name the first.
use Rattle.std.proofs.Common.{◌≡◌, ℕ, Bool, true, false, cond, if◌then◌else◌, Option, Some, None, is_some, List, [], ◌∷◌, ◌++◌, fold, refl, sym, ap, ◌∙◌, subst, append_assoc, ◌||◌}
use Rattle.std.specs.List.{list_any, IsDistinct, AllByRecursion}
use Rattle.std.specs.Str.{bytes_eq}
use Rattle.std.specs.Cmp.Lexicographic.{nat_list_eq_equiv}
use Rattle.std.proofs.lemmas.List.{map-append, append-nil}
use Rattle.std.proofs.lemmas.Map.Keys.{IsDistinct-push}
use Rattle.gql_ast_base.specs.Names.{Named}
use Rattle.gql_schema_types.specs.Entries.{texts, is_called, entry, put, put_new, joined}
use Rattle.gql_schema_types.proofs.Lookups.{put-missing}

module _ {X : Type 0} (own : X → Named) where
  pub put_new-missing : (x : X) (xs : List X) → entry own (own x).text xs ≡ None → put_new own xs x ≡ xs ++ x ∷ []
  put_new-missing x xs none = ap (λ o. if is_some o then xs else xs ++ x ∷ []) none

  pub put_new-found : (x first : X) (xs : List X) → entry own (own x).text xs ≡ Some first → put_new own xs x ≡ xs
  put_new-found x first xs is = ap (λ o. if is_some o then xs else xs ++ x ∷ []) is

  -- ---- distinct names
  none-any : (name : List ℕ) (xs : List X) → entry own name xs ≡ None → list_any (bytes_eq name) (texts own xs) ≡ false
  none-any name [] none = refl
  none-any name (x ∷ xs) none = by_test (is_called own name x) none (none-any name xs)
    where
      by_test : (b : Bool) → cond b (Some x) (entry own name xs) ≡ None → (entry own name xs ≡ None → list_any (bytes_eq name) (texts own xs) ≡ false)
          → (b || list_any (bytes_eq name) (texts own xs)) ≡ false
      by_test true none later = absurd cc
      by_test false none later = later none

  pub push-distinct : (xs : List X) (x : X) → IsDistinct bytes_eq (texts own xs) → entry own (own x).text xs ≡ None → IsDistinct bytes_eq (texts own (xs ++ x ∷ []))
  push-distinct xs x distinct none =
      subst (IsDistinct bytes_eq) (sym (map-append (λ x. (own x).text) xs (x ∷ [])))
      (IsDistinct-push nat_list_eq_equiv (texts own xs) (own x).text distinct (none-any (own x).text xs none))

  put_new-distinct : (seen : List X) (x : X) → IsDistinct bytes_eq (texts own seen) → IsDistinct bytes_eq (texts own (put_new own seen x))
  put_new-distinct seen x distinct = by_test (entry own (own x).text seen) refl
    where
      by_test : (o : Option X) → entry own (own x).text seen ≡ o → IsDistinct bytes_eq (texts own (if is_some o then seen else seen ++ x ∷ []))
      by_test (Some first) is = distinct
      by_test None is = push-distinct seen x distinct is

  pub joined-distinct : (seen xs : List X) → IsDistinct bytes_eq (texts own seen) → IsDistinct bytes_eq (texts own (joined own seen xs))
  joined-distinct seen [] distinct = distinct
  joined-distinct seen (x ∷ xs) distinct = joined-distinct (put_new own seen x) xs (put_new-distinct seen x distinct)

  pub none-distinct : IsDistinct bytes_eq (texts own [])
  unfolding IsDistinct
  none-distinct = tt

  pub empty-distinct : (xs : List X) → xs ≡ [] → IsDistinct bytes_eq (texts own xs)
  empty-distinct xs is = subst (λ l. IsDistinct bytes_eq (texts own l)) (sym is) none-distinct

  apart-later : (s x : X) (seen xs : List X) → AllByRecursion (λ k. bytes_eq (own s).text k ≡ false) (texts own (seen ++ x ∷ xs)) → bytes_eq (own s).text (own x).text ≡ false
  apart-later s x [] xs apart = apart.0
  apart-later s x (y ∷ seen) xs apart = apart-later s x seen xs apart.1

  new-name : (x : X) (seen xs : List X) → IsDistinct bytes_eq (texts own (seen ++ x ∷ xs)) → entry own (own x).text seen ≡ None
  unfolding IsDistinct
  new-name x [] xs distinct = refl
  new-name x (s ∷ seen) xs distinct =
      ap (λ b. cond b (Some s) (entry own (own x).text seen)) (nat_list_eq_equiv.symm (own x).text (own s).text ∙ apart-later s x seen xs distinct.0)
      ∙ new-name x seen xs distinct.1

  -- things of distinct names go one behind the other
  pub put-all : (seen xs : List X) → IsDistinct bytes_eq (texts own (seen ++ xs)) → fold (put own) seen xs ≡ seen ++ xs
  put-all seen [] distinct = sym (append-nil seen)
  put-all seen (x ∷ xs) distinct =
      let last : put own seen x ≡ seen ++ x ∷ [] = put-missing own x seen (new-name x seen xs distinct) in
      let again : seen ++ x ∷ [] ++ xs ≡ seen ++ (x ∷ xs) = append_assoc seen (x ∷ []) xs in
      ap (λ l. fold (put own) l xs) last ∙ put-all (seen ++ x ∷ []) xs (subst (λ l. IsDistinct bytes_eq (texts own l)) (sym again) distinct) ∙ again
