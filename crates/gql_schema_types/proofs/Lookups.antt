-- Lists of things with names, and the places in them.
use Rattle.std.proofs.Common.{◌≡◌, ℕ, zero, suc, ◌+◌, ◌<◌, Bool, true, false, cond, not, if◌then◌else◌, nat_lt, Some, None, Option, List, [], ◌∷◌, ◌++◌, length, map, set, get_or, take, slice_get, position, remove, refl, sym, ap, ◌∙◌, subst, arith}
use Rattle.std.specs.List.{IsDistinct, AllByRecursion, find, position_or_len}
use Rattle.std.specs.Str.{bytes_eq}
use Rattle.std.specs.Cmp.Lexicographic.{nat_list_eq_equiv}
use Rattle.std.proofs.lemmas.Bool.{ltb-false}
use Rattle.std.proofs.lemmas.List.{length-map, map-set, set-get_or, get_or-map, take_more}
use Rattle.std.proofs.lemmas.List.Folds.{find_at}
use Rattle.std.proofs.lemmas.List.Quantifiers.{position-Some}
use Rattle.std.proofs.lemmas.List.Sorted.{IsPermutation-remove}
use Rattle.std.proofs.lemmas.Map.Keys.{IsDistinct-tail, IsDistinct-IsPermutation}
use Rattle.std.proofs.lemmas.Option.{slice_get_past, cond_some}
use Rattle.std.proofs.lemmas.Slice.Eq.{bytes_eq-Decides}
use Rattle.indexmap.proofs.SetLemmas.{map-remove}
use Rattle.jb_map.proofs.Positions.{position-map}
use Rattle.gql_ast_base.specs.Names.{Named}
use Rattle.gql_schema_types.specs.Entries.{texts, is_called, put, without}

none_within : {X : Type 0} (xs : List X) (i : ℕ) → i < length xs → None ≡ slice_get xs i → ⊥
none_within [] i h e = omega arith
none_within (x ∷ xs) zero h e = cc
none_within (x ∷ xs) (suc i) h e = none_within xs i (omega arith) e

module _ {X : Type 0} (p : X → Bool) where
  -- what is found stands at the place
  pub found : (xs : List X) (i : ℕ) → position p xs ≡ Some i → find p xs ≡ slice_get xs i
  found xs i is = find_at p xs ∙ ap (slice_get xs) (cond_some (nat_lt (position_or_len p xs) (length xs)) (position_or_len p xs) i is).1

  pub missing : (xs : List X) → position p xs ≡ None → find p xs ≡ None
  missing xs none = by_test (nat_lt (position_or_len p xs) (length xs)) refl none
    where
      by_test : (b : Bool) → nat_lt (position_or_len p xs) (length xs) ≡ b → cond b (Some (position_or_len p xs)) None ≡ None → find p xs ≡ None
      by_test true is none = absurd cc
      by_test false is none = find_at p xs ∙ slice_get_past xs (position_or_len p xs) (ltb-false (position_or_len p xs) (length xs) is)

  pub place_within : (xs : List X) (i : ℕ) → position p xs ≡ Some i → i < length xs
  place_within [] i is = absurd cc
  place_within (x ∷ xs) i is = (position-Some p (x ∷ xs) i x is).0

  pub absent : (xs : List X) → find p xs ≡ None → position p xs ≡ None
  absent xs none = by_test (position p xs) refl
    where
      by_test : (o : Option ℕ) → position p xs ≡ o → o ≡ None
      by_test None is = refl
      by_test (Some i) is = absurd (none_within xs i (place_within xs i is) (sym none ∙ found xs i is))

module _ {X : Type 0} (own : X → Named) where
  pub place-texts : (name : List ℕ) (xs : List X) → position (bytes_eq name) (texts own xs) ≡ position (is_called own name) xs
  place-texts name xs = position-map (λ x. (own x).text) (bytes_eq name) xs

  put_at : (x : X) (xs : List X) (i : ℕ) → i < length xs → is_called own (own x).text (get_or xs i x) ≡ true
      → ((k : ℕ) → k < i → is_called own (own x).text (get_or xs k x) ≡ false) → put own xs x ≡ set xs i x
  put_at x [] i within here earlier = absurd (omega arith)
  put_at x (y ∷ ys) zero within here earlier = ap (λ b. if b then x ∷ ys else y ∷ put own ys x) here
  put_at x (y ∷ ys) (suc i) within here earlier =
      ap (λ b. if b then x ∷ ys else y ∷ put own ys x) (earlier zero (omega arith))
      ∙ ap (λ l. y ∷ l) (put_at x ys i (omega arith) here (λ k below. earlier (suc k) (omega arith)))

  pub put-found : (x : X) (xs : List X) (i : ℕ) → position (is_called own (own x).text) xs ≡ Some i → put own xs x ≡ set xs i x
  put-found x xs i is = let at = position-Some (is_called own (own x).text) xs i x is in put_at x xs i at.0 at.1 at.2

  pub put-missing : (x : X) (xs : List X) → find (is_called own (own x).text) xs ≡ None → put own xs x ≡ xs ++ x ∷ []
  put-missing x [] none = refl
  put-missing x (y ∷ ys) none = by_test (is_called own (own x).text y) none (put-missing x ys)
    where
      by_test : (b : Bool) → cond b (Some y) (find (is_called own (own x).text) ys) ≡ None → (find (is_called own (own x).text) ys ≡ None → put own ys x ≡ ys ++ x ∷ [])
          → (if b then x ∷ ys else y ∷ put own ys x) ≡ y ∷ (ys ++ x ∷ [])
      by_test true none later = absurd cc
      by_test false none later = ap (λ l. y ∷ l) (later none)

  -- an entry of the same name in its place
  pub texts-set : (x : X) (xs : List X) (i : ℕ) → position (is_called own (own x).text) xs ≡ Some i → texts own (set xs i x) ≡ texts own xs
  texts-set x xs i is =
      let at = position-Some (is_called own (own x).text) xs i x is in
      let same : (own x).text ≡ (own (get_or xs i x)).text = (bytes_eq-Decides (own x).text (own (get_or xs i x)).text).0 at.1 in
      let text : X → List ℕ = λ x. (own x).text in
      map-set text xs i x ∙ ap (set (texts own xs) i) (same ∙ sym (get_or-map text xs i x (text x) at.0)) ∙ set-get_or (texts own xs) i (text x)

  -- one less
  pub texts-remove : (xs : List X) (i : ℕ) → texts own (remove xs i) ≡ remove (texts own xs) i
  texts-remove xs i = map-remove (λ x. (own x).text) xs i

  pub removed_distinct : (ks : List (List ℕ)) (i : ℕ) (k : List ℕ) → i < length ks → k ≡ get_or ks i k → IsDistinct bytes_eq ks → IsDistinct bytes_eq (remove ks i)
  removed_distinct ks i k within at distinct =
      IsDistinct-tail bytes_eq k (remove ks i) (IsDistinct-IsPermutation bytes_eq nat_list_eq_equiv.symm ks (k ∷ remove ks i) (IsPermutation-remove ks i k within at) distinct)

  pub without-missing : (name : List ℕ) (xs : List X) → find (is_called own name) xs ≡ None → without own name xs ≡ xs
  without-missing name [] none = refl
  without-missing name (y ∷ ys) none = by_test (is_called own name y) none (without-missing name ys)
    where
      by_test : (b : Bool) → cond b (Some y) (find (is_called own name) ys) ≡ None → (find (is_called own name) ys ≡ None → without own name ys ≡ ys)
          → cond (not b) (y ∷ without own name ys) (without own name ys) ≡ y ∷ ys
      by_test true none later = absurd cc
      by_test false none later = ap (λ l. y ∷ l) (later none)

  others : (name : List ℕ) (ys : List X) → AllByRecursion (λ k. bytes_eq name k ≡ false) (texts own ys) → without own name ys ≡ ys
  others name [] apart = refl
  others name (y ∷ ys) apart = ap (λ b. cond (not b) (y ∷ without own name ys) (without own name ys)) apart.0 ∙ ap (λ l. y ∷ l) (others name ys apart.1)

  without_at : (name : List ℕ) (d : X) (xs : List X) (i : ℕ) → i < length xs → is_called own name (get_or xs i d) ≡ true
      → ((k : ℕ) → k < i → is_called own name (get_or xs k d) ≡ false) → IsDistinct bytes_eq (texts own xs) → without own name xs ≡ remove xs i
  unfolding IsDistinct
  without_at name d [] i within here earlier distinct = absurd (omega arith)
  without_at name d (y ∷ ys) zero within here earlier distinct =
      let same : name ≡ (own y).text = (bytes_eq-Decides name (own y).text).0 here in
      ap (λ b. cond (not b) (y ∷ without own name ys) (without own name ys)) here
      ∙ others name ys (subst (λ n. AllByRecursion (λ k. bytes_eq n k ≡ false) (texts own ys)) (sym same) distinct.0)
  without_at name d (y ∷ ys) (suc i) within here earlier distinct =
      ap (λ b. cond (not b) (y ∷ without own name ys) (without own name ys)) (earlier zero (omega arith))
      ∙ ap (λ l. y ∷ l) (without_at name d ys i (omega arith) here (λ k below. earlier (suc k) (omega arith)) distinct.1)

  pub without-found : (name : List ℕ) (d : X) (xs : List X) (i : ℕ) → position (is_called own name) xs ≡ Some i → IsDistinct bytes_eq (texts own xs) → without own name xs ≡ remove xs i
  without-found name d xs i is distinct = let at = position-Some (is_called own name) xs i d is in without_at name d xs i at.0 at.1 at.2 distinct

  -- the text at a place
  pub text_at : (xs : List X) (i : ℕ) (x : X) → i < length xs → x ≡ get_or xs i x → (own x).text ≡ get_or (texts own xs) i (own x).text
  text_at xs i x within is = ap (λ y. (own y).text) is ∙ sym (get_or-map (λ y. (own y).text) xs i x (own x).text within)

  pub take_text : (xs : List X) (i : ℕ) (x : X) → i < length xs → x ≡ get_or xs i x → take i (texts own xs) ++ (own x).text ∷ [] ≡ take (i + 1) (texts own xs)
  take_text xs i x within is =
      let below : i < length (texts own xs) = subst (λ n. i < n) (sym (length-map xs (λ y. (own y).text))) within in
      ap (λ k. take i (texts own xs) ++ k ∷ []) (text_at xs i x within is) ∙ sym (take_more (texts own xs) i (own x).text below)

  apart_at : (k : List ℕ) (ks : List (List ℕ)) (i : ℕ) (q : List ℕ) → i < length ks → q ≡ get_or ks i q → AllByRecursion (λ y. bytes_eq k y ≡ false) ks → bytes_eq k q ≡ false
  apart_at k [] i q within is apart = absurd (omega arith)
  apart_at k (y ∷ ks) zero q within is apart = ap (bytes_eq k) is ∙ apart.0
  apart_at k (y ∷ ks) (suc i) q within is apart = apart_at k ks i q (omega arith) is apart.1

  before : (ks : List (List ℕ)) (i : ℕ) (q : List ℕ) → i < length ks → q ≡ get_or ks i q → IsDistinct bytes_eq ks → find (bytes_eq q) (take i ks) ≡ None
  unfolding IsDistinct
  before [] i q within is distinct = absurd (omega arith)
  before (y ∷ ks) zero q within is distinct = refl
  before (y ∷ ks) (suc i) q within is distinct =
      ap (λ b. cond b (Some y) (find (bytes_eq q) (take i ks))) (nat_list_eq_equiv.symm q y ∙ apart_at y ks i q (omega arith) is distinct.0)
      ∙ before ks i q (omega arith) is distinct.1

  -- the text at a place is none of those before it
  pub new_text : (xs : List X) (i : ℕ) (x : X) → i < length xs → x ≡ get_or xs i x → IsDistinct bytes_eq (texts own xs) → position (bytes_eq (own x).text) (take i (texts own xs)) ≡ None
  new_text xs i x within is distinct =
      let below : i < length (texts own xs) = subst (λ n. i < n) (sym (length-map xs (λ y. (own y).text))) within in
      absent (bytes_eq (own x).text) (take i (texts own xs)) (before (texts own xs) i (own x).text below (text_at xs i x within is) distinct)
