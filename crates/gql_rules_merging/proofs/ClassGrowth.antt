-- Classes that are found stay when further fields get theirs.
use Rattle.std.proofs.Common.{◌≡◌, ◌≢◌, ◌⊎◌, inl, inr, ℕ, zero, suc, ◌-◌, ◌<◌, Bool, true, false, ◌&&◌, ◌||◌, ◌==◌, Option, Some, None, List, [], ◌∷◌, ◌++◌, length, refl, sym, ap, ◌∙◌, arith, length-append}
use Rattle.std.specs.List.{slice_get}
use Rattle.std.specs.Option.{option_map_or, unwrap_or}
use Rattle.std.specs.Prelude.{nat_le, nat_lt}
use Rattle.std.proofs.lemmas.Bool.{eqb-true, eq-eqb, ltb-true, lt-ltb}
use Rattle.std.proofs.lemmas.Option.{slice_get_within}
use Rattle.gql_graph.proofs.Flooded.{same_or_not}
use Rattle.gql_graph.specs.bridge.Explored.{class_of}
use Rattle.gql_rules_merging.proofs.Truths.{both_true, either_true}
use Rattle.gql_rules_merging.specs.bridge.Classes.{same_head, has_class, same_item, same_items, is_like, is_like_at}
use Rattle.gql_rules_merging.specs.bridge.ClassSteps.{IsClassFor}
use Rattle.gql_rules_merging.specs.Numbering.{Selected}

pub got_before : {A : Type 0} (xs ys : List A) (i : ℕ) → i < length xs → slice_get (xs ++ ys) i ≡ slice_get xs i
got_before [] ys i within = absurd (omega (arith, within))
got_before (x ∷ xs) ys zero within = refl
got_before (x ∷ xs) ys (suc i) within = got_before xs ys i (omega (arith, within))

pub got_last : {A : Type 0} (xs : List A) (x : A) → slice_get (xs ++ x ∷ []) (length xs) ≡ Some x
got_last [] x = refl
got_last (y ∷ xs) x = got_last xs x

module _ (base : ℕ) (classes more : List ℕ) where
  class_stays : (k : ℕ) → k < length classes → class_of (classes ++ more) k ≡ class_of classes k
  class_stays k within = ap (λ o. unwrap_or o k) (got_before classes more k within)

  has_on : (i : ℕ) → has_class base classes i ≡ true → has_class base (classes ++ more) i ≡ true
  has_on i is =
      let parts = both_true (nat_le base i) (nat_lt (i - base) (length classes)) is in
      let within : i - base < length (classes ++ more) = omega (arith, ltb-true (i - base) (length classes) parts.1, length-append classes more) in
      ap (λ t. t && nat_lt (i - base) (length (classes ++ more))) parts.0 ∙ lt-ltb (i - base) (length (classes ++ more)) within

  item_on : (i j : ℕ) → same_item base classes i j ≡ true → same_item base (classes ++ more) i j ≡ true
  item_on i j is = by_either (either_true (i == j) ((has_class base classes i && has_class base classes j) && (class_of classes (i - base) == class_of classes (j - base))) is)
    where
      later : Bool
      later = (has_class base (classes ++ more) i && has_class base (classes ++ more) j) && (class_of (classes ++ more) (i - base) == class_of (classes ++ more) (j - base))

      or_late : (t : Bool) → later ≡ true → (t || later) ≡ true
      or_late true is = refl
      or_late false is = is

      by_either : ((i == j) ≡ true) ⊎ (((has_class base classes i && has_class base classes j) && (class_of classes (i - base) == class_of classes (j - base))) ≡ true)
          → ((i == j) || later) ≡ true
      by_either (inl e) = ap (λ t. t || later) e
      by_either (inr t) =
          let both = both_true (has_class base classes i && has_class base classes j) (class_of classes (i - base) == class_of classes (j - base)) t in
          let has = both_true (has_class base classes i) (has_class base classes j) both.0 in
          let at_i = ltb-true (i - base) (length classes) (both_true (nat_le base i) (nat_lt (i - base) (length classes)) has.0).1 in
          let at_j = ltb-true (j - base) (length classes) (both_true (nat_le base j) (nat_lt (j - base) (length classes)) has.1).1 in
          let one : class_of (classes ++ more) (i - base) ≡ class_of (classes ++ more) (j - base) =
          class_stays (i - base) at_i ∙ eqb-true (class_of classes (i - base)) (class_of classes (j - base)) both.1 ∙ sym (class_stays (j - base) at_j) in
          or_late (i == j)
          (ap (λ t. (t && has_class base (classes ++ more) j) && (class_of (classes ++ more) (i - base) == class_of (classes ++ more) (j - base))) (has_on i has.0)
          ∙ ap (λ t. t && (class_of (classes ++ more) (i - base) == class_of (classes ++ more) (j - base))) (has_on j has.1)
          ∙ eq-eqb (class_of (classes ++ more) (i - base)) (class_of (classes ++ more) (j - base)) one)

  items_on : (is js : List ℕ) → same_items base classes is js ≡ true → same_items base (classes ++ more) is js ≡ true
  items_on [] [] all = refl
  items_on [] (j ∷ js) all = absurd cc
  items_on (i ∷ is) [] all = absurd cc
  items_on (i ∷ is) (j ∷ js) all =
      let parts = both_true (same_item base classes i j) (same_items base classes is js) all in
      ap (λ t. t && same_items base (classes ++ more) is js) (item_on i j parts.0) ∙ items_on is js parts.1

  like_on : (fields : List Selected) (x : Selected) (r : ℕ) → is_like_at base classes fields x r ≡ true → is_like_at base (classes ++ more) fields x r ≡ true
  like_on fields x r is = by_found (slice_get fields r) is
    where
      by_found : (o : Option Selected) → option_map_or (is_like base classes x) o false ≡ true → option_map_or (is_like base (classes ++ more) x) o false ≡ true
      by_found None is = absurd cc
      by_found (Some y) is =
          let parts = both_true (same_head x y) (same_items base classes x.items y.items) is in
          ap (λ t. t && same_items base (classes ++ more) x.items y.items) parts.0 ∙ items_on x.items y.items parts.1

-- the fields so far have their classes
abbrev pub AreLike : ℕ → List Selected → List ℕ → Type 0
AreLike base fields classes = (a r : ℕ) (field : Selected) → slice_get classes a ≡ Some r → slice_get fields a ≡ Some field → (a == r) ≡ false
    → is_like_at base classes fields field r ≡ true

pub next_like : (base : ℕ) (fields : List Selected) (classes : List ℕ) (x : Selected) (class : ℕ) → AreLike base fields classes → slice_get fields (length classes) ≡ Some x
    → IsClassFor base classes fields x class → AreLike base fields (classes ++ class ∷ [])
next_like base fields classes x class before here is a r field in_classes at apart = by_place (same_or_not a (length classes))
  where
    by_class : IsClassFor base classes fields x class → a ≡ length classes → class ≡ r → field ≡ x → is_like_at base (classes ++ class ∷ []) fields field r ≡ true
    by_class (inl own) e f g = absurd (let h : true ≡ false = sym (eq-eqb a r (e ∙ sym own ∙ f)) ∙ apart in cc)
    by_class (inr like) e f g =
        ap (λ y. is_like_at base (classes ++ class ∷ []) fields y r) g ∙ ap (is_like_at base (classes ++ class ∷ []) fields x) (sym f) ∙ like_on base classes (class ∷ []) fields x class like

    by_place : (a ≡ length classes) ⊎ (a ≢ length classes) → is_like_at base (classes ++ class ∷ []) fields field r ≡ true
    by_place (inl e) =
        by_class is e
        (let h : Some class ≡ Some r = sym (ap (slice_get (classes ++ class ∷ [])) e ∙ got_last classes class) ∙ in_classes in cc)
        (let h : Some field ≡ Some x = sym at ∙ ap (slice_get fields) e ∙ here in cc)
    by_place (inr other) =
        let within : a < length classes = omega (arith, other, slice_get_within (classes ++ class ∷ []) a r in_classes, length-append classes (class ∷ [])) in
        like_on base classes (class ∷ []) fields field r (before a r field (sym (got_before classes (class ∷ []) a within) ∙ in_classes) at apart)
