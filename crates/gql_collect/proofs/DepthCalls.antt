-- What each function of a depth check owes, over plain values.
use Rattle.std.proofs.Common.{arith, ◌≡◌, ℕ, zero, suc, ◌+◌, ◌*◌, ◌<◌, ◌≤◌, max, List, [], ◌∷◌, set, drop, length, get_or, Option, Some, None, Result, Ok, Err, IsErrAnd, MatchResult, ◌-◌, slice_get, refl, sym, ap, ◌∙◌, subst}
use Rattle.std.proofs.lemmas.Option.{slice_get-get_or}
use Rattle.std.proofs.Math.ListN.{drop_of_length-le}
use Rattle.gql_document_types.specs.declared.fragment.Fragment.{Fragment}
use Rattle.gql_document_types.specs.declared.selection.Field.{Field}
use Rattle.gql_document_types.specs.declared.selection.InlineFragment.{InlineFragment}
use Rattle.gql_document_types.specs.declared.selection.Selection.{Selection}
use Rattle.gql_collect.specs.Check.{total}
use Rattle.gql_collect.specs.bridge.Check.{Memo, accept_all, unentered}
use Rattle.gql_collect.specs.bridge.Checked.{Accepted, Refused, AcceptedOne, RefusedOne}
use Rattle.gql_collect.specs.Nested.{Nested, nothing, Fragments, Place, body_in, body_of}
use Rattle.gql_collect.specs.View.{One, one_field, one_spread, one_inline, then_more, weight_of, one_of, nested, body_nested, fragments_nested}
use Rattle.gql_collect.specs.bridge.View.{field_of, inline_of}
use Rattle.gql_collect.proofs.DepthFacts.{unentered-set}
use Rattle.gql_collect.proofs.DepthSteps.{IsCheckedSoFar, check-one, check-end, check-refused, field-accepted, field-third, field-refused, spread-again, spread-third, spread-accepted, spread-refused, inline-accepted, inline-refused}
use Rattle.gql_collect.proofs.Views.{view-inside, view-node, selections-item, fragment-defined}

total-then : (one : One) (rest : Nested) → total (then_more one rest) ≡ total (then_more one nothing) + total rest
total-then (one_field weight place within) rest = omega arith
total-then (one_spread f place) rest = omega arith
total-then (one_inline body) rest = omega arith

module _ (all : List Fragment) where
  total-drop : (ss : List Selection) (i : ℕ) → total (nested all (drop i ss)) ≤ total (nested all ss)
  total-drop [] zero = omega arith
  total-drop [] (suc i) = omega arith
  total-drop (s ∷ ss) zero = omega arith
  total-drop (s ∷ ss) (suc i) = omega (arith, total-drop ss i, total-then (one_of all s) (nested all ss))

  pub item-less : (ss items : List Selection) (i : ℕ) (s : Selection) (u v : ℕ) → items ≡ ss → i < length items → s ≡ get_or items i s → u ≤ v
      → 4 * (total (then_more (one_of all s) nothing) + u) + 2 < 4 * (total (nested all ss) + v) + 3
  item-less ss items i s u v same within is fewer =
      omega (arith, ap (λ l. total (nested all l)) same, total-drop items i, ap total (selections-item all items i s within is), total-then (one_of all s) (nested all (drop (i + 1) items)), fewer)

  -- the items that are left are those of the whole set, seen as a slice
  module _ (c : ℕ) (ss items : List Selection) (i : ℕ) (m : Memo) (t : ℕ) (d : ℕ) (n : Memo) (u : ℕ)
      (so_far : IsCheckedSoFar (fragments_nested all) c (nested all ss) m t (nested all (drop i items)) d n u) where
    pub set-more : (s : Selection) (e : ℕ) (o : Memo) (v : ℕ) → i < length items → s ≡ get_or items i s → AcceptedOne (fragments_nested all) c (one_of all s) n u e o v
        → IsCheckedSoFar (fragments_nested all) c (nested all ss) m t (nested all (drop (i + 1) items)) (max d e) o v
    set-more s e o v within is found =
        check-one (fragments_nested all) c (nested all ss) m t (one_of all s) (nested all (drop (i + 1) items)) d n u e o v
        (subst (λ l. IsCheckedSoFar (fragments_nested all) c (nested all ss) m t l d n u) (selections-item all items i s within is) so_far) found

    pub set-refused : (s : Selection) (at : Place) (v : ℕ) → i < length items → s ≡ get_or items i s → RefusedOne (fragments_nested all) c (one_of all s) n u at v
        → Refused (fragments_nested all) c (nested all ss) m t at v
    set-refused s at v within is found =
        check-refused (fragments_nested all) c (nested all ss) m t (one_of all s) (nested all (drop (i + 1) items)) d n u at v
        (subst (λ l. IsCheckedSoFar (fragments_nested all) c (nested all ss) m t l d n u) (selections-item all items i s within is) so_far) found

    pub set-all : length items ≤ i → Accepted (fragments_nested all) c (nested all ss) m t d n u
    set-all past =
        check-end (fragments_nested all) c (nested all ss) m t d n u
        (subst (λ l. IsCheckedSoFar (fragments_nested all) c (nested all ss) m t (nested all l) d n u) (drop_of_length-le items past) so_far)

  -- a fragment that was not entered
  module _ (c f : ℕ) (it : Fragment) (m : Memo) (is : slice_get all f ≡ Some it) where
    body-here : body_of (fragments_nested all) f ≡ body_nested all it
    body-here = ap body_in (fragment-defined all f it is)

    pub fragment-less : (sized : length m ≡ length all) (slice : List Selection) → slice ≡ it.selection_set.selections → slice_get m f ≡ Some None
        → 4 * (total (nested all slice) + unentered (fragments_nested all) (set m f (Some 0))) + 3 < 4 * (1 + unentered (fragments_nested all) m)
    fragment-less sized slice same fresh =
        omega (arith, unentered-set (fragments_nested all) m f 0 fresh, ap total body-here, ap (λ l. total (nested all l)) same)

    pub fragment-accepted : (place : Place) (slice : List Selection) (t u d : ℕ) (n : Memo) (v : ℕ) → slice ≡ it.selection_set.selections → slice_get m f ≡ Some None → u ≡ t + 1
        → Accepted (fragments_nested all) c (nested all slice) (set m f (Some 0)) u d n v
        → AcceptedOne (fragments_nested all) c (one_spread f place) m t d (set n f (Some d)) v
    fragment-accepted place slice t u d n v same fresh e found =
        spread-accepted (fragments_nested all) c f place m t (nested all slice) d n v fresh (body-here ∙ ap (nested all) (sym same))
        (subst (λ k. Accepted (fragments_nested all) c (nested all slice) (set m f (Some 0)) k d n v) e found)

    pub fragment-refused : (place : Place) (slice : List Selection) (t u : ℕ) (at : Place) (v : ℕ) → slice ≡ it.selection_set.selections → slice_get m f ≡ Some None → u ≡ t + 1
        → Refused (fragments_nested all) c (nested all slice) (set m f (Some 0)) u at v → RefusedOne (fragments_nested all) c (one_spread f place) m t at v
    fragment-refused place slice t u at v same fresh e found =
        spread-refused (fragments_nested all) c f place m t (nested all slice) at v fresh (body-here ∙ ap (nested all) (sym same))
        (subst (λ k. Refused (fragments_nested all) c (nested all slice) (set m f (Some 0)) k at v) e found)

  -- a field, by what its record holds
  module _ (c : ℕ) (f : Field) (m : Memo) (t u k : ℕ) (e : u ≡ t + 1) (counted : k ≡ weight_of f.name.text) where
    abbrev within : Nested
    within = nested all f.selection_set.selections

    pub field-stops : 3 ≤ c + k → RefusedOne (fragments_nested all) c (field_of all f) m t f.name.location u
    field-stops high =
        subst (λ x. RefusedOne (fragments_nested all) c x m t f.name.location u) (sym (view-node all f))
        (subst (λ v. RefusedOne (fragments_nested all) c (one_field (weight_of f.name.text) f.name.location within) m t f.name.location v) (sym e)
        (field-third (fragments_nested all) c (weight_of f.name.text) f.name.location within m t (omega (arith, high, counted))))

    pub field-goes : (slice : List Selection) (d : ℕ) (n : Memo) (v : ℕ) → slice ≡ f.selection_set.selections → c + k < 3
        → Accepted (fragments_nested all) (c + k) (nested all slice) m u d n v → AcceptedOne (fragments_nested all) c (field_of all f) m t (k + d) n v
    field-goes slice d n v same low found =
        subst (λ x. AcceptedOne (fragments_nested all) c x m t (k + d) n v) (sym (view-node all f))
        (subst (λ j. AcceptedOne (fragments_nested all) c (one_field (weight_of f.name.text) f.name.location within) m t (j + d) n v) (sym counted)
        (field-accepted (fragments_nested all) c (weight_of f.name.text) f.name.location within m t d n v (omega (arith, low, counted))
        (subst (λ j. Accepted (fragments_nested all) (c + j) within m (t + 1) d n v) counted
        (subst (λ l. Accepted (fragments_nested all) (c + k) (nested all l) m (t + 1) d n v) same
        (subst (λ w. Accepted (fragments_nested all) (c + k) (nested all slice) m w d n v) e found)))))

    pub field-fails : (slice : List Selection) (at : Place) (v : ℕ) → slice ≡ f.selection_set.selections → c + k < 3
        → Refused (fragments_nested all) (c + k) (nested all slice) m u at v → RefusedOne (fragments_nested all) c (field_of all f) m t at v
    field-fails slice at v same low found =
        subst (λ x. RefusedOne (fragments_nested all) c x m t at v) (sym (view-node all f))
        (field-refused (fragments_nested all) c (weight_of f.name.text) f.name.location within m t at v (omega (arith, low, counted))
        (subst (λ j. Refused (fragments_nested all) (c + j) within m (t + 1) at v) counted
        (subst (λ l. Refused (fragments_nested all) (c + k) (nested all l) m (t + 1) at v) same
        (subst (λ w. Refused (fragments_nested all) (c + k) (nested all slice) m w at v) e found))))

  module _ (c : ℕ) (i : InlineFragment) (slice : List Selection) (m : Memo) (t u : ℕ) (same : slice ≡ i.selection_set.selections) (e : u ≡ t + 1) where
    pub inline-goes : (d : ℕ) (n : Memo) (v : ℕ) → Accepted (fragments_nested all) c (nested all slice) m u d n v → AcceptedOne (fragments_nested all) c (inline_of all i) m t d n v
    inline-goes d n v found =
        subst (λ o. AcceptedOne (fragments_nested all) c o m t d n v) (sym (view-inside all i))
        (inline-accepted (fragments_nested all) c (nested all i.selection_set.selections) m t d n v
        (subst (λ l. Accepted (fragments_nested all) c (nested all l) m (t + 1) d n v) same (subst (λ w. Accepted (fragments_nested all) c (nested all slice) m w d n v) e found)))

    pub inline-fails : (at : Place) (v : ℕ) → Refused (fragments_nested all) c (nested all slice) m u at v → RefusedOne (fragments_nested all) c (inline_of all i) m t at v
    inline-fails at v found =
        subst (λ o. RefusedOne (fragments_nested all) c o m t at v) (sym (view-inside all i))
        (inline-refused (fragments_nested all) c (nested all i.selection_set.selections) m t at v
        (subst (λ l. Refused (fragments_nested all) c (nested all l) m (t + 1) at v) same (subst (λ w. Refused (fragments_nested all) c (nested all slice) m w at v) e found)))

pub from_err : {T E : Type 0} (r : Result T E) (v : E) (P : T → Type 0) (Q : E → Type 0) → IsErrAnd r (λ e. e ≡ v) → Q v → MatchResult r P Q
from_err (Ok x) v P Q is q = absurd is
from_err (Err e) v P Q is q = subst Q (sym is) q

pub none_from : {A : Type 0} (o : Option A) → ((x : A) → o ≡ Some x → ⊥) → o ≡ None
none_from None never = refl
none_from (Some x) never = absurd (never x refl)

pub memo-is : (m : Memo) (f : ℕ) (o : Option ℕ) → f < length m → get_or m f None ≡ o → slice_get m f ≡ Some o
memo-is m f o within is = slice_get-get_or m f None within ∙ ap (λ x. Some x) is

-- a spread of a fragment that is not defined is an empty set
pub undefined-goes : (fragments : Fragments) (c : ℕ) (m : Memo) (t u : ℕ) → c < 3 → u ≡ t + 1 → AcceptedOne fragments c (one_inline nothing) m t 0 m u
undefined-goes fragments c m t u low e =
    subst (λ k. AcceptedOne fragments c (one_inline nothing) m t 0 m k) (sym e)
    (inline-accepted fragments c nothing m t 0 m (t + 1) (record { taken = 0; looks = omega arith; fewer = omega arith; low = omega (arith, low); accepts = accept_all c m }))

pub again-goes : (fragments : Fragments) (c f : ℕ) (place : Place) (d : ℕ) (m : Memo) (t u : ℕ) → f < length m → get_or m f None ≡ Some d → c < 3 → d < 3 - c → u ≡ t + 1
    → AcceptedOne fragments c (one_spread f place) m t d m u
again-goes fragments c f place d m t u within is low less e =
    subst (λ k. AcceptedOne fragments c (one_spread f place) m t d m k) (sym e) (spread-again fragments c f place d m t (memo-is m f (Some d) within is) (omega (arith, low, less)))

pub again-stops : (fragments : Fragments) (c f : ℕ) (place : Place) (d : ℕ) (m : Memo) (t u : ℕ) → f < length m → get_or m f None ≡ Some d → c < 3 → 3 - c ≤ d → u ≡ t + 1
    → RefusedOne fragments c (one_spread f place) m t place u
again-stops fragments c f place d m t u within is low more e =
    subst (λ k. RefusedOne fragments c (one_spread f place) m t place k) (sym e) (spread-third fragments c f place d m t (memo-is m f (Some d) within is) (omega (arith, low, more)))
