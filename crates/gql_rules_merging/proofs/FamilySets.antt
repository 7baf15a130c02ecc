-- What families select, row by row.
use Rattle.std.proofs.Common.{◌≡◌, ◌≢◌, ◌⊎◌, inl, inr, ℕ, zero, suc, ◌<◌, ◌≤◌, ◌+◌, Option, Some, None, List, [], ◌∷◌, ◌++◌, length, refl, sym, ap, ◌∙◌, subst, arith}
use Rattle.std.specs.List.{Contains, slice_get}
use Rattle.std.specs.Option.{option_map_or, unwrap_or}
use Rattle.std.specs.Prelude.{slice_set}
use Rattle.std.proofs.lemmas.List.{length-set}
use Rattle.std.proofs.lemmas.List.Elements.{Contains-append_left, Contains-append_right}
use Rattle.std.proofs.lemmas.Option.{slice_get_within}
use Rattle.gql_graph.proofs.Flooded.{get-set_other, get-set_same, none_contained, same_or_not}
use Rattle.gql_graph.specs.bridge.Explored.{class_of}
use Rattle.gql_rules_merging.proofs.Pairing.{got_within}
use Rattle.gql_rules_merging.specs.bridge.Families.{AreSelected, IsGathered, row_of, with_items}
use Rattle.gql_rules_merging.specs.FieldSelectionMerging.{items}
use Rattle.gql_rules_merging.specs.bridge.Gathering.{fields_of}
use Rattle.gql_rules_merging.specs.Numbering.{Selected, Numbered}
use Rattle.gql_rules_merging.specs.declared.numbering.Selected.{Selected as Held}

pub with_length : (rows : List (List ℕ)) (n : ℕ) (more : List ℕ) → length (with_items rows n more) ≡ length rows
with_length rows n more = by_row (slice_get rows n)
  where
    by_row : (o : Option (List ℕ)) → length (option_map_or (λ row. slice_set rows n (row ++ more)) o rows) ≡ length rows
    by_row None = refl
    by_row (Some row) = length-set rows n (row ++ more)

-- what is in a row stays there
pub row_kept : (rows : List (List ℕ)) (n : ℕ) (more : List ℕ) (k i : ℕ) → Contains (row_of rows k) i → Contains (row_of (with_items rows n more) k) i
row_kept rows n more k i c = by_row (slice_get rows n) refl
  where
    by_place : (row : List ℕ) → slice_get rows n ≡ Some row → (k ≡ n) ⊎ (k ≢ n) → Contains (row_of (slice_set rows n (row ++ more)) k) i
    by_place row at (inl e) =
        subst (λ o. Contains (unwrap_or o []) i) (sym (ap (slice_get (slice_set rows n (row ++ more))) e ∙ get-set_same rows n row (row ++ more) at))
        (Contains-append_left row more i (subst (λ o. Contains (unwrap_or o []) i) (ap (slice_get rows) e ∙ at) c))
    by_place row at (inr other) = subst (λ o. Contains (unwrap_or o []) i) (sym (get-set_other rows n k (row ++ more) other)) c

    by_row : (o : Option (List ℕ)) → slice_get rows n ≡ o → Contains (row_of (option_map_or (λ row. slice_set rows n (row ++ more)) o rows) k) i
    by_row None at = c
    by_row (Some row) at = by_place row at (same_or_not k n)

-- what is added to a row is there
pub row_has : (rows : List (List ℕ)) (n : ℕ) (more : List ℕ) (i : ℕ) → n < length rows → Contains more i → Contains (row_of (with_items rows n more) n) i
row_has rows n more i within c =
    let row = got_within rows n within in
    subst (λ o. Contains (row_of (option_map_or (λ row. slice_set rows n (row ++ more)) o rows) n) i) (sym row.1)
    (subst (λ o. Contains (unwrap_or o []) i) (sym (get-set_same rows n row.0 (row.0 ++ more) row.1)) (Contains-append_right row.0 more i c))

-- what fields below a number select is in the rows of their families
abbrev pub AreSelectedBelow : ℕ → List Selected → List ℕ → List (List ℕ) → Type 0
AreSelectedBelow next fields families rows = (number item : ℕ) → number < next → Contains (items fields number) item → Contains (row_of rows (class_of families number)) item

pub selected_on : (next : ℕ) (fields : List Selected) (families : List ℕ) (rows : List (List ℕ)) (more : List ℕ) → AreSelectedBelow next fields families rows
    → class_of families next < length rows → items fields next ≡ more → AreSelectedBelow (next + 1) fields families (with_items rows (class_of families next) more)
selected_on next fields families rows more before within is number item low c = by_place (same_or_not number next)
  where
    by_place : (number ≡ next) ⊎ (number ≢ next) → Contains (row_of (with_items rows (class_of families next) more) (class_of families number)) item
    by_place (inl e) =
        subst (λ n. Contains (row_of (with_items rows (class_of families next) more) (class_of families n)) item) (sym e)
        (row_has rows (class_of families next) more item within (subst (λ l. Contains l item) (ap (items fields) e ∙ is) c))
    by_place (inr other) = row_kept rows (class_of families next) more (class_of families number) item (before number item (omega (arith, low, other)) c)

pub selected_all : (next : ℕ) (fields : List Selected) (families : List ℕ) (rows : List (List ℕ)) → AreSelectedBelow next fields families rows → length fields ≤ next
    → AreSelected fields families rows
selected_all next fields families rows before all number item c = by_field (slice_get fields number) refl
  where
    by_field : (o : Option Selected) → slice_get fields number ≡ o → Contains (row_of rows (class_of families number)) item
    by_field None at =
        absurd (none_contained item (subst (λ o. Contains (option_map_or (λ (field : Selected). field.items) o []) item) at c))
    by_field (Some field) at = before number item (omega (arith, all, slice_get_within fields number field at)) c

pub fields_length : (held : List Held) → length (fields_of held) ≡ length held
fields_length [] = refl
fields_length (field ∷ held) = ap suc (fields_length held)

-- ---- rows with others behind them

row_on : (rows others : List (List ℕ)) (k i : ℕ) → Contains (row_of rows k) i → Contains (row_of (rows ++ others) k) i
row_on [] others k i c = absurd (none_contained i c)
row_on (row ∷ rows) others zero i c = c
row_on (row ∷ rows) others (suc k) i c = row_on rows others k i c

pub all_gathered : (document : Numbered) (families : List ℕ) (rows all : List (List ℕ)) → AreSelected document.fields families rows → all ≡ rows ++ document.operations
    → IsGathered document families all
all_gathered document families rows all selected is = subst (IsGathered document families) (sym is) (record {
  selected = λ number item c. row_on rows document.operations (class_of families number) item (selected number item c);
  operations = λ row c. Contains-append_right rows document.operations row c;
})
