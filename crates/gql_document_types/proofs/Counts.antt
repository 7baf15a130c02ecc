-- Counts of expanded selections, one selection at a time.
use Rattle.std.proofs.Common.{arith, ◌≡◌, ℕ, zero, suc, ◌+◌, ◌<◌, ◌≤◌, List, [], ◌∷◌, ◌++◌, drop, length, get_or, Option, Some, None, position, slice_get, refl, sym, ap, ◌∙◌, add-one}
use Rattle.std.specs.Option.{option_map_or}
use Rattle.std.proofs.Math.Seq.{drop-cons}
use Rattle.gql_document_types.specs.RootFields.{fragment_name}
use Rattle.gql_document_types.specs.declared.fragment.Fragment.{Fragment}
use Rattle.gql_document_types.specs.declared.selection.Field.{Field}
use Rattle.gql_document_types.specs.declared.selection.FragmentSpread.{FragmentSpread}
use Rattle.gql_document_types.specs.declared.selection.InlineFragment.{InlineFragment}
use Rattle.gql_document_types.specs.declared.selection.Selection.{Selection}
use Rattle.gql_document_types.specs.declared.selection.Selection.TheVariants as selection
use Rattle.gql_schema_types.specs.Entries.{is_called}
use Rattle.gql_schema_types.proofs.Lookups.{found, missing}
use Rattle.gql_document_types.specs.Contents.{HaveContents}
use Rattle.gql_document_types.specs.Count.{count}
use Rattle.gql_document_types.specs.bridge.Counted.{one_count, spread_count, count_at}
use Rattle.gql_document_types.specs.Expanded.{in_place, contents, expanded}
use Rattle.gql_document_types.specs.bridge.Expanded.{expanded_one, expanded_field, expanded_inline, expanded_spread}
use Rattle.gql_document_types.proofs.Views.{expand-field, expand-spread, expand-inline, count-inline}

count-append : (xs ys : List Selection) → count (xs ++ ys) ≡ count xs + count ys
count-append [] ys = omega arith
count-append (x ∷ xs) ys = omega (arith, count-append xs ys)

pub drop-item : {A : Type 0} (xs : List A) (i : ℕ) (x : A) → i < length xs → x ≡ get_or xs i x → drop i xs ≡ x ∷ drop (i + 1) xs
drop-item xs i x within is = rw (add-one i) (drop-cons xs i x within ∙ ap (λ y. y ∷ drop (suc i) xs) (sym is))

-- an entry below the length
pub entry-there : {A : Type 0} (xs : List A) (i : ℕ) → i < length xs → (x : A) × (slice_get xs i ≡ Some x)
entry-there [] i h = absurd (omega (arith, h))
entry-there (x ∷ xs) zero h = (x, refl)
entry-there (x ∷ xs) (suc i) h = entry-there xs i (omega (arith, h))

module _ (all : List Fragment) where
  -- ---- what stands in the place of a selection

  pub one-field : (f : Field) → expanded_one all (selection.Field f) ≡ selection.Field (expanded_field all f) ∷ []
  one-field f = expand-field all (contents all) f

  pub one-spread : (s : FragmentSpread) → expanded_one all (selection.FragmentSpread s) ≡ expanded_spread all s
  one-spread s = expand-spread all (contents all) s

  pub one-inline : (i : InlineFragment) → expanded_one all (selection.InlineFragment i) ≡ selection.InlineFragment (expanded_inline all i) ∷ []
  one-inline i = expand-inline all (contents all) i

  abbrev placed : FragmentSpread → Option Fragment → List Selection
  placed s o = option_map_or (λ (it : Fragment). selection.InlineFragment (in_place s it (contents all it)) ∷ []) o []

  pub spread-undefined : (s : FragmentSpread) → position (is_called fragment_name s.fragment_name.text) all ≡ None → expanded_spread all s ≡ []
  spread-undefined s is = ap (placed s) (missing (is_called fragment_name s.fragment_name.text) all is)

  pub spread-defined : (s : FragmentSpread) (number : ℕ) (it : Fragment) → position (is_called fragment_name s.fragment_name.text) all ≡ Some number
      → slice_get all number ≡ Some it → expanded_spread all s ≡ selection.InlineFragment (in_place s it (contents all it)) ∷ []
  spread-defined s number it is there = ap (placed s) (found (is_called fragment_name s.fragment_name.text) all number is ∙ there)

  -- ---- how many that are

  pub count-undefined : (s : FragmentSpread) → position (is_called fragment_name s.fragment_name.text) all ≡ None → spread_count all s ≡ 0
  count-undefined s is = ap count (spread-undefined s is)

  pub count-defined : (s : FragmentSpread) (number : ℕ) → position (is_called fragment_name s.fragment_name.text) all ≡ Some number → number < length all
      → spread_count all s ≡ 1 + count_at all number
  count-defined s number is within =
      let there = entry-there all number within in
      omega (
        arith,
        ap count (spread-defined s number there.0 is there.1),
        count-inline (in_place s there.0 (contents all there.0)),
        ap (λ o. option_map_or (λ (fragment : Fragment). count (contents all fragment)) o 0) there.1,
      )

  pub count-inside : HaveContents all → (number : ℕ) (it : Fragment) → slice_get all number ≡ Some it
      → count_at all number ≡ count (expanded all it.selection_set.selections)
  count-inside have number it there =
      ap (λ o. option_map_or (λ (fragment : Fragment). count (contents all fragment)) o 0) there ∙ ap count (have number it there)

  pub count-more : (s : Selection) (ss : List Selection) → count (expanded all (s ∷ ss)) ≡ one_count all s + count (expanded all ss)
  count-more s ss = count-append (expanded_one all s) (expanded all ss)

  pub count-item : (items : List Selection) (i : ℕ) (s : Selection) → i < length items → s ≡ get_or items i s
      → count (expanded all (drop i items)) ≡ one_count all s + count (expanded all (drop (i + 1) items))
  count-item items i s within is = ap (λ l. count (expanded all l)) (drop-item items i s within is) ∙ count-more s (drop (i + 1) items)

  pub count-drop : (items : List Selection) (i : ℕ) → count (expanded all (drop i items)) ≤ count (expanded all items)
  count-drop [] zero = omega arith
  count-drop [] (suc i) = omega arith
  count-drop (s ∷ ss) zero = omega arith
  count-drop (s ∷ ss) (suc i) = omega (arith, count-drop ss i, count-more s ss)

  pub item-less : (whole items : List Selection) (i : ℕ) (s : Selection) → items ≡ whole → i < length items → s ≡ get_or items i s
      → one_count all s ≤ count (expanded all whole)
  item-less whole items i s same within is =
      omega (arith, ap (λ l. count (expanded all l)) same, count-drop items i, count-item items i s within is)
