-- Fragments that can still be entered, and what is counted in them.
use Rattle.std.proofs.Common.{arith, ◌≡◌, ℕ, zero, suc, ◌+◌, ◌≤◌, Bool, true, false, cond, not, ◌&&◌, List, [], ◌∷◌, set, Option, Some, None, slice_get, refl, ap}
use Rattle.std.specs.Option.{unwrap_or}
use Rattle.gql_document_types.specs.declared.fragment.Fragment.{Fragment}
use Rattle.gql_document_types.specs.declared.selection.FragmentSpread.{FragmentSpread}
use Rattle.gql_document_types.specs.declared.selection.Selection.{Selection}
use Rattle.gql_collect.specs.Applies.{applies}
use Rattle.gql_collect.specs.Flat.{when, contents, body}
use Rattle.gql_collect.specs.Kept.{is_kept}
use Rattle.gql_collect.specs.Setting.{Setting}
use Rattle.gql_collect.specs.bridge.Walk.{number_of, is_new, is_followed, mark}
use Rattle.gql_collect.proofs.Numbers.{body-is}

pub new-mark : (s : Setting) (marks : List Bool) (f : ℕ) → is_new s marks (Some f) ≡ true → slice_get marks f ≡ Some false
new-mark s marks f new = by (slice_get marks f) refl new
  where
    by : (o : Option Bool) → slice_get marks f ≡ o → not (unwrap_or o true) ≡ true → slice_get marks f ≡ Some false
    by None is left = absurd cc
    by (Some true) is left = absurd cc
    by (Some false) is left = is

module _ (count : List Selection → ℕ) where
  -- what is counted in the fragments that were not entered
  abbrev pub unentered : List Fragment → List Bool → ℕ
  unentered [] marks = 0
  unentered (fragment ∷ fragments) [] = 0
  unentered (fragment ∷ fragments) (b ∷ marks) = cond b 0 (count fragment.selection_set.selections) + unentered fragments marks

  abbrev inside : Option Fragment → ℕ
  inside None = 0
  inside (Some fragment) = count fragment.selection_set.selections

  -- a fragment that is entered waits no more
  entered_less : (fragments : List Fragment) (marks : List Bool) (f : ℕ) → slice_get marks f ≡ Some false
      → inside (slice_get fragments f) + unentered fragments (set marks f true) ≤ unentered fragments marks
  entered_less [] marks f new = omega arith
  entered_less (fragment ∷ fragments) [] f new = absurd cc
  entered_less (fragment ∷ fragments) (b ∷ marks) zero new =
      let off : b ≡ false = cc in
      omega (arith, ap (λ (c : Bool). cond c 0 (count fragment.selection_set.selections)) off)
  entered_less (fragment ∷ fragments) (b ∷ marks) (suc f) new = omega (arith, entered_less fragments marks f new)

  module _ (none : count [] ≡ 0) where
    pub when-count : (b : Bool) (xs : List Selection) → count (when b xs) ≤ count xs
    when-count true xs = omega arith
    when-count false xs = omega (arith, none)

    module _ (s : Setting) where
      contents-inside : (o : Option Fragment) → count (contents s o) ≤ inside o
      contents-inside None = omega (arith, none)
      contents-inside (Some fragment) = when-count (applies s.schema.types s.object fragment.selection_set.ty.text) fragment.selection_set.selections

      pub follow_less : (it : FragmentSpread) (marks : List Bool) → is_followed s it marks ≡ true
          → count (body s it.fragment_name.text) + unentered s.fragments (mark s marks (number_of s it)) ≤ unentered s.fragments marks
      follow_less it marks followed = by (number_of s it) refl (second (is_kept s.variables it.directives) (is_new s marks (number_of s it)) followed)
        where
          second : (a b : Bool) → (a && b) ≡ true → b ≡ true
          second true b e = e
          second false b e = absurd cc

          by : (n : Option ℕ) → number_of s it ≡ n → is_new s marks n ≡ true → count (body s it.fragment_name.text) + unentered s.fragments (mark s marks n) ≤ unentered s.fragments marks
          by None is new = absurd cc
          by (Some f) is new =
              omega (
                arith,
                ap count (body-is s it.fragment_name.text f is),
                contents-inside (slice_get s.fragments f),
                entered_less s.fragments marks f (new-mark s marks f new),
              )
