-- A walk comes to an end, and takes no more looks than there are selections: what is left of it, with all that can still be
-- entered, becomes less at each look.
use Rattle.std.proofs.Common.{arith, ◌≡◌, ℕ, suc, ◌+◌, ◌*◌, ◌<◌, ◌≤◌, Bool, true, false, cond, ◌&&◌, List, [], ◌∷◌, length, refl}
use Rattle.gql_document_types.specs.declared.fragment.Fragment.{Fragment}
use Rattle.gql_document_types.specs.declared.selection.Selection.{Selection, out-Selection}
use Rattle.gql_document_types.specs.declared.selection.Selection.TheOpen.{Selection-F}
use Rattle.gql_collect.specs.Applies.{applies_if}
use Rattle.gql_collect.specs.Flat.{Shape, when, body}
use Rattle.gql_collect.specs.Kept.{is_kept}
use Rattle.gql_collect.specs.Setting.{Setting}
use Rattle.gql_collect.specs.Sizes.{own, size, sets_size, outer_size, fragments_size}
use Rattle.gql_collect.specs.bridge.Walk.{Walk, looks_at, put_before, number_of, is_followed, mark, marked, gone_into, with_first}
use Rattle.gql_collect.proofs.Numbers.{shape_own, own-shape, when-size}
use Rattle.gql_collect.proofs.Unentered.{unentered, follow_less}

-- the selections that can still be looked at
abbrev pub left_over : Setting → Walk → ℕ
left_over s walk = sets_size walk.left + unentered size s.fragments walk.marks

-- what is left, a list counting for itself too
abbrev pub weight : Setting → Walk → ℕ
weight s walk = length walk.left + 2 * left_over s walk

put-size : (xs : List Selection) (left : List (List Selection)) → sets_size (put_before xs left) ≡ size xs + sets_size left
put-size [] left = omega arith
put-size (x ∷ xs) left = omega arith

put-outer : (xs : List Selection) (left : List (List Selection)) → outer_size (put_before xs left) ≡ length xs + outer_size left
put-outer [] left = omega arith
put-outer (x ∷ xs) left = omega arith

put-length : (xs : List Selection) (left : List (List Selection)) → length (put_before xs left) ≤ 1 + length left
put-length [] left = omega arith
put-length (x ∷ xs) left = omega arith

-- a shape counts for itself
own-some : (k : Shape) → 1 ≤ shape_own k
own-some (Selection-F.Field it) = omega arith
own-some (Selection-F.FragmentSpread it) = omega arith
own-some (Selection-F.InlineFragment it) = omega arith

pub looks-within : (xs : List Selection) → looks_at xs ≤ size xs
looks-within [] = omega arith
looks-within (x ∷ xs) = omega (arith, own-shape x, own-some (out-Selection x))

pub unentered-within : (fragments : List Fragment) (marks : List Bool) → unentered size fragments marks ≤ fragments_size fragments
unentered-within [] marks = omega arith
unentered-within (fragment ∷ fragments) [] = omega arith
unentered-within (fragment ∷ fragments) (true ∷ marks) = omega (arith, unentered-within fragments marks)
unentered-within (fragment ∷ fragments) (false ∷ marks) = omega (arith, unentered-within fragments marks)

module _ (s : Setting) where
  shape_less : (k : Shape) (marks : List Bool)
      → size (gone_into s k marks) + unentered size s.fragments (marked s k marks) + 1 ≤ shape_own k + unentered size s.fragments marks
  shape_less (Selection-F.Field it) marks = omega arith
  shape_less (Selection-F.InlineFragment it) marks =
      omega (arith, when-size (is_kept s.variables it.directives && applies_if s.schema.types s.object it.type_condition) it.selection_set.selections)
  shape_less (Selection-F.FragmentSpread it) marks = by (is_followed s it marks) refl
    where
      by : (b : Bool) → is_followed s it marks ≡ b
          → size (when b (body s it.fragment_name.text)) + unentered size s.fragments (cond b (mark s marks (number_of s it)) marks) + 1
          ≤ 1 + unentered size s.fragments marks
      by true is = omega (arith, follow_less size refl s it marks is)
      by false is = omega arith

  -- a look at the first of a list leaves one less to look at
  pub first_looks : (selections : List Selection) (walk : Walk)
      → looks_at selections + left_over s (with_first s selections walk) ≤ left_over s (record walk { left = selections ∷ walk.left })
  first_looks [] walk = omega arith
  first_looks (first ∷ others) walk =
      let k : Shape = out-Selection first in
      let less : 1 + (sets_size (put_before (gone_into s k walk.marks) (put_before others walk.left)) + unentered size s.fragments (marked s k walk.marks))
      ≤ ((own first + size others) + sets_size walk.left) + unentered size s.fragments walk.marks =
      omega (
        arith,
        put-size (gone_into s k walk.marks) (put_before others walk.left),
        put-size others walk.left,
        shape_less k walk.marks,
        own-shape first,
      ) in
      less

  -- and of the lists themselves at most that one less
  pub first_outer : (selections : List Selection) (walk : Walk)
      → outer_size (selections ∷ walk.left) ≤ looks_at selections + outer_size (with_first s selections walk).left
  first_outer [] walk = omega arith
  first_outer (first ∷ others) walk =
      let k : Shape = out-Selection first in
      let more : suc (length others) + outer_size walk.left ≤ 1 + outer_size (put_before (gone_into s k walk.marks) (put_before others walk.left)) =
      omega (arith, put-outer (gone_into s k walk.marks) (put_before others walk.left), put-outer others walk.left) in
      more

  -- a list that is taken up weighs less
  pub first_less : (selections : List Selection) (walk : Walk)
      → weight s (with_first s selections walk) < weight s (record walk { left = selections ∷ walk.left })
  first_less [] walk = omega arith
  first_less (first ∷ others) walk =
      let k : Shape = out-Selection first in
      let left = put_before (gone_into s k walk.marks) (put_before others walk.left) in
      let longer : length left ≤ 2 + length walk.left =
      omega (arith, put-length (gone_into s k walk.marks) (put_before others walk.left), put-length others walk.left) in
      let less : length left + 2 * (sets_size left + unentered size s.fragments (marked s k walk.marks))
      < suc (length walk.left) + 2 * (((own first + size others) + sets_size walk.left) + unentered size s.fragments walk.marks) =
      omega (arith, longer, first_looks (first ∷ others) walk) in
      less
