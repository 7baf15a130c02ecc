-- What looking at a spread leaves.
use Rattle.std.proofs.Common.{◌≡◌, ℕ, Bool, true, ◌&&◌, cond, List, Option, Some, None, refl, sym, ap, ◌∙◌, subst}
use Rattle.gql_document_types.specs.declared.selection.FragmentSpread.{FragmentSpread}
use Rattle.gql_document_types.specs.declared.selection.Selection.{Selection}
use Rattle.gql_collect.specs.Flat.{when, body}
use Rattle.gql_collect.specs.Kept.{is_kept}
use Rattle.gql_collect.specs.Setting.{Setting}
use Rattle.gql_collect.specs.bridge.Walk.{put_before, number_of, is_new, mark, IsEntered, IsFollowed}
use Rattle.gql_collect.proofs.Numbers.{body-is}

module _ (s : Setting) (it : FragmentSpread) (marks : List Bool) (left : List (List Selection)) where
  abbrev Leaves : Bool → Option ℕ → List Bool → List (List Selection) → Type 0
  Leaves kept n marks' left' =
      (marks' ≡ cond (kept && is_new s marks n) (mark s marks n) marks) × (left' ≡ put_before (when (kept && is_new s marks n) (body s it.fragment_name.text)) left)

  at_spread : (kept : Bool) (n : Option ℕ) (marks' : List Bool) (left' : List (List Selection)) → is_kept s.variables it.directives ≡ kept → number_of s it ≡ n
      → Leaves kept n marks' left' → IsFollowed s it marks left marks' left'
  at_spread kept n marks' left' is at leaves =
      subst (λ b. Leaves b (number_of s it) marks' left') (sym is) (subst (λ m. Leaves kept m marks' left') (sym at) leaves)

  pub follow-entered : (f : ℕ) (marks' : List Bool) (left' : List (List Selection)) → is_kept s.variables it.directives ≡ true → number_of s it ≡ Some f
      → IsEntered s f marks left marks' left' → IsFollowed s it marks left marks' left'
  follow-entered f marks' left' is at entered =
      at_spread true (Some f) marks' left' is at
      (entered.0, entered.1 ∙ ap (λ l. put_before (when (is_new s marks (Some f)) l) left) (sym (body-is s it.fragment_name.text f at)))

  pub follow-undefined : is_kept s.variables it.directives ≡ true → number_of s it ≡ None → IsFollowed s it marks left marks left
  follow-undefined is at = at_spread true None marks left is at (refl, refl)
