-- Selections, one variant after the other.
use Rattle.std.proofs.Common.{rules, ◌≡◌, sym, subst}
use Rattle.gql_ast.specs.declared.selection.Field.{Field}
use Rattle.gql_ast.specs.declared.selection.FragmentSpread.{FragmentSpread}
use Rattle.gql_ast.specs.declared.selection.InlineFragment.{InlineFragment}
use Rattle.gql_ast.specs.declared.selection.Selection.{Selection, the_lemmas, out-Selection, roll-Selection}
use Rattle.gql_ast.specs.declared.selection.Selection.TheVariants as selection
use Rattle.gql_ast.specs.declared.selection.Selection.TheOpen.{Selection-F}

pub out-field : (f : Field) → out-Selection (selection.Field f) ≡ Selection-F.Field f
out-field f = search (rules, the_lemmas)

pub out-spread : (s : FragmentSpread) → out-Selection (selection.FragmentSpread s) ≡ Selection-F.FragmentSpread s
out-spread s = search (rules, the_lemmas)

pub out-inline : (i : InlineFragment) → out-Selection (selection.InlineFragment i) ≡ Selection-F.InlineFragment i
out-inline i = search (rules, the_lemmas)

roll-out : (s : Selection) → roll-Selection (out-Selection s) ≡ s
roll-out s = search (rules, the_lemmas)

roll-field : (f : Field) → roll-Selection (Selection-F.Field f) ≡ selection.Field f
roll-field f = search (rules, the_lemmas)

roll-spread : (s : FragmentSpread) → roll-Selection (Selection-F.FragmentSpread s) ≡ selection.FragmentSpread s
roll-spread s = search (rules, the_lemmas)

roll-inline : (i : InlineFragment) → roll-Selection (Selection-F.InlineFragment i) ≡ selection.InlineFragment i
roll-inline i = search (rules, the_lemmas)

-- what holds of each variant holds of all
pub each : (P : Selection → Type 0) → ((f : Field) → P (selection.Field f)) → ((s : FragmentSpread) → P (selection.FragmentSpread s))
    → ((i : InlineFragment) → P (selection.InlineFragment i)) → (s : Selection) → P s
each P field spread inline s = subst P (roll-out s) (rolled (out-Selection s))
  where
    rolled : (k : Selection-F Selection Field InlineFragment) → P (roll-Selection k)
    rolled (Selection-F.Field f) = subst P (sym (roll-field f)) (field f)
    rolled (Selection-F.FragmentSpread s) = subst P (sym (roll-spread s)) (spread s)
    rolled (Selection-F.InlineFragment i) = subst P (sym (roll-inline i)) (inline i)
