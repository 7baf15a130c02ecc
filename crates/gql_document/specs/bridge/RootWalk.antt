-- A walk on its way through the selections at the root of a subscription.
use Rattle.std.specs.Prelude.{List, [], ◌∷◌, ◌++◌, map, reverse, if◌then◌else◌}
use Rattle.std.specs.Borrow.{Bor}
use Rattle.gql_ast_base.specs.Names.{Named}
use Rattle.gql_ast.specs.declared.operation.FragmentDefinition.{FragmentDefinition}
use Rattle.gql_ast.specs.declared.selection.FragmentSpread.{FragmentSpread}
use Rattle.gql_ast.specs.declared.selection.Selection.{Selection, out-Selection}
use Rattle.gql_schema_types.specs.declared.schema.Schema.{Schema}
use Rattle.gql_document.specs.RootSelections.{body, inside_step, entered_step, is_entered}

-- the fragments that are entered, the lists that are left, and the selections so far
pub record Walk : Type 0 where
  pub entered : List Named
  pub left : List (List Selection)
  pub roots : List Selection

abbrev pub selections_of : List (Bor Selection) → List Selection
selections_of roots = map (λ (root : Bor Selection). root.now) roots

-- lists that are laid aside, the last one first
abbrev pub lists_of : List (Bor (List Selection)) → List (List Selection)
lists_of pending = map (λ (selections : Bor (List Selection)). selections.now) (reverse pending)

abbrev pub walk_of : List Named → List (Bor (List Selection)) → List (Bor Selection) → Walk
walk_of entered pending roots = record { entered = entered; left = lists_of pending; roots = selections_of roots }

abbrev pub inside_spread : Schema → List FragmentDefinition → List Named → FragmentSpread → List Selection
inside_spread schema fragments entered spread = if is_entered entered spread.fragment_name then [] else body schema fragments spread.fragment_name

abbrev pub entered_spread : List Named → FragmentSpread → List Named
entered_spread entered spread = if is_entered entered spread.fragment_name then entered else entered ++ spread.fragment_name ∷ []

abbrev pub inside : Schema → List FragmentDefinition → List Named → Selection → List Selection
inside schema fragments entered selection = inside_step schema fragments entered (out-Selection selection)

abbrev pub entered_behind : List Named → Selection → List Named
entered_behind entered selection = entered_step entered (out-Selection selection)

abbrev pub with_selection : Schema → List FragmentDefinition → Selection → List Selection → Walk → Walk
with_selection schema fragments first others walk = record {
  entered = entered_behind walk.entered first;
  left = inside schema fragments walk.entered first ∷ others ∷ walk.left;
  roots = walk.roots ++ first ∷ [];
}

abbrev pub with_first : Schema → List FragmentDefinition → List Selection → Walk → Walk
with_first schema fragments [] walk = walk
with_first schema fragments (first ∷ others) walk = with_selection schema fragments first others walk
