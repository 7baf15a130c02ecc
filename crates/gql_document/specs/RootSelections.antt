-- The selections at the root of an operation, inside its fragments too, each fragment at its first spread, directives aside. A
-- fragment is entered wherever its condition is a type that is defined; section 6.3.2 of GraphQL October 2021 enters those alone
-- that apply to the root type.
use Rattle.std.specs.Prelude.{ℕ, zero, suc, ◌+◌, Bool, List, [], ◌∷◌, ◌++◌, map, is_some, if◌then◌else◌}
use Rattle.std.specs.Option.{option_map_or}
use Rattle.gql_ast_base.specs.Names.{Named}
use Rattle.gql_ast.specs.declared.operation.FragmentDefinition.{FragmentDefinition}
use Rattle.gql_ast.specs.declared.selection.Field.{Field}
use Rattle.gql_ast.specs.declared.selection.InlineFragment.{InlineFragment}
use Rattle.gql_ast.specs.declared.selection.Selection.{Selection, out-Selection, fold-Selection}
use Rattle.gql_ast.specs.declared.selection.Selection.TheOpen.{Selection-F, Field-F, InlineFragment-F}
use Rattle.gql_schema_types.specs.Entries.{entry}
use Rattle.gql_schema_types.specs.declared.schema.Schema.{Schema}
use Rattle.gql_document.specs.FragmentNameCollision.{fragment_name}
use Rattle.gql_document.specs.Nodes.{is_defined, is_open}
use Rattle.gql_document.specs.OperationNameCollision.{itself}

abbrev pub is_entered : List Named → Named → Bool
is_entered entered name = is_some (entry itself name.text entered)

-- how many selections a walk through inline fragments meets at one
abbrev pub own_selection : Selection-F ℕ ℕ ℕ → ℕ
own_selection (Selection-F.Field n) = 1
own_selection (Selection-F.FragmentSpread _) = 1
own_selection (Selection-F.InlineFragment n) = n

abbrev pub added : List ℕ → ℕ
added [] = 0
added (n ∷ ns) = n + added ns

abbrev pub own : Selection → ℕ
own = fold-Selection ℕ ℕ ℕ own_selection (λ (field : Field-F ℕ ℕ ℕ). 1) (λ (it : InlineFragment-F ℕ ℕ ℕ). 1 + added it.selection_set)

abbrev pub total : List Selection → ℕ
total selections = added (map own selections)

abbrev pub total_inside : List FragmentDefinition → ℕ
total_inside fragments = added (map (λ (fragment : FragmentDefinition). total fragment.selection_set) fragments)

-- the fragments that are entered behind a selection
abbrev pub entered_step : List Named → Selection-F Selection Field InlineFragment → List Named
entered_step entered (Selection-F.Field _) = entered
entered_step entered (Selection-F.FragmentSpread it) = if is_entered entered it.fragment_name then entered else entered ++ it.fragment_name ∷ []
entered_step entered (Selection-F.InlineFragment _) = entered

module _ (schema : Schema) (fragments : List FragmentDefinition) where
  -- what is inside the fragment of a name, where there is one and its condition is defined
  abbrev pub body_of : FragmentDefinition → List Selection
  body_of it = if is_defined schema it.type_condition then it.selection_set else []

  abbrev pub body : Named → List Selection
  body name = option_map_or body_of (entry fragment_name name.text fragments) []

  -- what is inside a selection, where some fragments are entered already
  abbrev pub inside_step : List Named → Selection-F Selection Field InlineFragment → List Selection
  inside_step entered (Selection-F.Field _) = []
  inside_step entered (Selection-F.FragmentSpread it) = if is_entered entered it.fragment_name then [] else body it.fragment_name
  inside_step entered (Selection-F.InlineFragment it) = if is_open schema it.type_condition then it.selection_set else []

  -- the first n selections at the root, where some fragments are entered already
  abbrev pub first_roots : ℕ → List Named → List Selection → List Selection
  first_roots zero entered selections = []
  first_roots (suc n) entered [] = []
  first_roots (suc n) entered (selection ∷ others) =
      selection ∷ first_roots n (entered_step entered (out-Selection selection)) (inside_step entered (out-Selection selection) ++ others)

  -- all of them: each selection is met at most once
  abbrev pub root_selections : List Selection → List Selection
  root_selections selections = first_roots (total selections + total_inside fragments) [] selections
