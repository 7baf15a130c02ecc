-- What an operation asks of its root type itself: without the fields named `__typename`, `__schema` and `__type` in its outermost
-- set, sections 4.1 and 4.2 of GraphQL October 2021.
use Rattle.std.specs.Prelude.{ℕ, zero, suc, Bool, not, List, [], ◌∷◌}
use Rattle.std.specs.List.{flat_map}
use Rattle.gql_document_types.specs.declared.operation.Operation.{Operation}
use Rattle.gql_document_types.specs.declared.selection.InlineFragment.{InlineFragment}
use Rattle.gql_document_types.specs.declared.selection.Selection.{Selection, out-Selection}
use Rattle.gql_document_types.specs.declared.selection.Selection.TheOpen.{Selection-F}
use Rattle.gql_document_types.specs.declared.selection.Selection.TheVariants as selection
use Rattle.gql_collect.specs.Flat.{Shape, when}
use Rattle.gql_collect.specs.Sizes.{size}
use Rattle.gql_exec.specs.Restricted.{is_meta_name}

-- an inline fragment with these selections, if there are any
abbrev pub filled : InlineFragment → List Selection → List Selection
filled it [] = []
filled it (x ∷ xs) = selection.InlineFragment (record it { selection_set = record it.selection_set { selections = x ∷ xs } }) ∷ []

-- what is left of one selection, by what is left inside it
abbrev pub concrete_at : (List Selection → List Selection) → Shape → List Selection
concrete_at inside (Selection-F.Field it) = when (not (is_meta_name it.name.text)) (selection.Field it ∷ [])
concrete_at inside (Selection-F.FragmentSpread it) = selection.FragmentSpread it ∷ []
concrete_at inside (Selection-F.InlineFragment it) = filled it (inside it.selection_set.selections)

-- with fewer than n inline fragments inside one another
abbrev pub concrete_within : ℕ → List Selection → List Selection
concrete_within zero selections = []
concrete_within (suc n) selections = flat_map (λ x. concrete_at (concrete_within n) (out-Selection x)) selections

-- no more are inside one another than there are selections
unfoldable pub concrete : List Selection → List Selection
concrete selections = concrete_within (suc (size selections)) selections

abbrev pub concrete_operation : Operation → Operation
concrete_operation operation = record operation { selection_set = record operation.selection_set { selections = concrete operation.selection_set.selections } }
