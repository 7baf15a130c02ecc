-- What only private clauses and proofs cite, beside `Sum`.
use Rattle.std.specs.Prelude.{ℕ, List, map}
use Rattle.gql_document_types.specs.declared.selection.Field.{Field}
use Rattle.gql_document_types.specs.declared.selection.Selection.{Selection}
use Rattle.gql_collect.specs.Sizes.{added}
use Rattle.gql_cost.specs.Size.{size}
use Rattle.gql_cost.specs.Sum.{sum_with}

module _ (items : ℕ) where
  module _ (of : List ℕ → ℕ) where
    -- a field with what is selected below it
    abbrev pub field_sum : Field → ℕ
    field_sum field = size items field.definition.ty (sum_with items of field.selection_set.selections)

    -- several sets
    abbrev pub sets_sum : List (List Selection) → ℕ
    sets_sum sets = added (map (sum_with items of) sets)
