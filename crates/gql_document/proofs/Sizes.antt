-- How large selections are, by which what is made of them comes to an end.
use Rattle.std.proofs.Common.{ℕ, ◌+◌, List, [], ◌∷◌, map}
use Rattle.gql_ast.specs.declared.selection.Field.{Field}
use Rattle.gql_ast.specs.declared.selection.InlineFragment.{InlineFragment}
use Rattle.gql_ast.specs.declared.selection.Selection.{Selection, fold-Selection}
use Rattle.gql_ast.specs.declared.selection.Selection.TheVariants as selection
use Rattle.gql_ast.specs.declared.selection.Selection.TheOpen.{Selection-F, Field-F, InlineFragment-F}

abbrev added : List ℕ → ℕ
added [] = 0
added (n ∷ ns) = n + added ns

abbrev selection_step : Selection-F ℕ ℕ ℕ → ℕ
selection_step (Selection-F.Field n) = 4 + n
selection_step (Selection-F.FragmentSpread _) = 1
selection_step (Selection-F.InlineFragment n) = 4 + n

abbrev field_step : Field-F ℕ ℕ ℕ → ℕ
field_step field = added field.selection_set

abbrev inline_step : InlineFragment-F ℕ ℕ ℕ → ℕ
inline_step fragment = added fragment.selection_set

abbrev pub size : Selection → ℕ
size = fold-Selection ℕ ℕ ℕ selection_step field_step inline_step

abbrev pub total : List Selection → ℕ
total selections = added (map size selections)

abbrev pub inside_field : Field → ℕ
inside_field field = total field.selection_set

abbrev pub inside_inline : InlineFragment → ℕ
inside_inline fragment = total fragment.selection_set
