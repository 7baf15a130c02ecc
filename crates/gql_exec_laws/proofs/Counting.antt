-- What is counted in a set.
use Rattle.std.proofs.Common.{arith, ◌≡◌, List, [], ◌∷◌, ◌++◌, None, ap, ◌∙◌}
use Rattle.std.specs.Prelude.{codes}
use Rattle.gql_document_types.specs.declared.selection.Field.{Field}
use Rattle.gql_document_types.specs.declared.selection.FragmentSpread.{FragmentSpread}
use Rattle.gql_document_types.specs.declared.selection.InlineFragment.{InlineFragment}
use Rattle.gql_document_types.specs.declared.selection.Selection.{Selection}
use Rattle.gql_document_types.specs.declared.selection.Selection.TheVariants as selection
use Rattle.gql_collect.specs.Sizes.{size}
use Rattle.gql_collect.specs.Standing.{fields_at, fields_in}
use Rattle.gql_collect.proofs.Numbers.{own-field, own-spread, own-inline}
use Rattle.gql_collect.proofs.Standings.{fields-none, fields-cons}
use Rattle.gql_document_types.proofs.Variants.{out-field, out-spread, out-inline}
use Rattle.gql_schema_types.specs.MetaFields.{named}
use Rattle.gql_exec_laws.specs.Counting.{field_a, field_b, counted}
use Rattle.gql_exec_laws.specs.Doubling.{numbered}

pub in_field : (f : Field) (xs : List Selection) → fields_in (selection.Field f ∷ xs) ≡ f ∷ fields_in xs
in_field f xs = fields-cons (selection.Field f) xs ∙ ap (λ k. fields_at fields_in k ++ fields_in xs) (out-field f)

pub in_spread : (s : FragmentSpread) (xs : List Selection) → fields_in (selection.FragmentSpread s ∷ xs) ≡ fields_in xs
in_spread s xs = fields-cons (selection.FragmentSpread s) xs ∙ ap (λ k. fields_at fields_in k ++ fields_in xs) (out-spread s)

pub in_inline : (i : InlineFragment) (xs : List Selection) → fields_in (selection.InlineFragment i ∷ xs) ≡ fields_in i.selection_set.selections ++ fields_in xs
in_inline i xs = fields-cons (selection.InlineFragment i) xs ∙ ap (λ k. fields_at fields_in k ++ fields_in xs) (out-inline i)

abbrev inside : InlineFragment
inside = record {
  type_condition = None;
  directives = [];
  selection_set = record { ty = named (codes "Query"); selections = selection.Field field_b ∷ [] };
  location = None;
}

abbrev last : FragmentSpread
last = record { fragment_name = numbered 1; directives = []; location = None }

pub size-known : size counted ≡ 4
size-known = omega (arith, own-field field_a, own-inline inside, own-field field_b, own-spread last)

pub fields-known : fields_in counted ≡ field_a ∷ field_b ∷ []
fields-known =
    in_field field_a (selection.InlineFragment inside ∷ selection.FragmentSpread last ∷ [])
    ∙ ap (λ l. field_a ∷ l) (in_inline inside (selection.FragmentSpread last ∷ [])
    ∙ ap (λ l. l ++ fields_in (selection.FragmentSpread last ∷ [])) (in_field field_b [] ∙ ap (λ l. field_b ∷ l) fields-none)
    ∙ ap (λ l. field_b ∷ l) (in_spread last [] ∙ fields-none))
