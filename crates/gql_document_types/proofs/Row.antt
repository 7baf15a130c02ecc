-- The expansion of `{ ...F } fragment F on T { f }`.
use Rattle.std.proofs.Common.{arith, ◌≡◌, List, [], ◌∷◌, ◌++◌, cond, Option, Some, None, true, sym, ap, ◌∙◌}
use Rattle.std.specs.Option.{option_map_or}
use Rattle.std.specs.Str.{bytes_eq}
use Rattle.std.proofs.lemmas.Slice.Eq.{bytes_eq-Decides}
use Rattle.gql_document_types.specs.declared.fragment.Fragment.{Fragment}
use Rattle.gql_document_types.specs.declared.selection.Field.{Field}
use Rattle.gql_document_types.specs.declared.selection.FragmentSpread.{FragmentSpread}
use Rattle.gql_document_types.specs.declared.selection.Selection.{Selection}
use Rattle.gql_document_types.specs.declared.selection.Selection.TheVariants as selection
use Rattle.gql_document_types.specs.Count.{count}
use Rattle.gql_document_types.specs.Expanded.{in_place, expand_all, contents_within, contents, expanded}
use Rattle.gql_document_types.specs.OneSpread.{IsOneSpread}
use Rattle.gql_document_types.proofs.Counts.{one-spread}
use Rattle.gql_document_types.proofs.Views.{field_with, expand-field, count-field, count-inline}

module _ (fragment : Fragment) (spread : FragmentSpread) (field : Field) (small : IsOneSpread fragment spread field) where
  abbrev all : List Fragment
  all = fragment ∷ []

  -- the field stays as it is, whatever fragments have
  field-stays : (inside : Fragment → List Selection) → expand_all all inside fragment.selection_set.selections ≡ selection.Field field ∷ []
  field-stays inside =
      ap (expand_all all inside) small.selects
      ∙ ap (λ l. l ++ []) (expand-field all inside field)
      ∙ ap (λ l. selection.Field (field_with field (expand_all all inside l)) ∷ []) small.leaf
      ∙ ap (λ l. selection.Field (field_with field l) ∷ []) (sym small.leaf)

  has-field : contents all fragment ≡ selection.Field field ∷ []
  unfolding contents
  has-field = field-stays (contents_within all 1)

  abbrev placed : Option Fragment → List Selection
  placed o = option_map_or (λ (it : Fragment). selection.InlineFragment (in_place spread it (contents all it)) ∷ []) o []

  it-is : bytes_eq spread.fragment_name.text fragment.name.text ≡ true
  it-is = (bytes_eq-Decides spread.fragment_name.text fragment.name.text).1 small.named

  pub row : expanded all (selection.FragmentSpread spread ∷ []) ≡ selection.InlineFragment (in_place spread fragment (selection.Field field ∷ [])) ∷ []
  row =
      ap (λ l. l ++ []) (one-spread all spread ∙ ap (λ b. placed (cond b (Some fragment) None)) it-is)
      ∙ ap (λ l. selection.InlineFragment (in_place spread fragment l) ∷ []) has-field

  pub row-count : count (expanded all (selection.FragmentSpread spread ∷ [])) ≡ 2
  row-count =
      omega (
        arith,
        ap count row,
        count-inline (in_place spread fragment (selection.Field field ∷ [])),
        count-field field,
        ap count small.leaf,
      )
