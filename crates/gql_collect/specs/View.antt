-- The selections of a document, as far as their depth goes.
use Rattle.std.specs.Prelude.{ℕ, Bool, true, false, ◌||◌, List, [], ◌∷◌, map, position, Option, Some, None, codes}
use Rattle.std.specs.Str.{bytes_eq}
use Rattle.gql_ast_base.specs.Names.{Named}
use Rattle.gql_document_types.specs.RootFields.{fragment_name}
use Rattle.gql_document_types.specs.declared.fragment.Fragment.{Fragment}
use Rattle.gql_document_types.specs.declared.selection.Selection.{Selection, fold-Selection}
use Rattle.gql_document_types.specs.declared.selection.Selection.TheOpen.{Selection-F, Field-F, InlineFragment-F, SelectionSet-F}
use Rattle.gql_collect.specs.Nested.{Nested, nothing, field_then, spread_then, inline_then, Fragments, Place}
use Rattle.gql_schema_types.specs.Entries.{is_called}

-- the fields of introspection that lead from a type to types: these count, by their names alone
abbrev pub leads_on : List ℕ → Bool
leads_on name =
    bytes_eq name (codes "fields") || (bytes_eq name (codes "interfaces") || (bytes_eq name (codes "possibleTypes") || bytes_eq name (codes "inputFields")))

abbrev pub weigh : Bool → ℕ
weigh true = 1
weigh false = 0

-- how much a field of the name counts
abbrev pub weight_of : List ℕ → ℕ
weight_of name = weigh (leads_on name)

-- one selection
pub data One : Type 0 where
  one_field : ℕ → Place → Nested → One
  one_spread : ℕ → Place → One
  one_inline : Nested → One

abbrev pub then_more : One → Nested → Nested
then_more (one_field weight place within) rest = field_then weight place within rest
then_more (one_spread f place) rest = spread_then f place rest
then_more (one_inline body) rest = inline_then body rest

abbrev pub joined : List One → Nested
joined [] = nothing
joined (one ∷ ones) = then_more one (joined ones)

-- a spread of a fragment that is not defined counts nothing, like an empty set
abbrev pub spread_of : Option ℕ → Place → One
spread_of None place = one_inline nothing
spread_of (Some f) place = one_spread f place

module _ (fragments : List Fragment) where
  -- the number of the fragment of a name
  abbrev pub number_of : Named → Option ℕ
  number_of name = position (is_called fragment_name name.text) fragments

  abbrev pub selection_step : Selection-F One One One Nested → One
  selection_step (Selection-F.Field one) = one
  selection_step (Selection-F.FragmentSpread it) = spread_of (number_of it.fragment_name) it.location
  selection_step (Selection-F.InlineFragment one) = one

  abbrev pub field_step : Field-F One One One Nested → One
  field_step it = one_field (weight_of it.name.text) it.name.location it.selection_set

  abbrev pub inline_step : InlineFragment-F One One One Nested → One
  inline_step it = one_inline it.selection_set

  abbrev pub set_step : SelectionSet-F One One One Nested → Nested
  set_step it = joined it.selections

  abbrev pub one_of : Selection → One
  one_of = fold-Selection One One One Nested selection_step field_step inline_step set_step

  abbrev pub nested : List Selection → Nested
  nested selections = joined (map one_of selections)

  abbrev pub body_nested : Fragment → Nested
  body_nested fragment = nested fragment.selection_set.selections

-- the selections of each fragment
abbrev pub fragments_nested : List Fragment → Fragments
fragments_nested fragments = map (body_nested fragments) fragments
