-- The depth of selections, one selection after the other.
use Rattle.std.proofs.Common.{◌≡◌, ℕ, ◌+◌, max, List, [], ◌∷◌, Option, Some, None, option_map, slice_get, refl, sym, ap, ◌∙◌}
use Rattle.std.specs.Option.{option_map_or}
use Rattle.std.proofs.lemmas.Option.{slice_get-map}
use Rattle.gql_document_types.specs.RootFields.{fragment_name}
use Rattle.gql_document_types.specs.Spreads.{spread_graph}
use Rattle.gql_document_types.specs.declared.fragment.Fragment.{Fragment}
use Rattle.gql_document_types.specs.declared.selection.Field.{Field}
use Rattle.gql_document_types.specs.declared.selection.FragmentSpread.{FragmentSpread}
use Rattle.gql_document_types.specs.declared.selection.InlineFragment.{InlineFragment}
use Rattle.gql_document_types.specs.declared.selection.Selection.{Selection}
use Rattle.gql_document_types.specs.declared.selection.Selection.TheVariants as selection
use Rattle.gql_schema_types.specs.Entries.{is_called}
use Rattle.gql_schema_types.proofs.Lookups.{found, missing}
use Rattle.gql_graph.specs.Ranks.{IsRanked}
use Rattle.gql_collect.specs.Expanded.{expanded_depth}
use Rattle.gql_collect.specs.Nested.{Nested, body_in, body_of}
use Rattle.gql_collect.specs.View.{One, then_more, spread_of, number_of, weight_of, nested, body_nested, fragments_nested}
use Rattle.gql_collect.proofs.DepthFacts.{depth-fixed}
use Rattle.gql_collect.proofs.Ranked.{fragments-ranked}
use Rattle.gql_collect.proofs.Views.{view-field, view-spread, view-inline, view-inside, view-node}
use Rattle.gql_exec_laws.specs.Depths.{depth_in, selections_of}

module _ (fragments : List Fragment) where
  abbrev depth_of : Nested → ℕ
  depth_of t = expanded_depth (fragments_nested fragments) t

  abbrev with_rest : List Selection → One → ℕ
  with_rest rest one = depth_of (then_more one (nested fragments rest))

  pub depth-field : (it : Field) (rest : List Selection) → depth_in fragments (selection.Field it ∷ rest)
      ≡ max (weight_of it.name.text + depth_in fragments it.selection_set.selections) (depth_in fragments rest)
  depth-field it rest = ap (with_rest rest) (view-field fragments it ∙ view-node fragments it)

  pub depth-inline : (it : InlineFragment) (rest : List Selection) → depth_in fragments (selection.InlineFragment it ∷ rest)
      ≡ max (depth_in fragments it.selection_set.selections) (depth_in fragments rest)
  depth-inline it rest = ap (with_rest rest) (view-inline fragments it ∙ view-inside fragments it)

  abbrev written : Option Fragment → List Selection
  written o = option_map_or (λ (fragment : Fragment). fragment.selection_set.selections) o []

  body-written : (o : Option Fragment) → body_in (option_map (body_nested fragments) o) ≡ nested fragments (written o)
  body-written None = refl
  body-written (Some fragment) = refl

  module _ (rank : ℕ → ℕ) (ranked : IsRanked (spread_graph fragments) rank) where
    depth-number : (it : FragmentSpread) (o : Option ℕ) (rest : List Selection) → number_of fragments it.fragment_name ≡ o
        → with_rest rest (spread_of o it.location) ≡ max (depth_in fragments (selections_of fragments it.fragment_name.text)) (depth_in fragments rest)
    depth-number it None rest none =
        ap (λ e. max (depth_in fragments (written e)) (depth_in fragments rest)) (sym (missing (is_called fragment_name it.fragment_name.text) fragments none))
    depth-number it (Some f) rest is =
        let fixed = depth-fixed (fragments_nested fragments) rank (fragments-ranked fragments rank ranked) f in
        let same : body_of (fragments_nested fragments) f ≡ nested fragments (selections_of fragments it.fragment_name.text) =
        ap body_in (slice_get-map (body_nested fragments) fragments f) ∙ body-written (slice_get fragments f)
        ∙ ap (λ e. nested fragments (written e)) (sym (found (is_called fragment_name it.fragment_name.text) fragments f is)) in
        ap (λ n. max n (depth_in fragments rest)) (fixed ∙ ap depth_of same)

    pub depth-spread : (it : FragmentSpread) (rest : List Selection) → depth_in fragments (selection.FragmentSpread it ∷ rest)
        ≡ max (depth_in fragments (selections_of fragments it.fragment_name.text)) (depth_in fragments rest)
    depth-spread it rest =
        ap (with_rest rest) (view-spread fragments it) ∙ depth-number it (number_of fragments it.fragment_name) rest refl
