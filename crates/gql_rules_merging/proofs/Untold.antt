-- Nothing is told of a pair one of whose fields is not there.
use Rattle.std.proofs.Common.{◌≡◌, Option, Some, None, List, [], ◌∷◌, refl, ap, ◌∙◌}
use Rattle.std.specs.List.{slice_get}
use Rattle.std.specs.Option.{option_map_or, option_map}
use Rattle.std.proofs.lemmas.Option.{slice_get-map}
use Rattle.gql_diag_messages.specs.declared.diagnostic_data.DiagnosticData.{DiagnosticData}
use Rattle.gql_graph.specs.declared.pair.Pair.{Pair}
use Rattle.gql_schema_types.specs.declared.types.ExtendedType.{ExtendedType}
use Rattle.gql_rules_merging.specs.FieldSelectionMerging.{conflict, conflict_of}
use Rattle.gql_rules_merging.specs.bridge.Gathering.{fields_of, selected_of}
use Rattle.gql_rules_merging.specs.Numbering.{Selected}
use Rattle.gql_rules_merging.specs.declared.numbering.Selected.{Selected as Held}

module _ (types : List ExtendedType) (held : List Held) (p : Pair) where
  pub first_lacks : slice_get held p.first ≡ None → conflict_of types (fields_of held) p ≡ []
  first_lacks at =
      ap (λ o. option_map_or (λ one. option_map_or (λ other. conflict types one other ∷ []) (slice_get (fields_of held) p.second) []) o [])
      (slice_get-map selected_of held p.first ∙ ap (option_map selected_of) at)

  pub second_lacks : slice_get held p.second ≡ None → conflict_of types (fields_of held) p ≡ []
  second_lacks at =
      ap (λ o. option_map_or (λ one. option_map_or (λ other. conflict types one other ∷ []) o []) (slice_get (fields_of held) p.first) [])
      (slice_get-map selected_of held p.second ∙ ap (option_map selected_of) at)
      ∙ by_first (slice_get (fields_of held) p.first)
    where
      nothing : Selected → List DiagnosticData
      nothing one = []

      by_first : (o : Option Selected) → option_map_or nothing o [] ≡ []
      by_first None = refl
      by_first (Some one) = refl
