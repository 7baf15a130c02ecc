-- The names among the tokens of a row that has one tree more at its end.
use Rattle.std.proofs.Common.{◌≡◌, ◌-◌, List, [], ◌∷◌, ◌++◌, option_to_list, Option, Some, None, is_some, if◌then◌else◌, true, false, refl, sym, ap, ◌∙◌}
use Rattle.std.proofs.lemmas.List.{append-nil}
use Rattle.std.specs.Prelude.{option_and_then, slice_get, ◌==◌}
use Rattle.std.specs.Option.{option_map}
use Rattle.gql_ast_base.specs.Forest.{Forest, Plain, nothing, row_of as forest_of}
use Rattle.gql_ast_base.specs.Parts.{Text, gather, word, after_word}
use Rattle.gql_ast.specs.declared.schema_definition.DirectiveLocation.{DirectiveLocation}
use Rattle.gql_ast.specs.Schemas.{location_word, directive_location_of, directive_locations}
use Rattle.gql_ast_reader.specs.declared.place.Place.{Place}
use Rattle.gql_ast_reader.specs.bridge.Places.{place_of, word_place, words}
use Rattle.gql_ast_reader.specs.bridge.Kept.{words_of}
use Rattle.gql_ast_reader.specs.bridge.Taking.{kept, added, behind, location_at, words_taken}
use Rattle.gql_ast_reader.proofs.Behind.{gather-behind}
use Rattle.gql_ast_reader.proofs.Words.{text-there}

append-added : {T : Type 0} (list : List T) (o : Option T) → list ++ option_to_list o ≡ added list o
append-added list None = append-nil list
append-added list (Some x) = refl

behind-none : (S : Type 0) {T : Type 0} (o : Option T) → behind {S = S} None o ≡ None
behind-none S None = refl
behind-none S (Some x) = refl

behind-some : {S T : Type 0} (y : S) (o : Option T) → behind (Some y) o ≡ o
behind-some y None = refl
behind-some y (Some x) = refl

one-more : (places : List Place) (o : Option Place) → slice_get (added places o) 0 ≡ kept (slice_get places 0) o
one-more places None = refl
one-more [] (Some p) = refl
one-more (a ∷ places) (Some p) = refl

two-more : (places : List Place) (o : Option Place) → slice_get (added places o) 1 ≡ kept (slice_get places 1) (behind (slice_get places 0) o)
two-more places None = refl
two-more [] (Some p) = refl
two-more (a ∷ []) (Some p) = refl
two-more (a ∷ b ∷ places) (Some p) = refl

three-more : (places : List Place) (o : Option Place) → slice_get (added places o) 2 ≡ kept (slice_get places 2) (behind (slice_get places 0) (behind (slice_get places 1) o))
three-more places None = refl
three-more [] (Some p) = refl
three-more (a ∷ []) (Some p) = refl
three-more (a ∷ b ∷ []) (Some p) = refl
three-more (a ∷ b ∷ c ∷ places) (Some p) = refl

module _ (text : Text) where
  abbrev spots : Forest → List DirectiveLocation
  spots row = gather (directive_location_of text) row

  -- what a token says of where a directive may stand is what stands at its place
  location-there : (tree : Plain) → directive_location_of text tree ≡ option_and_then (location_at text) (word_place text tree)
  unfolding directive_location_of
  location-there tree =
      elim (word text tree) as (λ o. word text tree ≡ o → option_and_then location_word o ≡ option_and_then (location_at text) (option_map (λ _. place_of tree) o)) [
        | None ↦ λ is. refl
        | Some found ↦ λ is. ap (option_and_then location_word) (sym is ∙ text-there text tree found is)
      ] refl

  after-first : (trees : List Plain) (tree : Plain) → spots (after_word text 0 (forest_of (trees ++ tree ∷ [])))
      ≡ added (spots (after_word text 0 (forest_of trees))) (behind (slice_get (words text (forest_of trees)) 0) (directive_location_of text tree))
  after-first [] tree =
      elim (is_some (word text tree)) as (λ b. spots (if b then (if 0 == 0 then nothing else after_word text (0 - 1) nothing) else nothing)
      ≡ added [] (behind {S = Place} None (directive_location_of text tree))) [
        | true ↦ ap (added []) (sym (behind-none Place (directive_location_of text tree)))
        | false ↦ ap (added []) (sym (behind-none Place (directive_location_of text tree)))
      ]
  after-first (t ∷ trees) tree =
      elim (word text t) as (λ o. spots (if is_some o then (if 0 == 0 then forest_of (trees ++ tree ∷ []) else after_word text (0 - 1) (forest_of (trees ++ tree ∷ []))) else after_word text 0 (forest_of (trees ++ tree ∷ [])))
      ≡ added (spots (if is_some o then (if 0 == 0 then forest_of trees else after_word text (0 - 1) (forest_of trees)) else after_word text 0 (forest_of trees)))
      (behind (slice_get (option_to_list (option_map (λ _. place_of t) o) ++ words text (forest_of trees)) 0) (directive_location_of text tree))) [
        | None ↦ after-first trees tree
        | Some found ↦ gather-behind (directive_location_of text) trees tree ∙ append-added (spots (forest_of trees)) (directive_location_of text tree)
            ∙ ap (added (spots (forest_of trees))) (sym (behind-some (place_of t) (directive_location_of text tree)))
      ]

  after-second : (trees : List Plain) (tree : Plain) → spots (after_word text 1 (forest_of (trees ++ tree ∷ [])))
      ≡ added (spots (after_word text 1 (forest_of trees)))
      (behind (slice_get (words text (forest_of trees)) 0) (behind (slice_get (words text (forest_of trees)) 1) (directive_location_of text tree)))
  after-second [] tree =
      elim (is_some (word text tree)) as (λ b. spots (if b then (if 1 == 0 then nothing else after_word text (1 - 1) nothing) else nothing)
      ≡ added [] (behind {S = Place} None (behind {S = Place} None (directive_location_of text tree)))) [
        | true ↦ ap (added []) (sym (behind-none Place (behind {S = Place} None (directive_location_of text tree))))
        | false ↦ ap (added []) (sym (behind-none Place (behind {S = Place} None (directive_location_of text tree))))
      ]
  after-second (t ∷ trees) tree =
      elim (word text t) as (λ o. spots (if is_some o then (if 1 == 0 then forest_of (trees ++ tree ∷ []) else after_word text (1 - 1) (forest_of (trees ++ tree ∷ []))) else after_word text 1 (forest_of (trees ++ tree ∷ [])))
      ≡ added (spots (if is_some o then (if 1 == 0 then forest_of trees else after_word text (1 - 1) (forest_of trees)) else after_word text 1 (forest_of trees)))
      (behind (slice_get (option_to_list (option_map (λ _. place_of t) o) ++ words text (forest_of trees)) 0)
      (behind (slice_get (option_to_list (option_map (λ _. place_of t) o) ++ words text (forest_of trees)) 1) (directive_location_of text tree)))) [
        | None ↦ after-second trees tree
        | Some found ↦ after-first trees tree
            ∙ ap (added (spots (after_word text 0 (forest_of trees)))) (sym (behind-some (place_of t) (behind (slice_get (words text (forest_of trees)) 0) (directive_location_of text tree))))
      ]

  pub words-behind : (trees : List Plain) (tree : Plain) → words_of text (forest_of (trees ++ tree ∷ [])) ≡ words_taken text (words_of text (forest_of trees)) (word_place text tree)
  unfolding directive_locations
  words-behind trees tree =
      let more : words text (forest_of (trees ++ tree ∷ [])) ≡ added (words text (forest_of trees)) (word_place text tree)
      = gather-behind (word_place text) trees tree ∙ append-added (words text (forest_of trees)) (word_place text tree) in
      λ i. record {
        one = (ap (λ l. slice_get l 0) more ∙ one-more (words text (forest_of trees)) (word_place text tree)) i;
        two = (ap (λ l. slice_get l 1) more ∙ two-more (words text (forest_of trees)) (word_place text tree)) i;
        three = (ap (λ l. slice_get l 2) more ∙ three-more (words text (forest_of trees)) (word_place text tree)) i;
        locations = (after-second trees tree
            ∙ ap (λ o. added (spots (after_word text 1 (forest_of trees)))
            (behind (slice_get (words text (forest_of trees)) 0) (behind (slice_get (words text (forest_of trees)) 1) o))) (location-there tree)) i;
      }
