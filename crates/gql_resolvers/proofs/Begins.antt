-- The errors of a field have paths that begin with its key.
use Rattle.std.proofs.Common.{◌≡◌, ℕ, List, [], ◌∷◌, ◌++◌, ap, ◌∙◌, sym, append_assoc}
use Rattle.std.specs.List.{AllByRecursion}
use Rattle.gql_response.specs.declared.graphql_error.GraphQLError.{GraphQLError}
use Rattle.gql_response.specs.declared.path.ResponseDataPathSegment.TheVariants.{Field}
use Rattle.gql_resolvers.proofs.Distinct.{BelowBy, IsOwnStep, separate_field, separate_execute}
use Rattle.gql_resolvers.specs.Begins.{BeginsWith}
use Rattle.gql_resolvers.specs.Execute.{field_made, execute}
use Rattle.gql_resolvers.specs.Spot.{Spot, field_spot}
use Rattle.gql_resolvers.specs.Trail.{Segment, Trail, path_of}
use Rattle.gql_resolvers.specs.World.{World, IsLawful}

module _ {G : Type 0} (spot : Spot G) where
  one_begins : (e : GraphQLError) → BelowBy spot.around (IsOwnStep spot) e → BeginsWith (path_of spot.around ++ spot.step ∷ []) e
  one_begins e p =
      (p.2, p.3 ∙ ap (λ (s : Segment). path_of spot.around ++ s ∷ p.2) p.1 ∙ sym (append_assoc (path_of spot.around) (spot.step ∷ []) p.2))

  all_begin : (es : List GraphQLError) → AllByRecursion (BelowBy spot.around (IsOwnStep spot)) es
      → AllByRecursion (BeginsWith (path_of spot.around ++ spot.step ∷ [])) es
  all_begin [] p = tt
  all_begin (e ∷ es) p = (one_begins e p.0, all_begin es p.1)

module _ {X T G S : Type 0} (w : World X T G S) (lawful : IsLawful w) where
  pub field_begins : (d : ℕ) (U : T) (x : X) (outer : Trail) (g : G)
      → AllByRecursion (BeginsWith (path_of outer ++ Field (w.name_of g) ∷ [])) (field_made w (execute w d) (field_spot w U outer g) (w.asks U x g)).1
  field_begins d U x outer g =
      all_begin (field_spot w U outer g) _
      (separate_field w lawful.distinct_keys (execute w d) U outer g (w.asks U x g) (separate_execute w lawful.distinct_keys d (w.below g))).0
