-- The errors of a field of the root have paths that begin with its key.
use Rattle.std.proofs.Common.{◌≡◌, ℕ, true, List, [], ◌∷◌, ◌++◌, ap, ◌∙◌}
use Rattle.std.specs.List.{AllByRecursion}
use Rattle.gql_collect.proofs.Keys.{text-itself}
use Rattle.gql_resolvers.proofs.Begins.{field_begins}
use Rattle.gql_resolvers.specs.Begins.{BeginsWith}
use Rattle.gql_resolvers.specs.Execute.{field_made, execute}
use Rattle.gql_resolvers.specs.Spot.{field_spot}
use Rattle.gql_resolvers.specs.Trail.{path_of}
use Rattle.gql_resolvers.specs.World.{World, key_of, IsLawful}
use Rattle.gql_response.specs.declared.graphql_error.GraphQLError.{GraphQLError}
use Rattle.gql_response.specs.declared.path.ResponseDataPathSegment.TheVariants.{Field}
use Rattle.gql_gateway.specs.Joined.{begins_with}

-- the path begins with a key
abbrev pub Begins : List ℕ → GraphQLError → Type 0
Begins key e = begins_with key e.path ≡ true

module _ {X T G S : Type 0} (w : World X T G S) (laws : IsLawful w) (U : T) (x : X) (g : G) where
  begin-all : (es : List GraphQLError) → AllByRecursion (BeginsWith (path_of [] ++ Field (w.name_of g) ∷ [])) es
      → AllByRecursion (Begins (key_of w g)) es
  begin-all [] p = tt
  begin-all (e ∷ es) p = (ap (begins_with (key_of w g)) p.0.1 ∙ text-itself (key_of w g), begin-all es p.1)

  pub field-begins : (d : ℕ) → AllByRecursion (Begins (key_of w g)) (field_made w (execute w d) (field_spot w U [] g) (w.asks U x g)).1
  field-begins d = begin-all (field_made w (execute w d) (field_spot w U [] g) (w.asks U x g)).1 (field_begins w laws d U x [] g)
