-- What only private clauses and proofs cite, beside `Executed`.
use Rattle.std.specs.Prelude.{◌≡◌, ℕ, List, ◌++◌, Option}
use Rattle.gql_document_types.specs.declared.selection.Selection.{Selection}
use Rattle.gql_response.specs.declared.graphql_error.GraphQLError.{GraphQLError}
use Rattle.gql_schema_types.specs.declared.types.ObjectType.{ObjectType}
use Rattle.gql_resolvers.specs.Depth.{AllGroups, Suffices}
use Rattle.gql_resolvers.specs.Execute.{Made, Member, Below, execute, groups_made}
use Rattle.gql_resolvers.specs.Trail.{Trail}
use Rattle.gql_resolvers.specs.World.{World}
use Rattle.gql_exec.specs.Group.{Group}
use Rattle.gql_exec.specs.bridge.Output.{Finds}
use Rattle.gql_exec.specs.Executed.{IsEnough}

-- this is made, and its errors come after those that are listed already
pub record IsMade {A : Type 0} (found : Option (List A)) (before after : List GraphQLError) (made : Made A) : Type 0 where
  pub is : found ≡ made.0
  pub listed : after ≡ before ++ made.1

module _ {X : Type 0} (w : World X ObjectType Group (List (List Selection))) where
  -- whatever is deep enough for a group, what is made is what this makes by runs of that depth
  abbrev pub MakesBelow : {A : Type 0} → Group → Option (List A) → List GraphQLError → List GraphQLError → (Below w → Made A) → Type 0
  MakesBelow g found before after make = (depth : ℕ) → IsEnough {X = X} w depth g → IsMade found before after (make (execute w depth))

  -- and these are found made
  abbrev pub Makes : {A : Type 0} → (Option (List A) → Type 0) → Group → List GraphQLError → List GraphQLError → (Below w → Made A) → Type 0
  Makes Are g before after make = Finds Are (λ found. MakesBelow g found before after make)

  -- the execution of selection sets on an object, whatever is deep enough
  abbrev pub Executes : ObjectType → X → Trail → List (List Selection) → Option (List Member) → List GraphQLError → List GraphQLError → Type 0
  Executes U x outer sets found before after =
      (depth : ℕ) → Suffices w depth U sets → IsMade found before after (execute w depth U x outer sets)

  -- the same of groups
  abbrev pub ExecutesGroups : ObjectType → X → Trail → List Group → Option (List Member) → List GraphQLError → List GraphQLError → Type 0
  ExecutesGroups U x outer groups found before after =
      (depth : ℕ) → AllGroups w (IsEnough {X = X} w depth) groups → IsMade found before after (groups_made w (execute w depth) U x outer groups)
