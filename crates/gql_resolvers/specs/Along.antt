-- What the data has at the end of a path: section 7.1.2 of GraphQL October 2021.
use Rattle.std.specs.Prelude.{◌≡◌, ℕ, zero, suc, List, [], ◌∷◌, ◌++◌, ◌⊎◌}
use Rattle.jb_tree.specs.declared.value.Value.{Value}
use Rattle.jb_tree.specs.declared.value.Value.TheVariants as json
use Rattle.gql_ast_base.specs.Names.{Named}
use Rattle.gql_response.specs.declared.path.ResponseDataPathSegment.TheVariants.{Field, ListIndex}
use Rattle.gql_resolvers.specs.Trail.{Segment}
use Rattle.gql_resolvers.specs.Execute.{Member}

abbrev pub IsPair : List ℕ → Value → List Member → Type 0
IsPair k v [] = ⊥
IsPair k v (p ∷ ps) = ((k ≡ p.0) × (v ≡ p.1)) ⊎ IsPair k v ps

abbrev pub IsNth : ℕ → Value → List Value → Type 0
IsNth i v [] = ⊥
IsNth zero v (u ∷ us) = v ≡ u
IsNth (suc i) v (u ∷ us) = IsNth i v us

pub data Along (members : List Member) : List Segment → Value → Type 0 where
  whole : Along members [] (json.Object members)
  at_key : {path : List Segment} {v : Value} (name : Named) (ms : List Member)
      → Along members path (json.Object ms) → IsPair name.text v ms → Along members (path ++ Field name ∷ []) v
  at_index : {path : List Segment} {v : Value} (i : ℕ) (vs : List Value)
      → Along members path (json.Array vs) → IsNth i v vs → Along members (path ++ ListIndex i ∷ []) v

-- the data is null at the path, or at a beginning of it
pub record MeetsNull (members : List Member) (path : List Segment) : Type 0 where
  pub front : List Segment
  pub rest : List Segment
  pub split : path ≡ front ++ rest
  pub null : Along members front json.Null
