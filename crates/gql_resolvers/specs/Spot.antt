-- Where a place is: section 6.4.3 of GraphQL October 2021.
use Rattle.std.specs.Prelude.{ℕ, ◌∷◌}
use Rattle.gql_ast_base.specs.declared.type_ref.TypeRef.{TypeRef}
use Rattle.gql_response.specs.declared.path.ResponseDataPathSegment.TheVariants.{Field, ListIndex}
use Rattle.gql_resolvers.specs.Types.{item_type}
use Rattle.gql_resolvers.specs.World.{World}
use Rattle.gql_resolvers.specs.Trail.{Segment, Trail}

-- those around it, the step to it, its type, and the group of its field
pub record Spot (G : Type 0) : Type 0 where
  pub around : Trail
  pub step : Segment
  pub type : TypeRef
  pub group : G

abbrev pub trail : {G : Type 0} → Spot G → Trail
trail spot = (spot.step, spot.type) ∷ spot.around

-- an item of a list
abbrev pub item_spot : {G : Type 0} → Spot G → ℕ → Spot G
item_spot spot i = record { around = trail spot; step = ListIndex i; type = item_type spot.type; group = spot.group }

-- a group's field on an object type
abbrev pub field_spot : {X T G S : Type 0} → World X T G S → T → Trail → G → Spot G
field_spot w U outer g = record { around = outer; step = Field (w.name_of g); type = w.type_at U g; group = g }
