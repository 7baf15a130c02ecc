-- What is made, and which errors are listed on the way.
use Rattle.std.specs.Prelude.{ℕ, List}
use Rattle.gql_document_types.specs.declared.selection.Selection.{Selection}
use Rattle.gql_schema_types.specs.declared.types.ObjectType.{ObjectType}
use Rattle.gql_resolvers.specs.Depth.{Suffices}
use Rattle.gql_resolvers.specs.World.{World}
use Rattle.gql_exec.specs.Group.{Group}

module _ {X : Type 0} (w : World X ObjectType Group (List (List Selection))) where
  -- so deep that nothing below a group is cut off
  abbrev pub IsEnough : ℕ → Group → Type 0
  IsEnough depth g = (W : ObjectType) → Suffices w depth W (w.below g)
