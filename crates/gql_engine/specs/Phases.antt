-- The steps before execution: what is wanted is ready, or the cause of a refusal.
use Rattle.std.specs.Prelude.{◌≡◌, ◌≤◌, ◌+◌, ℕ, Some, Ok}
use Rattle.gql_coerce.specs.Variables.{coerced_variables}
use Rattle.gql_document_types.specs.ChosenOperation.{chosen}
use Rattle.gql_engine.specs.declared.ready.ReadyOperation.{ReadyOperation}
use Rattle.gql_engine.specs.Depths.{IsShallow, depth_looks}
use Rattle.gql_engine.specs.Meant.{AreMeant}
use Rattle.gql_engine.specs.Wanted.{Wanted}

-- nothing is in the way of the operation that is wanted, and its depth was checked with these looks
pub record IsReady (wanted : Wanted) (before after : ℕ) (ready : ReadyOperation) : Type 0 where
  pub meant : AreMeant wanted.schema wanted.query ready.schema.now ready.document.now
  pub is_chosen : chosen wanted.operation_name ready.document.now.operations ≡ Some ready.operation.now
  pub is_shallow : IsShallow wanted.introspection ready.document.now ready.operation.now
  pub are_coerced : coerced_variables ready.schema.now.types ready.operation.now.variables wanted.variables ≡ Ok ready.variables
  pub introspection : ready.introspection ≡ wanted.introspection
  pub rises : before ≤ after
  pub depth : after ≤ before + depth_looks wanted.introspection ready.document.now ready.operation.now

-- there is something wanted that it is ready for
abbrev pub IsReadyForSome : ReadyOperation → Type 0
IsReadyForSome ready = (wanted : Wanted) × (before after : ℕ) × IsReady wanted before after ready
