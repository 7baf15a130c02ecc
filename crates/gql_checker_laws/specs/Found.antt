-- What a walk finds is added to what was found before it.
use Rattle.std.specs.Prelude.{◌≡◌, ℕ, List, Bool}
use Rattle.gql_document_types.specs.declared.selection.Selection.{Selection}
use Rattle.gql_schema_types.specs.declared.types.ObjectType.{ObjectType}
use Rattle.gql_resolvers.specs.Depth.{AllGroups}
use Rattle.gql_resolvers.specs.World.{World}
use Rattle.gql_exec.specs.Executed.{IsEnough}
use Rattle.gql_exec.specs.Group.{Group}
use Rattle.gql_checker_laws.specs.Claims.{Found, first_of, marked}
use Rattle.gql_checker_laws.specs.Walk.{Below, set_found}
use Rattle.gql_checker_laws.specs.Findings.{Findings}

pub record IsFound (found : Found) (before after : Findings) (comes : Bool) : Type 0 where
  pub passes : comes ≡ found.passes
  pub told : after.told ≡ marked found.told before.told
  pub bad : after.bad ≡ first_of before.bad found.bad

module _ {X : Type 0} (w : World X ObjectType Group (List (List Selection))) where
  -- whatever is deep enough for a group, this is found by walks of that depth
  abbrev pub FindsBelow : Group → Findings → Findings → Bool → (Below w → Found) → Type 0
  FindsBelow g before after passes find = (depth : ℕ) → IsEnough w depth g → IsFound (find (set_found w depth)) before after passes

  -- the same of groups
  abbrev pub FindsGroups : List Group → Findings → Findings → Bool → (Below w → Found) → Type 0
  FindsGroups groups before after passes find =
      (depth : ℕ) → AllGroups w (IsEnough w depth) groups → IsFound (find (set_found w depth)) before after passes
