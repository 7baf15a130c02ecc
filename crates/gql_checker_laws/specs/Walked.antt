-- How far a list or a selection set was walked through.
use Rattle.std.specs.Prelude.{◌≡◌, ◌||◌, ℕ, Bool, List, Option, Some, None, drop}
use Rattle.jb_tree.specs.declared.value.Value.{Value}
use Rattle.gql_document_types.specs.declared.selection.Selection.{Selection}
use Rattle.gql_exec.specs.Executed.{IsEnough}
use Rattle.gql_exec.specs.Group.{Group}
use Rattle.gql_resolvers.specs.Depth.{AllGroups}
use Rattle.gql_resolvers.specs.Execute.{Member}
use Rattle.gql_resolvers.specs.Resolved.{Meanings}
use Rattle.gql_resolvers.specs.Spot.{Spot}
use Rattle.gql_resolvers.specs.Trail.{Trail}
use Rattle.gql_resolvers.specs.World.{World}
use Rattle.gql_schema_types.specs.declared.types.ObjectType.{ObjectType}
use Rattle.gql_checker_laws.specs.Claims.{Claim, Found}
use Rattle.gql_checker_laws.specs.Walk.{groups_found, items_found, set_found}
use Rattle.gql_checker_laws.specs.Findings.{Findings}
use Rattle.gql_checker_laws.specs.Found.{IsFound}

-- those from a number on
abbrev pub from : {A : Type 0} → ℕ → Option (List A) → Option (List A)
from n None = None
from n (Some vs) = Some (drop n vs)

module _ {X : Type 0} (w : World X ObjectType Group (List (List Selection))) where
  -- to some depth that cuts nothing off, walking through these groups is walking through the sets to a given depth
  pub record WalksAs (given : ℕ) (U : ObjectType) (sets : List (List Selection)) (gs : List Group) : Type 0 where
    pub depth : ℕ
    pub enough : AllGroups w (IsEnough w depth) gs
    pub walks : (x : X) (outer : Trail) (ms : Option (List Member)) (cs : List Claim)
        → groups_found w (set_found w depth) U x outer gs ms cs ≡ set_found w given U x outer sets ms cs

module _ {X : Type 0} (w : World X ObjectType Group (List (List Selection))) (list : Spot Group) (vs : Option (List Value)) (cs : List Claim) where
  abbrev pub items_left : ℕ → ℕ → Meanings X → Found
  items_left depth i ms = items_found w (set_found w depth) list i ms (from i vs) cs

  -- what is found of the answers that are left ends what is found of all
  pub record IsWalking (passes : Bool) (now before : Findings) (i : ℕ) (left all : Meanings X) : Type 0 where
    pub goes : (depth : ℕ) → IsEnough w depth list.group → (after : Findings) (q : Bool) → IsFound (items_left depth i left) now after q
        → IsFound (items_found w (set_found w depth) list 0 all vs cs) before after (passes || q)

module _ {X : Type 0} (w : World X ObjectType Group (List (List Selection))) (U : ObjectType) (x : X) (outer : Trail) (ms : Option (List Member))
    (cs : List Claim) where
  abbrev pub groups_left : ℕ → ℕ → List Group → Found
  groups_left depth i gs = groups_found w (set_found w depth) U x outer gs (from i ms) cs

  -- the same of the groups of a selection set
  pub record IsVisiting (passes : Bool) (now before : Findings) (i : ℕ) (left all : List Group) : Type 0 where
    pub enough : (depth : ℕ) → AllGroups w (IsEnough w depth) all → AllGroups w (IsEnough w depth) left
    pub goes : (depth : ℕ) → AllGroups w (IsEnough w depth) all → (after : Findings) (q : Bool) → IsFound (groups_left depth i left) now after q
        → IsFound (groups_found w (set_found w depth) U x outer all ms cs) before after (passes || q)
