-- How a plan grows.
use Rattle.std.specs.Prelude.{◌≡◌, ℕ, Bool, List, [], ◌∷◌, ◌++◌, length}
use Rattle.std.specs.List.{AllByRecursion}
use Rattle.std.specs.Str.{bytes_eq}
use Rattle.gql_document_types.specs.declared.selection.Selection.{Selection}
use Rattle.gql_schema_types.specs.declared.types.ObjectType.{ObjectType}
use Rattle.gql_collect.specs.declared.group.Group.{Group}
use Rattle.gql_collect.specs.Plan.{fields_in, groups_in}
use Rattle.gql_collect.specs.bridge.Plan.{Ground, type_in, parts_in, nodes_in, IsPlanned, ArePartsOf}
use Rattle.gql_collect.specs.declared.plan.Node.{Node}
use Rattle.gql_collect.specs.declared.plan.Part.{Part}

abbrev pub is_for : List ℕ → Node → Bool
is_for name node = bytes_eq name (type_in node).name.text

-- no node stands below these parts yet
abbrev pub AreFresh : List Part → Type 0
AreFresh parts = AllByRecursion (λ part. nodes_in part ≡ []) parts

-- these groups with what objects of the type ask by them, and no node below them
pub record AreBegun (ground : Ground) (U : ObjectType) (groups : List Group) (parts : List Part) : Type 0 where
  pub same : groups_in parts ≡ groups
  pub planned : AllByRecursion (IsPlanned ground U) (fields_in parts)
  pub fresh : AreFresh parts

-- a node more
pub record IsAdded (ground : Ground) (U : ObjectType) (sets : List (List Selection)) (before after : List Node) (number : ℕ) : Type 0 where
  pub node : Node
  pub added : after ≡ before ++ node ∷ []
  pub last : number ≡ length before
  pub typed : type_in node ≡ U
  pub planned : ArePartsOf ground U sets (parts_in node)
  pub fresh : AreFresh (parts_in node)
