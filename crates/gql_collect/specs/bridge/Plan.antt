-- What only private clauses and proofs cite, beside `Plan`.
use Rattle.std.specs.Prelude.{◌≡◌, ℕ, zero, suc, List, map, Some, IfSome, Result, slice_get}
use Rattle.std.specs.List.{AllByRecursion}
use Rattle.std.specs.Option.{option_copied, unwrap_or}
use Rattle.gql_ast.specs.declared.field_definition.FieldDefinition.{FieldDefinition}
use Rattle.gql_coerce.specs.Arguments.{coerced_arguments}
use Rattle.gql_coerce.specs.Filled.{Members}
use Rattle.gql_coerce.specs.Outcome.{told_as}
use Rattle.gql_coerce.specs.Told.{argument_fault}
use Rattle.gql_coerce.specs.declared.told.ArgumentFault.{ArgumentFault}
use Rattle.gql_document_types.specs.declared.fragment.Fragment.{Fragment}
use Rattle.gql_document_types.specs.declared.selection.Field.{Field}
use Rattle.gql_document_types.specs.declared.selection.Selection.{Selection}
use Rattle.gql_schema_types.specs.Schemas.{field_of, object_of, type_named}
use Rattle.gql_schema_types.specs.declared.schema.Schema.{Schema}
use Rattle.gql_schema_types.specs.declared.types.ObjectType.{ObjectType}
use Rattle.gql_collect.specs.Collected.{setting}
use Rattle.gql_collect.specs.Grouping.{groups_seen}
use Rattle.gql_collect.specs.Groups.{SameGroups, applying}
use Rattle.gql_collect.specs.Kept.{Variables}
use Rattle.gql_collect.specs.Walk.{fields_of}
use Rattle.gql_collect.specs.declared.group.Group.{Group}
use Rattle.gql_collect.specs.Lists.{AreApart}
use Rattle.gql_collect.specs.Room.{all_selections}
use Rattle.gql_collect.specs.bridge.Room.{HasRoom}
use Rattle.gql_collect.specs.declared.plan.Node.{Node, out-Node}
use Rattle.gql_collect.specs.declared.plan.Part.{Part, out-Part}
use Rattle.gql_collect.specs.declared.planned_field.PlannedField.{PlannedField}
use Rattle.gql_collect.specs.declared.planner.Planner.{Planner}
use Rattle.gql_collect.specs.Plan.{group_in, fields_in, groups_in}

abbrev pub type_in : Node → ObjectType
type_in node = (out-Node node).object_type.now

abbrev pub parts_in : Node → List Part
parts_in node = (out-Node node).parts

abbrev pub nodes_in : Part → List Node
nodes_in part = (out-Part part).nodes

-- the names of the types that nodes are for
abbrev pub names_in : List Node → List (List ℕ)
names_in nodes = map (λ node. (type_in node).name.text) nodes

-- what is selected below a group, set by set
abbrev pub sets_below : Group → List (List Selection)
sets_below group = map (λ (field : Field). field.selection_set.selections) (fields_of group.fields)

-- what a plan is made from; of the operation its selections
pub record Ground : Type 0 where
  pub operation : List Selection
  pub fragments : List Fragment
  pub schema : Schema
  pub variables : Variables

abbrev pub ground_of : Planner → Ground
ground_of planner = record {
  operation = planner.operation.now.selection_set.selections;
  fragments = planner.document.now.fragments;
  schema = planner.schema.now;
  variables = planner.variables.now;
}

-- the most looks of one collection
abbrev pub most_looks : Ground → ℕ
most_looks ground = all_selections ground.fragments ground.operation

-- it is the schema's object type of its name
abbrev pub IsTyped : Schema → ObjectType → Type 0
IsTyped schema U = object_of schema U.name.text ≡ Some U

module _ (ground : Ground) where
  -- a collection of these sets looks at no more than what the operation and the fragments have
  abbrev pub IsWithin : List (List Selection) → Type 0
  IsWithin sets = HasRoom ground.fragments ground.operation sets

  -- the definition of a field on an object type, which the first field of each group has; else the one where it is selected
  abbrev pub definition_on : ObjectType → Field → FieldDefinition
  definition_on U f = unwrap_or (field_of ground.schema U.name.text f.name.text) f.definition

  -- the arguments of a field by a definition, or the fault of the first that fails
  abbrev pub arguments_by : FieldDefinition → Field → Result Members ArgumentFault
  arguments_by definition f = told_as argument_fault (coerced_arguments ground.schema.types ground.variables definition.arguments f.arguments)

  -- what objects of a type ask by a group: its first field as it is defined on the type, with the type that the definition
  -- names, and the arguments of the definition where they are kept
  pub record IsPlanned (U : ObjectType) (field : PlannedField) : Type 0 where
    pub definition : field.definition.now ≡ definition_on U field.group.first.now
    pub named : option_copied field.named ≡ type_named ground.schema field.definition.now.ty
    pub arguments : IfSome field.arguments (λ arguments. arguments ≡ arguments_by field.definition.now field.group.first.now)

  -- the groups of these sets on an object type, and what objects of the type ask by them
  pub record AreCollected (U : ObjectType) (sets : List (List Selection)) (parts : List Part) : Type 0 where
    pub groups : SameGroups (groups_seen (groups_in parts)) (applying (setting ground.fragments ground.schema U ground.variables) sets)
    pub planned : AllByRecursion (IsPlanned U) (fields_in parts)

  -- each node has the groups of these sets on a type of its own, and so on, so many nodes down
  abbrev pub AreNodesTo : ℕ → List (List Selection) → List Node → Type 0
  AreNodesTo zero sets nodes = IsWithin sets
  AreNodesTo (suc n) sets nodes =
      IsWithin sets
      × AreApart (names_in nodes)
      × AllByRecursion (λ node.
      IsTyped ground.schema (type_in node)
      × AreCollected (type_in node) sets (parts_in node)
      × AllByRecursion (λ part. AreNodesTo n (sets_below (group_in part)) (nodes_in part)) (parts_in node)
      ) nodes

  -- however many nodes down
  abbrev pub AreNodes : List (List Selection) → List Node → Type 0
  AreNodes sets nodes = (n : ℕ) → AreNodesTo n sets nodes

  -- the nodes of each part are of what is selected below its group
  abbrev pub HaveNodes : List Part → Type 0
  HaveNodes parts = (n : ℕ) → AllByRecursion (λ part. AreNodesTo n (sets_below (group_in part)) (nodes_in part)) parts

  abbrev pub ArePartsOf : ObjectType → List (List Selection) → List Part → Type 0
  ArePartsOf U sets parts = AreCollected U sets parts × HaveNodes parts

-- the node of the number is for objects of this type
pub record IsNodeOf (U : ObjectType) (nodes : List Node) (number : ℕ) : Type 0 where
  pub node : Node
  pub there : slice_get nodes number ≡ Some node
  pub typed : type_in node ≡ U
