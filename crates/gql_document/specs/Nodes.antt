-- The fields and the inline fragments among selections that are looked at. What is below a field that is not defined, below a
-- field of a scalar or enum type, and inside a fragment whose condition is not defined, is not.
use Rattle.std.specs.Prelude.{Bool, true, false, List, [], ◌∷◌, map, Option, is_some, if◌then◌else◌}
use Rattle.std.specs.List.{flat_map}
use Rattle.std.specs.Option.{option_map_or}
use Rattle.gql_source.specs.Span.{Span}
use Rattle.gql_ast_base.specs.Names.{Named}
use Rattle.gql_ast.specs.declared.field_definition.FieldDefinition.{FieldDefinition}
use Rattle.gql_ast.specs.declared.selection.Selection.{Selection, fold-Selection}
use Rattle.gql_ast.specs.declared.selection.Selection.TheOpen.{Selection-F, Field-F, InlineFragment-F}
use Rattle.gql_ast_base.specs.declared.type_ref.TypeRef.{TypeRef}
use Rattle.gql_schema_types.specs.Schemas.{field_of}
use Rattle.gql_schema_types.specs.Types.{type_called}
use Rattle.gql_schema_types.specs.declared.schema.Schema.{Schema}
use Rattle.gql_schema_types.specs.declared.types.ExtendedType.{ExtendedType}
use Rattle.gql_schema_types.specs.declared.types.ExtendedType.TheVariants.{Scalar, Enum}
use Rattle.gql_ast_base.specs.TypeParts.{named_type}

-- a field: the type of its set, its name, its definition if it has one, whether it has selections, and its place
pub record FieldNode : Type 0 where
  pub ty : Named
  pub name : Named
  pub definition : Option FieldDefinition
  pub selects : Bool
  pub location : Option Span

-- a field, or an inline fragment by its condition
pub data Node : Type 0 where
  field : FieldNode → Node
  inline_fragment : Option Named → Node

abbrev pub is_scalar : ExtendedType → Bool
is_scalar (Scalar _) = true
is_scalar _ = false

abbrev pub is_enum : ExtendedType → Bool
is_enum (Enum _) = true
is_enum _ = false

-- has a type no fields: is it a scalar or an enum?
abbrev pub is_leaf : ExtendedType → Bool
is_leaf (Scalar _) = true
is_leaf (Enum _) = true
is_leaf _ = false

-- what a type of the schema is, by the innermost name of a reference to it
abbrev pub is_of : (ExtendedType → Bool) → Schema → TypeRef → Bool
is_of kind schema ty = option_map_or kind (type_called (named_type ty).text schema.types) false

abbrev pub is_defined : Schema → Named → Bool
is_defined schema name = is_some (type_called name.text schema.types)

-- the type of what is inside an inline fragment: its condition, or that of the set around it
abbrev pub type_inside : Named → Option Named → Named
type_inside ty condition = option_map_or (λ (name : Named). name) condition ty

-- is the condition defined, where there is one?
abbrev pub is_open : Schema → Option Named → Bool
is_open schema condition = option_map_or (is_defined schema) condition true

abbrev pub is_nonempty : {X : Type 0} → List X → Bool
is_nonempty [] = false
is_nonempty (x ∷ xs) = true

-- for each type of a set, the nodes in it
abbrev pub Nodes : Type 0
Nodes = Named → List Node

abbrev pub nodes_in : Named → List Nodes → List Node
nodes_in ty selections = flat_map (λ nodes. nodes ty) selections

module _ (schema : Schema) where
  -- the nodes below a field of this definition
  abbrev pub nodes_below : FieldDefinition → List Nodes → List Node
  nodes_below definition selections = if is_of is_leaf schema definition.ty then [] else nodes_in (named_type definition.ty) selections

  abbrev pub field_step : Field-F Nodes Nodes Nodes → Nodes
  field_step it ty =
      field (record {
        ty = ty;
        name = it.name;
        definition = field_of schema ty.text it.name.text;
        selects = is_nonempty it.selection_set;
        location = it.location;
      })
      ∷ option_map_or (λ definition. nodes_below definition it.selection_set) (field_of schema ty.text it.name.text) []

  abbrev pub inline_step : InlineFragment-F Nodes Nodes Nodes → Nodes
  inline_step it ty =
      inline_fragment it.type_condition ∷ (if is_open schema it.type_condition then nodes_in (type_inside ty it.type_condition) it.selection_set else [])

  abbrev pub selection_step : Selection-F Nodes Nodes Nodes → Nodes
  selection_step (Selection-F.Field nodes) ty = nodes ty
  selection_step (Selection-F.FragmentSpread _) ty = []
  selection_step (Selection-F.InlineFragment nodes) ty = nodes ty

  -- those of one selection
  abbrev pub nodes_of : Selection → Nodes
  nodes_of = fold-Selection Nodes Nodes Nodes selection_step field_step inline_step

  -- those of a set of selections on a type
  abbrev pub nodes : Named → List Selection → List Node
  nodes ty selections = nodes_in ty (map nodes_of selections)
