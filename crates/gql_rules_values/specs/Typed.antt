-- A literal and the values inside it, each with the type that is wanted there, if one is known: sections 3.10 and 5.6 of GraphQL October 2021.
use Rattle.std.specs.Prelude.{ℕ, Option, None, List, [], ◌∷◌, ◌++◌}
use Rattle.std.specs.Option.{option_and_then, option_map}
use Rattle.gql_ast_base.specs.Names.{Named}
use Rattle.gql_ast_base.specs.declared.type_ref.TypeRef.{TypeRef}
use Rattle.gql_ast_base.specs.declared.value.Value.{Value}
use Rattle.gql_ast_base.specs.declared.value.ValueKind.{ValueKind, out-ValueKind, fold-ValueKind}
use Rattle.gql_ast_base.specs.declared.value.ValueKind.TheOpen.{ValueKind-F, Value-F}
use Rattle.gql_ast_base.specs.TypeParts.{named_type, item_type}
use Rattle.gql_rules_values.specs.UndefinedInputValue.{input_name}
use Rattle.gql_schema_types.specs.Entries.{entry}
use Rattle.gql_schema_types.specs.Types.{type_called}
use Rattle.gql_schema_types.specs.declared.types.ExtendedType.{ExtendedType}
use Rattle.gql_schema_types.specs.declared.types.ExtendedType.TheVariants as type

-- a value, with the type that is wanted where it stands
pub record Typed : Type 0 where
  pub ty : Option TypeRef
  pub literal : Value

-- the type of an input object's field
abbrev pub field_type : List ℕ → ExtendedType → Option TypeRef
field_type key (type.InputObject it) = option_map (λ field. field.ty) (entry input_name key it.fields)
field_type key _ = None

abbrev pub member_type : List ExtendedType → List ℕ → TypeRef → Option TypeRef
member_type types key ty = option_and_then (field_type key) (type_called (named_type ty).text types)

abbrev pub items_level : ValueKind-F ValueKind Value → List Value
items_level (ValueKind-F.List items) = items
items_level _ = []

abbrev pub members_level : ValueKind-F ValueKind Value → List (Named × Value)
members_level (ValueKind-F.Object members) = members
members_level _ = []

-- the values right inside a list, and the pairs of an object
abbrev pub items_of : Value → List Value
items_of literal = items_level (out-ValueKind literal.kind)

abbrev pub members_of : Value → List (Named × Value)
members_of literal = members_level (out-ValueKind literal.kind)

-- the nodes of a value, from the type that is wanted and the value itself
abbrev pub Nodes : Type 0
Nodes = Option TypeRef → Value → List Typed

-- the nodes of each item, all at one type
abbrev pub of_items : List Nodes → Option TypeRef → List Value → List Typed
of_items (nodes ∷ rest) ty (item ∷ items) = nodes ty item ++ of_items rest ty items
of_items _ ty _ = []

-- the nodes of each pair's value, at the type of the pair's key
abbrev pub of_members : List (Named × Nodes) → (List ℕ → Option TypeRef) → List (Named × Value) → List Typed
of_members (nodes ∷ rest) type_of (member ∷ members) = nodes.1 (type_of member.0.text) member.1 ++ of_members rest type_of members
of_members _ type_of _ = []

module _ (types : List ExtendedType) where
  -- what is inside: an item is wanted at the item's type, and a pair's value at the type of the input object's field
  abbrev pub inside_step : ValueKind-F Nodes Nodes → Nodes
  inside_step (ValueKind-F.List items) ty literal = of_items items (option_and_then item_type ty) (items_of literal)
  inside_step (ValueKind-F.Object members) ty literal = of_members members (λ key. option_and_then (member_type types key) ty) (members_of literal)
  inside_step _ ty literal = []

  abbrev pub value_step : Value-F Nodes Nodes → Nodes
  value_step value ty literal = record { ty = ty; literal = literal } ∷ value.kind ty literal

  abbrev pub inside : ValueKind → Nodes
  inside = fold-ValueKind Nodes Nodes inside_step value_step

  -- a value and all inside it
  unfoldable pub typed : Option TypeRef → Value → List Typed
  typed ty literal = record { ty = ty; literal = literal } ∷ inside literal.kind ty literal
