-- Where variables are used, and what is wanted there: section 5.8 of GraphQL October 2021.
use Rattle.std.specs.Prelude.{ℕ, ◌==◌, Bool, false, List, [], ◌∷◌, ◌++◌, length, Option, Some, None, is_some, if◌then◌else◌}
use Rattle.std.specs.List.{flat_map}
use Rattle.std.specs.Option.{option_and_then, option_map_or}
use Rattle.gql_source.specs.Span.{Span}
use Rattle.gql_ast_base.specs.Names.{Named}
use Rattle.gql_ast.specs.declared.field_definition.InputValueDefinition.{InputValueDefinition}
use Rattle.gql_ast.specs.declared.schema_definition.DirectiveDefinition.{DirectiveDefinition}
use Rattle.gql_ast_base.specs.declared.directive.Argument.{Argument}
use Rattle.gql_ast_base.specs.declared.directive.Directive.{Directive}
use Rattle.gql_ast_base.specs.declared.type_ref.TypeRef.{TypeRef}
use Rattle.gql_ast_base.specs.declared.value.Value.{Value, fold-Value}
use Rattle.gql_ast_base.specs.declared.value.ValueKind.TheOpen.{ValueKind-F, Value-F}
use Rattle.gql_document_types.specs.declared.fragment.Fragment.{Fragment}
use Rattle.gql_document_types.specs.declared.operation.Operation.{Operation}
use Rattle.gql_ast_base.specs.TypeParts.{named_type, item_type}
use Rattle.gql_rules_nodes.specs.Nodes.{Node, operation, fragment, field, spread, inline_fragment, operation_nodes, fragment_nodes}
use Rattle.gql_rules_values.specs.OneOfValue.{has_one_key}
use Rattle.gql_rules_values.specs.UndefinedInputValue.{input_name}
use Rattle.gql_rules_values.specs.UniqueDirective.{directive_name}
use Rattle.gql_schema_types.specs.Entries.{entry}
use Rattle.gql_schema_types.specs.Types.{type_called, is_one_of}
use Rattle.gql_schema_types.specs.declared.schema.Schema.{Schema}
use Rattle.gql_schema_types.specs.declared.types.ExtendedType.{ExtendedType}
use Rattle.gql_schema_types.specs.declared.types.ExtendedType.TheVariants as type

-- what is wanted where a value stands: its type, if one is known, and whether an argument or input field with a default stands there; the name
-- of the one-of input object whose one member the value is, if it is one; and the place of the object literal that it is a member of
pub record Place : Type 0 where
  pub ty : Option TypeRef
  pub has_default : Bool
  pub one_of : Option Named
  pub literal : Option Span

-- a use of a variable: the whole `$name` and its place in the text
pub record Use : Type 0 where
  pub name : Named
  pub place : Place
  pub location : Option Span

-- an argument or an input field, if it is defined
abbrev pub input_place : Option InputValueDefinition → Option Named → Option Span → Place
input_place None one_of literal = record { ty = None; has_default = false; one_of = one_of; literal = literal }
input_place (Some definition) one_of literal =
    record { ty = Some definition.ty; has_default = is_some definition.default_value; one_of = one_of; literal = literal }

-- an item, where a list is wanted; it has no default
abbrev pub item_place : Place → Place
item_place place = record { ty = option_and_then item_type place.ty; has_default = false; one_of = None; literal = None }

-- a field of an input object type
abbrev pub field_of : List ℕ → ExtendedType → Option InputValueDefinition
field_of key (type.InputObject it) = entry input_name key it.fields
field_of key _ = None

-- the name of a one-of input object
abbrev pub one_of_name : ExtendedType → Option Named
one_of_name (type.InputObject it) = if is_one_of it then Some it.name else None
one_of_name _ = None

-- of members the last one alone: of a key that is repeated it counts
abbrev pub of_last : {O : Type 0} → ℕ → Option O → Option O
of_last left one_of = if left == 0 then one_of else None

-- for the place of a value, the uses in it
abbrev pub ValueUses : Type 0
ValueUses = Place → List Use

-- for the location of a value too
abbrev pub KindUses : Type 0
KindUses = Option Span → Place → List Use

module _ (types : List ExtendedType) where
  abbrev pub member_definition : List ℕ → TypeRef → Option InputValueDefinition
  member_definition key ty = option_and_then (field_of key) (type_called (named_type ty).text types)

  -- what is wanted of a key's value, where an input object is wanted
  abbrev pub member_place : Place → Named → Option Named → Option Span → Place
  member_place place key one_of literal = input_place (option_and_then (member_definition key.text) place.ty) one_of literal

  -- the name of the one-of input object that is wanted, within all lists
  abbrev pub wanted_one_of : TypeRef → Option Named
  wanted_one_of ty = option_and_then one_of_name (type_called (named_type ty).text types)

  abbrev pub one_of_wanted : Place → Option Named
  one_of_wanted place = option_and_then wanted_one_of place.ty

  -- the same where an object literal stands there that has one key
  abbrev pub one_of_literal : {X : Type 0} → Place → List (Named × X) → Option Named
  one_of_literal place members = if has_one_key members then one_of_wanted place else None

  abbrev pub items_uses : Place → List ValueUses → List Use
  items_uses place items = flat_map (λ uses. uses (item_place place)) items

  -- in members of a literal of this place, of which the last may be the one of a one-of input object
  abbrev pub each_uses : Option Span → Place → Option Named → List (Named × ValueUses) → List Use
  each_uses literal place one_of [] = []
  each_uses literal place one_of (member ∷ rest) =
      member.1 (member_place place member.0 (of_last (length rest) one_of) literal) ++ each_uses literal place one_of rest

  abbrev pub members_uses : Option Span → Place → List (Named × ValueUses) → List Use
  members_uses literal place members = each_uses literal place (one_of_literal place members) members

  abbrev pub kind_step : ValueKind-F KindUses ValueUses → KindUses
  kind_step (ValueKind-F.Variable name) location place = record { name = name; place = place; location = location } ∷ []
  kind_step (ValueKind-F.List items) location place = items_uses place items
  kind_step (ValueKind-F.Object members) location place = members_uses location place members
  kind_step _ location place = []

  abbrev pub value_step : Value-F KindUses ValueUses → ValueUses
  value_step value place = value.kind value.location place

  -- the uses in a value, those inside lists and input objects too
  abbrev pub value_uses : Value → ValueUses
  value_uses = fold-Value KindUses ValueUses kind_step value_step

  -- those in arguments that have these definitions
  abbrev pub argument_uses : List InputValueDefinition → Argument → List Use
  argument_uses definitions argument = value_uses argument.value (input_place (entry input_name argument.name.text definitions) None None)

  abbrev pub arguments_uses : List InputValueDefinition → List Argument → List Use
  arguments_uses definitions arguments = flat_map (argument_uses definitions) arguments

-- the arguments of a directive that is defined
abbrev pub directive_arguments : List ℕ → List DirectiveDefinition → List InputValueDefinition
directive_arguments name definitions =
    option_map_or (λ (definition : DirectiveDefinition). definition.arguments) (entry directive_name name definitions) []

module _ (schema : Schema) where
  abbrev pub directive_uses : Directive → List Use
  directive_uses used = arguments_uses schema.types (directive_arguments used.name.text schema.directive_definitions) used.arguments

  abbrev pub directives_uses : List Directive → List Use
  directives_uses directives = flat_map directive_uses directives

  -- the uses at a node of a document, apart from those of what is selected in it
  abbrev pub node_uses : Node → List Use
  node_uses (operation node) = directives_uses node.directives
  node_uses (fragment node) = directives_uses node.directives
  node_uses (field node) = arguments_uses schema.types node.definition.arguments node.arguments ++ directives_uses node.directives
  node_uses (spread node) = directives_uses node.directives
  node_uses (inline_fragment node) = directives_uses node.directives

  -- those of an operation without the fragments that it spreads, and those of a fragment
  abbrev pub operation_uses : Operation → List Use
  operation_uses it = flat_map node_uses (operation_nodes it)

  abbrev pub fragment_uses : Fragment → List Use
  fragment_uses it = flat_map node_uses (fragment_nodes it)
