-- A small schema, to see what the definitions say of it.
use Rattle.std.specs.Prelude.{false, List, [], ◌∷◌, codes, Some, None}
use Rattle.gql_ast_base.specs.Names.{Named}
use Rattle.gql_ast_base.specs.declared.operation_type.OperationType.TheVariants.{Query}
use Rattle.gql_ast.specs.declared.schema_definition.DirectiveLocation.TheVariants as at
use Rattle.gql_print_laws.specs.Literal.{string}
use Rattle.gql_sdl.specs.declared.shown.ShownDirective.{ShownDirective}
use Rattle.gql_sdl.specs.declared.shown.ShownEnumValue.{ShownEnumValue}
use Rattle.gql_sdl.specs.declared.shown.ShownSchema.{ShownSchema}
use Rattle.gql_sdl.specs.declared.shown.ShownType.{ShownType}
use Rattle.gql_sdl.specs.declared.shown.TypeKind.{TypeKind}
use Rattle.gql_sdl.specs.declared.shown.TypeKind.TheVariants.{Scalar, Enum}
use Rattle.gql_print_laws.specs.Plain.{Text, EnumValue, Plain, schema, directive, named_type}
use Rattle.gql_print_laws.specs.Told.{use_with}

abbrev pub named : Text → Named
named text = record { text = text; location = None }

-- LEFT @deprecated(reason: "late")
abbrev pub left : ShownEnumValue
left = record { description = None; name = named (codes "LEFT"); deprecation = Some (record { reason = Some (codes "late") }) }

abbrev pub right : ShownEnumValue
right = record { description = None; name = named (codes "RIGHT"); deprecation = None }

-- a type of the kind with these values, and nothing else
abbrev pub type_with : TypeKind → Text → List ShownEnumValue → ShownType
type_with kind name values = record {
  description = None;
  kind = kind;
  name = named name;
  specified_by_url = None;
  is_one_of = false;
  fields = [];
  input_fields = [];
  interfaces = [];
  possible_types = [];
  enum_values = values;
}

-- @d on FIELD
abbrev pub on_field : ShownDirective
on_field = record { description = Some (codes "Any"); name = named (codes "d"); is_repeatable = false; locations = at.Field ∷ []; arguments = [] }

-- with `Int`, which is built in
abbrev pub sides : ShownSchema
sides = record {
  description = None;
  query = named (codes "Q");
  mutation = None;
  subscription = None;
  types = type_with Scalar (codes "Int") [] ∷ type_with Enum (codes "Side") (left ∷ right ∷ []) ∷ [];
  directives = on_field ∷ [];
}

abbrev pub value_told : Text → EnumValue
value_told name = record { description = None; name = name; uses = [] }

abbrev pub left_told : EnumValue
left_told = record { description = None; name = codes "LEFT"; uses = use_with (codes "deprecated") (codes "reason") (string (codes "late")) ∷ [] }

abbrev pub roots_of_sides : Plain
roots_of_sides = schema (record { description = None; uses = []; operations = (Query, codes "Q") ∷ [] })

abbrev pub directive_of_sides : Plain
directive_of_sides = directive (record { description = Some (codes "Any"); name = codes "d"; arguments = []; repeatable = false; locations = at.Field ∷ [] })

abbrev pub type_of_sides : Plain
type_of_sides = named_type (record {
  kind = Enum;
  description = None;
  name = codes "Side";
  uses = [];
  interfaces = [];
  fields = [];
  members = [];
  values = left_told ∷ value_told (codes "RIGHT") ∷ [];
  inputs = [];
})
