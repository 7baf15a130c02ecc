-- What is shown of a schema, said by definitions: section 3 of GraphQL October 2021. A deprecation, an URL and that an input
-- object takes one field alone are said by the uses of directives.
use Rattle.std.specs.Prelude.{Bool, true, false, List, [], ◌∷◌, ◌++◌, map, codes, Option, Some, None}
use Rattle.std.specs.List.{flat_map}
use Rattle.gql_ast.specs.TypeText.{type_text}
use Rattle.gql_ast_base.specs.Names.{Named}
use Rattle.gql_ast_base.specs.declared.operation_type.OperationType.{OperationType}
use Rattle.gql_ast_base.specs.declared.operation_type.OperationType.TheVariants.{Query, Mutation, Subscription}
use Rattle.gql_ast_laws.specs.Printed.{unplaced}
use Rattle.gql_print_laws.specs.Literal.{Literal, null, string}
use Rattle.gql_sdl.specs.Schemas.{is_directive_name, is_built_in}
use Rattle.gql_sdl.specs.declared.shown.Deprecation.{Deprecation}
use Rattle.gql_sdl.specs.declared.shown.ShownDirective.{ShownDirective}
use Rattle.gql_sdl.specs.declared.shown.ShownEnumValue.{ShownEnumValue}
use Rattle.gql_sdl.specs.declared.shown.ShownField.{ShownField}
use Rattle.gql_sdl.specs.declared.shown.ShownInput.{ShownInput}
use Rattle.gql_sdl.specs.declared.shown.ShownSchema.{ShownSchema}
use Rattle.gql_sdl.specs.declared.shown.ShownType.{ShownType}
use Rattle.gql_sdl.specs.declared.shown.TypeKind.{TypeKind}
use Rattle.gql_sdl.specs.declared.shown.TypeKind.TheVariants.{Scalar, Object, Interface, Union, Enum, InputObject}
use Rattle.gql_print_laws.specs.Plain as plain
use Rattle.gql_print_laws.specs.Plain.{Text, Use, Input, Field, EnumValue, NamedType, bare_type, Directive, Roots, Plain}

abbrev pub reason_value : Option Text → Literal
reason_value None = null
reason_value (Some text) = string text

-- a use of a directive with one argument
abbrev pub use_with : Text → Text → Literal → Use
use_with name argument value = record { name = name; arguments = (argument, value) ∷ [] }

-- `@deprecated`, with the reason or null
abbrev pub deprecation_uses : Option Deprecation → List Use
deprecation_uses None = []
deprecation_uses (Some deprecation) = use_with (codes "deprecated") (codes "reason") (reason_value deprecation.reason) ∷ []

abbrev pub url_uses : Option Text → List Use
url_uses None = []
url_uses (Some url) = use_with (codes "specifiedBy") (codes "url") (string url) ∷ []

abbrev pub one_of_uses : Bool → List Use
one_of_uses true = record { name = codes "oneOf"; arguments = [] } ∷ []
one_of_uses false = []

abbrev pub input_told : ShownInput → Input
input_told it = record {
  description = it.description;
  name = it.name.text;
  ty = unplaced it.ty;
  default = it.default_value;
  uses = deprecation_uses it.deprecation;
}

abbrev pub field_told : ShownField → Field
field_told it = record {
  description = it.description;
  name = it.name.text;
  arguments = map input_told it.arguments;
  ty = unplaced it.ty;
  uses = deprecation_uses it.deprecation;
}

abbrev pub enum_value_told : ShownEnumValue → EnumValue
enum_value_told it = record { description = it.description; name = it.name.text; uses = deprecation_uses it.deprecation }

-- a type of the kind, with the parts that are not empty
abbrev pub type_of : TypeKind → ShownType → NamedType
type_of kind it = bare_type kind it.description it.name.text []

abbrev pub type_told : TypeKind → ShownType → NamedType
type_told Scalar it = record (type_of Scalar it) { uses = url_uses it.specified_by_url }
type_told Object it = record (type_of Object it) { interfaces = map type_text it.interfaces; fields = map field_told it.fields }
type_told Interface it = record (type_of Interface it) { interfaces = map type_text it.interfaces; fields = map field_told it.fields }
type_told Union it = record (type_of Union it) { members = map type_text it.possible_types }
type_told Enum it = record (type_of Enum it) { values = map enum_value_told it.enum_values }
type_told InputObject it = record (type_of InputObject it) { uses = one_of_uses it.is_one_of; inputs = map input_told it.input_fields }

abbrev pub named_type_told : ShownType → Plain
named_type_told it = plain.named_type (type_told it.kind it)

abbrev pub directive_told : ShownDirective → Plain
directive_told it = plain.directive (record {
  description = it.description;
  name = it.name.text;
  arguments = map input_told it.arguments;
  repeatable = it.is_repeatable;
  locations = it.locations;
})

abbrev pub root_told : OperationType → Option Named → List (OperationType × Text)
root_told operation None = []
root_told operation (Some name) = (operation, name.text) ∷ []

abbrev pub roots_told : ShownSchema → Plain
roots_told it = plain.schema (record {
  description = it.description;
  uses = [];
  operations = (Query, it.query.text) ∷ (root_told Mutation it.mutation ++ root_told Subscription it.subscription);
})

-- what is built in is not written
abbrev pub unless : Bool → Plain → List Plain
unless true it = []
unless false it = it ∷ []

abbrev pub directive_line_told : ShownDirective → List Plain
directive_line_told it = unless (is_directive_name it.name.text) (directive_told it)

abbrev pub type_line_told : ShownType → List Plain
type_line_told it = unless (is_built_in it) (named_type_told it)

-- the definition of the schema, those of its directives, and those of its types
abbrev pub schema_told : ShownSchema → List Plain
schema_told it = roots_told it ∷ (flat_map directive_line_told it.directives ++ flat_map type_line_told it.types)
