-- Definitions as texts: sections 3.5 to 3.10 and 3.13 of GraphQL October 2021.
use Rattle.std.specs.Prelude.{ℕ, Bool, List, [], ◌∷◌, ◌++◌, map, codes, Option, Some, None}
use Rattle.gql_ast.specs.Schemas.{location_name}
use Rattle.gql_ast.specs.declared.schema_definition.DirectiveLocation.{DirectiveLocation}
use Rattle.gql_sdl.specs.Forms.{described, string_text, arguments_text, field_text, enum_value_text, input_text, implements_text, members_text}
use Rattle.gql_sdl.specs.Pieces.{block, joined, between_if}
use Rattle.gql_sdl.specs.declared.shown.ShownDirective.{ShownDirective}
use Rattle.gql_sdl.specs.declared.shown.ShownType.{ShownType}
use Rattle.gql_sdl.specs.declared.shown.TypeKind.{TypeKind}
use Rattle.gql_sdl.specs.declared.shown.TypeKind.TheVariants.{Scalar, Object, Interface, Union, Enum, InputObject}

-- ` @specifiedBy(url: "..")`
abbrev pub url_text : List ℕ → List ℕ
url_text url = codes " @specifiedBy(url: " ++ (string_text url ++ codes ")")

abbrev pub specified_by : Option (List ℕ) → List ℕ
specified_by None = []
specified_by (Some url) = url_text url

-- interfaces and fields, of an object type and of an interface type alike
abbrev pub fields_text : ShownType → List ℕ
fields_text ty = implements_text ty.interfaces ++ block (map field_text ty.fields)

-- the keyword of a kind
abbrev pub keyword : TypeKind → List ℕ
keyword Scalar = codes "scalar "
keyword Object = codes "type "
keyword Interface = codes "interface "
keyword Union = codes "union "
keyword Enum = codes "enum "
keyword InputObject = codes "input "

-- what stands behind the name
abbrev pub body_text : TypeKind → ShownType → List ℕ
body_text Scalar ty = specified_by ty.specified_by_url
body_text Object ty = fields_text ty
body_text Interface ty = fields_text ty
body_text Union ty = members_text ty.possible_types
body_text Enum ty = block (map enum_value_text ty.enum_values)
body_text InputObject ty = between_if (codes " @oneOf") ty.is_one_of ++ block (map input_text ty.input_fields)

abbrev pub type_definition_text : ShownType → List ℕ
type_definition_text ty = described ty.description ++ (keyword ty.kind ++ (ty.name.text ++ body_text ty.kind ty))

-- ` on X | Y`
abbrev pub locations_text : List DirectiveLocation → List ℕ
locations_text [] = codes " on"
locations_text (location ∷ locations) = codes " on " ++ joined (codes " | ") (map location_name (location ∷ locations))

-- `directive @d`
abbrev pub directive_head : ShownDirective → List ℕ
directive_head directive = described directive.description ++ (codes "directive @" ++ directive.name.text)

abbrev pub directive_text : ShownDirective → List ℕ
directive_text directive =
    directive_head directive ++ (arguments_text directive.arguments ++ (between_if (codes " repeatable") directive.is_repeatable
    ++ locations_text directive.locations))
