-- A schema as a text: section 3 of GraphQL October 2021. Each definition stands in a line, first the schema's own, then those of
-- directives, then those of types, and those that are built in are left out.
use Rattle.std.specs.Prelude.{ℕ, Bool, true, false, not, ◌||◌, List, [], ◌∷◌, ◌++◌, codes, Option, Some, None}
use Rattle.std.specs.List.{flat_map, list_any}
use Rattle.std.specs.Str.{bytes_eq}
use Rattle.gql_ast_base.specs.Names.{Named, is_reserved}
use Rattle.gql_sdl.specs.Definitions.{type_definition_text, directive_text}
use Rattle.gql_sdl.specs.Forms.{described}
use Rattle.gql_sdl.specs.declared.shown.ShownDirective.{ShownDirective}
use Rattle.gql_sdl.specs.declared.shown.ShownSchema.{ShownSchema}
use Rattle.gql_sdl.specs.declared.shown.ShownType.{ShownType}
use Rattle.gql_sdl.specs.declared.shown.TypeKind.{TypeKind}
use Rattle.gql_sdl.specs.declared.shown.TypeKind.TheVariants.{Scalar, Object, Interface, Union, Enum, InputObject}

-- the names of the built-in directives (section 3.13, and `oneOf` of September 2025)
abbrev pub is_directive_name : List ℕ → Bool
is_directive_name name =
    bytes_eq name (codes "skip") || bytes_eq name (codes "include") || bytes_eq name (codes "deprecated")
    || bytes_eq name (codes "specifiedBy") || bytes_eq name (codes "oneOf")

-- the names of the built-in scalars (section 3.5)
abbrev pub is_scalar_name : List ℕ → Bool
is_scalar_name name =
    bytes_eq name (codes "Int") || bytes_eq name (codes "Float") || bytes_eq name (codes "String")
    || bytes_eq name (codes "Boolean") || bytes_eq name (codes "ID")

-- a scalar of such a name
abbrev pub is_built_in_scalar : TypeKind → List ℕ → Bool
is_built_in_scalar Scalar name = is_scalar_name name
is_built_in_scalar _ name = false

-- a type of introspection, or a built-in scalar
abbrev pub is_built_in : ShownType → Bool
is_built_in ty = is_reserved ty.name.text || is_built_in_scalar ty.kind ty.name.text

abbrev pub line : List ℕ → List ℕ
line text = text ++ codes "\n"

abbrev pub line_unless : Bool → List ℕ → List ℕ
line_unless true text = []
line_unless false text = line text

unfoldable pub directive_line : ShownDirective → List ℕ
directive_line directive = line_unless (is_directive_name directive.name.text) (directive_text directive)

unfoldable pub type_line : ShownType → List ℕ
type_line ty = line_unless (is_built_in ty) (type_definition_text ty)

-- ` mutation: M`
abbrev pub root_text : List ℕ → Option Named → List ℕ
root_text title None = []
root_text title (Some name) = title ++ name.text

-- `schema { query: Q`
abbrev pub roots_head : ShownSchema → List ℕ
roots_head schema = described schema.description ++ (codes "schema { query: " ++ schema.query.text)

-- `schema { query: Q mutation: M }`
abbrev pub roots_text : ShownSchema → List ℕ
roots_text schema =
    roots_head schema ++ (root_text (codes " mutation: ") schema.mutation
    ++ (root_text (codes " subscription: ") schema.subscription ++ codes " }"))

-- the definitions that say what is shown of a schema
abbrev pub schema_text : ShownSchema → List ℕ
schema_text schema = line (roots_text schema) ++ (flat_map directive_line schema.directives ++ flat_map type_line schema.types)
