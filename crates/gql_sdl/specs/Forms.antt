-- The parts of definitions as texts: section 3 of GraphQL October 2021.
use Rattle.std.specs.Prelude.{ℕ, List, [], ◌∷◌, ◌++◌, map, codes, Option, Some, None}
use Rattle.jb_print.specs.Quoted.{quoted}
use Rattle.gql_ast.specs.TypeText.{type_text}
use Rattle.gql_ast_base.specs.declared.type_ref.TypeRef.{TypeRef}
use Rattle.gql_sdl.specs.Pieces.{joined}
use Rattle.gql_sdl.specs.declared.shown.Deprecation.{Deprecation}
use Rattle.gql_sdl.specs.declared.shown.ShownEnumValue.{ShownEnumValue}
use Rattle.gql_sdl.specs.declared.shown.ShownField.{ShownField}
use Rattle.gql_sdl.specs.declared.shown.ShownInput.{ShownInput}

-- a string
unfoldable pub string_text : List ℕ → List ℕ
string_text text = quoted text

-- a description, which is a string, and the space behind it
abbrev pub described : Option (List ℕ) → List ℕ
described None = []
described (Some text) = string_text text ++ codes " "

abbrev pub reason_text : Option (List ℕ) → List ℕ
reason_text None = codes "null"
reason_text (Some text) = string_text text

-- `@deprecated` with its reason
abbrev pub deprecated : Option Deprecation → List ℕ
deprecated None = []
deprecated (Some deprecation) = codes " @deprecated(reason: " ++ (reason_text deprecation.reason ++ codes ")")

abbrev pub default_text : Option (List ℕ) → List ℕ
default_text None = []
default_text (Some text) = codes " = " ++ text

-- `a: T = 1`
abbrev pub input_text : ShownInput → List ℕ
input_text input =
    described input.description ++ (input.name.text ++ (codes ": " ++ (type_text input.ty ++ (default_text input.default_value
    ++ deprecated input.deprecation))))

-- `(a: T, b: U = 2)`
abbrev pub arguments_text : List ShownInput → List ℕ
arguments_text [] = []
arguments_text (input ∷ inputs) = codes "(" ++ (joined (codes ", ") (map input_text (input ∷ inputs)) ++ codes ")")

-- `f(a: T): V`
abbrev pub field_text : ShownField → List ℕ
field_text field =
    described field.description ++ (field.name.text ++ (arguments_text field.arguments ++ (codes ": " ++ (type_text field.ty
    ++ deprecated field.deprecation))))

abbrev pub enum_value_text : ShownEnumValue → List ℕ
enum_value_text value = described value.description ++ (value.name.text ++ deprecated value.deprecation)

-- ` implements A & B`
abbrev pub implements_text : List TypeRef → List ℕ
implements_text [] = []
implements_text (ty ∷ types) = codes " implements " ++ joined (codes " & ") (map type_text (ty ∷ types))

-- ` = A | B`
abbrev pub members_text : List TypeRef → List ℕ
members_text [] = []
members_text (ty ∷ types) = codes " = " ++ joined (codes " | ") (map type_text (ty ∷ types))
