-- What can be written of a schema and read again: names are names, defaults are the texts of constant values, and neither these nor
-- types are nested deeper than a parser reads.
use Rattle.std.specs.Prelude.{◌≡◌, ◌<◌, ◌≤◌, Bool, true, false, List, [], ◌∷◌, length, Option, Some, None}
use Rattle.gql_ast.specs.TypeText.{type_text}
use Rattle.gql_ast.specs.ValueText.{value_text}
use Rattle.gql_ast_base.specs.Names.{Named, is_name}
use Rattle.gql_ast_base.specs.declared.type_ref.TypeRef.{TypeRef}
use Rattle.gql_ast_base.specs.declared.value.Value.{Value}
use Rattle.gql_ast_laws.specs.Printed.{has_names}
use Rattle.gql_cst.specs.Words.{word_of}
use Rattle.gql_grammar.specs.Word.{takes}
use Rattle.gql_grammar.specs.declared.symbol.Terminal.TheVariants.{NameButLiteral}
use Rattle.gql_print_laws.specs.Literal.{literal_in}
use Rattle.gql_print_laws.specs.Written.{IsConstant}
use Rattle.gql_sdl.specs.Schemas.{is_directive_name, is_built_in}
use Rattle.gql_sdl.specs.declared.shown.ShownDirective.{ShownDirective}
use Rattle.gql_sdl.specs.declared.shown.ShownEnumValue.{ShownEnumValue}
use Rattle.gql_sdl.specs.declared.shown.ShownField.{ShownField}
use Rattle.gql_sdl.specs.declared.shown.ShownInput.{ShownInput}
use Rattle.gql_sdl.specs.declared.shown.ShownSchema.{ShownSchema}
use Rattle.gql_sdl.specs.declared.shown.ShownType.{ShownType}
use Rattle.gql_sdl.specs.declared.shown.TypeKind.{TypeKind}
use Rattle.gql_sdl.specs.declared.shown.TypeKind.TheVariants.{Scalar, Object, Interface, Union, Enum, InputObject}
use Rattle.gql_print_laws.specs.Depth.{most_levels, literal_depth, type_depth}
use Rattle.gql_print_laws.specs.Plain.{Text}

-- P holds of each
abbrev pub Each : {X : Type 0} → (X → Type 0) → List X → Type 0
Each P [] = Unit {0}
Each P (x ∷ xs) = P x × Each P xs

-- what is written of some constant value
pub record IsConstantText (text : Text) : Type 0 where
  pub value : Value
  pub constant : IsConstant (literal_in value)
  pub is : text ≡ value_text value
  pub shallow : literal_depth (literal_in value) ≤ most_levels

abbrev pub IsDefault : Option Text → Type 0
IsDefault None = Unit {0}
IsDefault (Some text) = IsConstantText text

pub record IsInput (it : ShownInput) : Type 0 where
  pub named : is_name it.name.text ≡ true
  pub typed : has_names it.ty ≡ true
  pub shallow : type_depth it.ty ≤ most_levels
  pub constant : IsDefault it.default_value

pub record IsField (it : ShownField) : Type 0 where
  pub named : is_name it.name.text ≡ true
  pub arguments : Each IsInput it.arguments
  pub typed : has_names it.ty ≡ true
  pub shallow : type_depth it.ty ≤ most_levels

-- no `true`, `false` or `null` (section 3.9)
pub record IsEnumValue (it : ShownEnumValue) : Type 0 where
  pub named : is_name it.name.text ≡ true
  pub other : takes NameButLiteral (word_of it.name.text) ≡ true

-- a reference that is a name, without a wrapper
abbrev pub IsReference : TypeRef → Type 0
IsReference ty = is_name (type_text ty) ≡ true

-- the parts that a type of the kind has
abbrev pub IsBody : TypeKind → ShownType → Type 0
IsBody Scalar it = Unit {0}
IsBody Object it = Each IsReference it.interfaces × Each IsField it.fields
IsBody Interface it = Each IsReference it.interfaces × Each IsField it.fields
IsBody Union it = Each IsReference it.possible_types
IsBody Enum it = Each IsEnumValue it.enum_values
IsBody InputObject it = Each IsInput it.input_fields

pub record IsType (it : ShownType) : Type 0 where
  pub named : is_name it.name.text ≡ true
  pub body : IsBody it.kind it

-- a directive has a location (section 3.13)
pub record IsDirective (it : ShownDirective) : Type 0 where
  pub named : is_name it.name.text ≡ true
  pub arguments : Each IsInput it.arguments
  pub some : 0 < length it.locations

abbrev pub IsRoot : Option Named → Type 0
IsRoot None = Unit {0}
IsRoot (Some name) = is_name name.text ≡ true

-- what is built in is not written
abbrev pub Unless : Bool → Type 0 → Type 0
Unless true A = Unit {0}
Unless false A = A

abbrev pub IsDirectiveLine : ShownDirective → Type 0
IsDirectiveLine it = Unless (is_directive_name it.name.text) (IsDirective it)

abbrev pub IsTypeLine : ShownType → Type 0
IsTypeLine it = Unless (is_built_in it) (IsType it)

pub record AreRoots (it : ShownSchema) : Type 0 where
  pub query : is_name it.query.text ≡ true
  pub mutation : IsRoot it.mutation
  pub subscription : IsRoot it.subscription

pub record IsSchema (it : ShownSchema) : Type 0 where
  pub roots : AreRoots it
  pub directives : Each IsDirectiveLine it.directives
  pub types : Each IsTypeLine it.types
