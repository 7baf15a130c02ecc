-- What definitions say, the places aside that they were read from: section 3 of GraphQL October 2021.
use Rattle.std.specs.Prelude.{ℕ, Bool, List, [], Option}
use Rattle.gql_ast_base.specs.declared.operation_type.OperationType.{OperationType}
use Rattle.gql_ast_base.specs.declared.type_ref.TypeRef.{TypeRef}
use Rattle.gql_ast.specs.declared.schema_definition.DirectiveLocation.{DirectiveLocation}
use Rattle.gql_print_laws.specs.Literal.{Literal}
use Rattle.gql_sdl.specs.declared.shown.TypeKind.{TypeKind}

abbrev pub Text : Type 0
Text = List ℕ

-- an argument: its name and its value
abbrev pub Argument : Type 0
Argument = Text × Literal

-- a directive where it is used (section 2.12)
pub record Use : Type 0 where
  pub name : Text
  pub arguments : List Argument

-- an argument of a field or a directive, or a field of an input object; the default is what is written of it
pub record Input : Type 0 where
  pub description : Option Text
  pub name : Text
  pub ty : TypeRef
  pub default : Option Text
  pub uses : List Use

pub record Field : Type 0 where
  pub description : Option Text
  pub name : Text
  pub arguments : List Input
  pub ty : TypeRef
  pub uses : List Use

pub record EnumValue : Type 0 where
  pub description : Option Text
  pub name : Text
  pub uses : List Use

-- a type; the parts that its kind does not have are empty
pub record NamedType : Type 0 where
  pub kind : TypeKind
  pub description : Option Text
  pub name : Text
  pub uses : List Use
  pub interfaces : List Text
  pub fields : List Field
  pub members : List Text
  pub values : List EnumValue
  pub inputs : List Input

-- a type of the kind without any of the parts that only some kinds have
abbrev pub bare_type : TypeKind → Option Text → Text → List Use → NamedType
bare_type kind description name uses = record {
  kind = kind;
  description = description;
  name = name;
  uses = uses;
  interfaces = [];
  fields = [];
  members = [];
  values = [];
  inputs = [];
}

pub record Directive : Type 0 where
  pub description : Option Text
  pub name : Text
  pub arguments : List Input
  pub repeatable : Bool
  pub locations : List DirectiveLocation

-- the root types: each operation with the name of its type
pub record Roots : Type 0 where
  pub description : Option Text
  pub uses : List Use
  pub operations : List (OperationType × Text)

pub data Plain : Type 0 where
  schema : Roots → Plain
  directive : Directive → Plain
  named_type : NamedType → Plain
  -- an operation, a fragment or an extension, of which nothing is told here
  other : Plain
