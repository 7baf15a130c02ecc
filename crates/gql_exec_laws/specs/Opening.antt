-- A list of objects of one type, and the ways that are opened there.
use Rattle.std.specs.Prelude.{ℕ, zero, suc, List, [], ◌∷◌, codes}
use Rattle.gql_ast_base.specs.declared.type_ref.TypeRef.TheVariants as ty
use Rattle.gql_ast.specs.declared.field_definition.FieldDefinition.{FieldDefinition}
use Rattle.gql_document_types.specs.declared.selection.Selection.{Selection}
use Rattle.gql_schema_types.specs.MetaFields.{named}
use Rattle.gql_schema_types.specs.declared.types.ObjectType.{ObjectType}
use Rattle.gql_resolvers.specs.Resolved.{Meaning, Meanings, gives_object, gives_list, no_answer, answer_then}
use Rattle.gql_exec.specs.Opened.{Way, Opens}
use Rattle.gql_exec.specs.Request.{Request}
use Rattle.gql_exec.specs.RequestWorld.{plain_world}
use Rattle.gql_exec_laws.specs.Example.{Thing, root, inner}
use Rattle.gql_exec_laws.specs.Examples.{number, y}
use Rattle.gql_exec_laws.specs.Parts.{schema, object, plain, select}

-- type Query { l: [A] } type A { y: Int }
abbrev pub l : FieldDefinition
l = plain (codes "l") (ty.List (ty.Named (named (codes "A"))))

abbrev pub objects_query : ObjectType
objects_query = object (codes "Query") (l ∷ [])

abbrev pub item : ObjectType
item = object (codes "A") (y ∷ [])

-- so many objects
abbrev pub things : ℕ → Meanings Thing
things zero = no_answer
things (suc n) = answer_then (gives_object inner) (things n)

abbrev pub of_thing : ℕ → Thing → Meaning Thing
of_thing n root = gives_list (things n)
of_thing n inner = number 1

abbrev pub objects : ℕ → Request Thing
objects n = record {
  schema = schema (objects_query ∷ item ∷ []);
  sources = [];
  fragments = [];
  variables = [];
  type_of = λ thing. codes "A";
  answers = λ U thing f arguments. of_thing n thing;
}

-- { l { y } }
abbrev pub within_items : List Selection
within_items = select 6 y [] ∷ []

abbrev pub of_items : List Selection
of_items = select 2 l within_items ∷ []

-- a way is opened where the list has so many objects
abbrev pub IsOpened : ℕ → Way ObjectType → Type 0
IsOpened n way = Opens (plain_world (objects n)) way objects_query root (of_items ∷ [])

abbrev pub to_items : Way ObjectType
to_items = (codes "l", item) ∷ []
