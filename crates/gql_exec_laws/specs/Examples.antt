-- Worked examples of section 6.4.4 of GraphQL October 2021: what nulls which place.
use Rattle.std.specs.Prelude.{if◌then◌else◌, ℕ, List, [], ◌∷◌, ◌++◌, codes, pos}
use Rattle.std.specs.Str.{bytes_eq}
use Rattle.jb_tree.specs.declared.value.Value.TheVariants as json
use Rattle.gql_ast_base.specs.declared.type_ref.TypeRef.{TypeRef}
use Rattle.gql_ast_base.specs.declared.type_ref.TypeRef.TheVariants as ty
use Rattle.gql_ast.specs.declared.field_definition.FieldDefinition.{FieldDefinition}
use Rattle.gql_schema_types.specs.MetaFields.{named}
use Rattle.gql_schema_types.specs.declared.types.ObjectType.{ObjectType}
use Rattle.gql_resolvers.specs.Resolved.{Meaning, Meanings, gives_leaf, gives_object, gives_list, fails_with, no_answer, answer_then}
use Rattle.gql_exec_laws.specs.Parts.{schema, object, plain, select}
use Rattle.gql_exec_laws.specs.Example.{Example, Thing, root, inner}

abbrev pub int : TypeRef
int = ty.Named (named (codes "Int"))

abbrev pub number : ℕ → Meaning Thing
number n = gives_leaf (json.Number (pos n))

abbrev pub null : Meaning Thing
null = gives_leaf json.Null

-- ---- lists in which items fail

-- { f }, of this definition of f, which gives a list of these; the errors and the data
abbrev pub list_query : FieldDefinition → ObjectType
list_query f = object (codes "Query") (f ∷ [])

abbrev pub list_of : FieldDefinition → Meanings Thing → List ℕ → Example
list_of f items answer = record {
  schema = schema (list_query f ∷ []);
  query = codes "{ f }";
  root_type = list_query f;
  selections = select 2 f [] ∷ [];
  answers = λ thing name. gives_list items;
  answer = codes "{\"errors\":[" ++ answer;
}

-- type Query { f: [Int] }
abbrev pub f : FieldDefinition
f = plain (codes "f") (ty.List int)

abbrev pub failed_items : Example
failed_items =
    list_of f (answer_then (fails_with (codes "a")) (answer_then (number 42) (answer_then (fails_with (codes "b")) no_answer)))
    (codes "{\"message\":\"resolver error: a\",\"locations\":[{\"line\":1,\"column\":3}],\"path\":[\"f\",0]},"
    ++ (codes "{\"message\":\"resolver error: b\",\"locations\":[{\"line\":1,\"column\":3}],\"path\":[\"f\",2]}],"
    ++ codes "\"data\":{\"f\":[null,42,null]}}"))

-- type Query { f: [Int!] }
abbrev pub strict_f : FieldDefinition
strict_f = plain (codes "f") (ty.List (ty.NonNullNamed (named (codes "Int"))))

abbrev pub failed_strict_item : Example
failed_strict_item =
    list_of strict_f (answer_then (number 1) (answer_then (fails_with (codes "e")) (answer_then (fails_with (codes "never")) no_answer)))
    (codes "{\"message\":\"resolver error: e\",\"locations\":[{\"line\":1,\"column\":3}],\"path\":[\"f\",1]}],"
    ++ codes "\"data\":{\"f\":null}}")

-- ---- type Query { a: A } type A { x: Int! y: Int }, and no x

abbrev pub a : FieldDefinition
a = plain (codes "a") (ty.Named (named (codes "A")))

abbrev pub x : FieldDefinition
x = plain (codes "x") (ty.NonNullNamed (named (codes "Int")))

abbrev pub y : FieldDefinition
y = plain (codes "y") int

abbrev pub object_query : ObjectType
object_query = object (codes "Query") (a ∷ [])

abbrev pub inner_type : ObjectType
inner_type = object (codes "A") (x ∷ y ∷ [])

-- y of the inner object is this, and its x is null
abbrev pub without_x : Meaning Thing → Thing → List ℕ → Meaning Thing
without_x of_y root name = gives_object inner
without_x of_y inner name = if bytes_eq name (codes "y") then of_y else null

-- the error that x is null, and the data
abbrev pub without_x_text : List ℕ
without_x_text =
    codes "{\"message\":\"non-null type Int! resolved to null\",\"locations\":[{\"line\":1,\"column\":9}],\"path\":[\"a\",\"x\"]}],"
    ++ codes "\"data\":{\"a\":null}}"

-- y of the inner object is this, and these errors come before that of x
abbrev pub inner_null : Meaning Thing → List ℕ → Example
inner_null of_y errors = record {
  schema = schema (object_query ∷ inner_type ∷ []);
  query = codes "{ a { y x } }";
  root_type = object_query;
  selections = select 2 a (select 6 y [] ∷ select 8 x [] ∷ []) ∷ [];
  answers = without_x of_y;
  answer = codes "{\"errors\":[" ++ (errors ++ without_x_text);
}

abbrev pub null_alone : Example
null_alone = inner_null (number 1) []

abbrev pub null_behind : Example
null_behind =
    inner_null (fails_with (codes "e"))
    (codes "{\"message\":\"resolver error: e\",\"locations\":[{\"line\":1,\"column\":7}],\"path\":[\"a\",\"y\"]},")

-- ---- type Query { a: Int! b: Int }, and no a

abbrev pub strict : FieldDefinition
strict = plain (codes "a") (ty.NonNullNamed (named (codes "Int")))

abbrev pub b : FieldDefinition
b = plain (codes "b") int

abbrev pub strict_query : ObjectType
strict_query = object (codes "Query") (strict ∷ b ∷ [])

abbrev pub root_null : Example
root_null = record {
  schema = schema (strict_query ∷ []);
  query = codes "{ b a }";
  root_type = strict_query;
  selections = select 2 b [] ∷ select 4 strict [] ∷ [];
  answers = λ thing name. if bytes_eq name (codes "b") then number 1 else null;
  answer =
      codes "{\"errors\":[{\"message\":\"non-null type Int! resolved to null\",\"locations\":[{\"line\":1,\"column\":5}],\"path\":[\"a\"]}],"
      ++ codes "\"data\":null}";
}

-- ---- the sets of one key are one: type A { x: Int! y: Int } as above

abbrev pub both : Thing → List ℕ → Meaning Thing
both root name = gives_object inner
both inner name = if bytes_eq name (codes "y") then number 2 else number 1

abbrev pub merged : Example
merged = record {
  schema = schema (object_query ∷ inner_type ∷ []);
  query = codes "{ a { y } a { x y } }";
  root_type = object_query;
  selections = select 2 a (select 6 y [] ∷ []) ∷ select 10 a (select 14 x [] ∷ select 16 y [] ∷ []) ∷ [];
  answers = both;
  answer = codes "{\"data\":{\"a\":{\"y\":2,\"x\":1}}}";
}
