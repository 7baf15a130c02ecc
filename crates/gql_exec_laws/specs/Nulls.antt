-- More worked examples of section 6.4.4 of GraphQL October 2021: an item two lists deep, and a type that an interface loosens.
use Rattle.std.specs.Prelude.{ℕ, List, [], ◌∷◌, ◌++◌, None, codes}
use Rattle.gql_ast_base.specs.declared.type_ref.TypeRef.{TypeRef}
use Rattle.gql_ast_base.specs.declared.type_ref.TypeRef.TheVariants as ty
use Rattle.gql_ast.specs.declared.field_definition.FieldDefinition.{FieldDefinition}
use Rattle.gql_schema_types.specs.MetaFields.{named}
use Rattle.gql_schema_types.specs.declared.types.ExtendedType.{ExtendedType}
use Rattle.gql_schema_types.specs.declared.types.ExtendedType.TheVariants as type
use Rattle.gql_schema_types.specs.declared.types.ObjectType.{ObjectType}
use Rattle.gql_schema_types.specs.declared.schema.Schema.{Schema}
use Rattle.gql_response.specs.declared.path.ResponseDataPathSegment.TheVariants.{Field, ListIndex}
use Rattle.gql_resolvers.specs.Resolved.{Meaning, Meanings, gives_object, gives_list, fails_with, no_answer, answer_then}
use Rattle.gql_resolvers.specs.Trail.{Trail}
use Rattle.gql_resolvers.specs.Types.{item_type}
use Rattle.gql_exec_laws.specs.Parts.{schema, object, plain, select}
use Rattle.gql_exec_laws.specs.Example.{Example, Thing, root, inner}
use Rattle.gql_exec_laws.specs.Examples.{int, number, null, x, list_of}

-- ---- { f } of this type of f, which gives [[1], [2, an error]]

abbrev pub strict_int : TypeRef
strict_int = ty.NonNullNamed (named (codes "Int"))

abbrev pub lists : Meanings Thing
lists =
    answer_then (gives_list (answer_then (number 1) no_answer))
    (answer_then (gives_list (answer_then (number 2) (answer_then (fails_with (codes "e")) no_answer))) no_answer)

-- with data that are printed so
abbrev pub list_in_list : TypeRef → List ℕ → Example
list_in_list ty printed =
    list_of (plain (codes "f") ty) lists
    (codes "{\"message\":\"resolver error: e\",\"locations\":[{\"line\":1,\"column\":3}],\"path\":[\"f\",1,1]}]," ++ printed)

-- type Query { f: [[Int]!] }
abbrev pub item_null : Example
item_null = list_in_list (ty.List (ty.NonNullList int)) (codes "\"data\":{\"f\":[[1],[2,null]]}}")

-- type Query { f: [[Int!]] }
abbrev pub inner_list_null : Example
inner_list_null = list_in_list (ty.List (ty.List strict_int)) (codes "\"data\":{\"f\":[[1],null]}}")

-- type Query { f: [[Int!]!] }
abbrev pub outer_list_null : Example
outer_list_null = list_in_list (ty.List (ty.NonNullList strict_int)) (codes "\"data\":{\"f\":null}}")

-- ---- the places of the error, outward, where f is of this type

abbrev pub at_field : TypeRef → Trail
at_field ty = (Field (named (codes "f")), ty) ∷ []

abbrev pub at_list : TypeRef → Trail
at_list ty = (ListIndex 1, item_type ty) ∷ at_field ty

abbrev pub at_item : TypeRef → Trail
at_item ty = (ListIndex 1, item_type (item_type ty)) ∷ at_list ty

-- ---- interface I { x: Int } type A implements I { x: Int! } type Query { i: I }, and no x

abbrev pub loose_x : FieldDefinition
loose_x = plain (codes "x") int

abbrev pub interface : ExtendedType
interface = type.Interface (record {
  description = None;
  name = named (codes "I");
  implements_interfaces = [];
  directives = [];
  fields = loose_x ∷ [];
  location = None;
})

abbrev pub i : FieldDefinition
i = plain (codes "i") (ty.Named (named (codes "I")))

abbrev pub interface_query : ObjectType
interface_query = object (codes "Query") (i ∷ [])

abbrev pub implementer : ObjectType
implementer = record (object (codes "A") (x ∷ [])) { implements_interfaces = named (codes "I") ∷ [] }

abbrev pub interface_schema : Schema
interface_schema =
    let objects = schema (interface_query ∷ implementer ∷ []) in
    record objects { types = interface ∷ objects.types }

abbrev pub no_x : Thing → List ℕ → Meaning Thing
no_x root name = gives_object inner
no_x inner name = null

abbrev pub stricter_type : Example
stricter_type = record {
  schema = interface_schema;
  query = codes "{ i { x } }";
  root_type = interface_query;
  selections = select 2 i (select 6 loose_x [] ∷ []) ∷ [];
  answers = no_x;
  answer =
      codes "{\"errors\":[{\"message\":\"non-null type Int! resolved to null\",\"locations\":[{\"line\":1,\"column\":7}],\"path\":[\"i\",\"x\"]}],"
      ++ codes "\"data\":{\"i\":null}}";
}
