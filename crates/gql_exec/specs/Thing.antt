-- The objects of an execution with introspection: section 4 of GraphQL October 2021.
use Rattle.std.specs.Prelude.{ℕ, List}
use Rattle.gql_schema_types.specs.declared.schema.Schema.{Schema}
use Rattle.gql_introspection.specs.Meta.{Meta, type_name_of}

-- a user's object, or one of introspection; each knows the schema that it is asked under
pub data Thing (X : Type 0) : Type 0 where
  of_user : Schema → X → Thing X
  of_library : Schema → Meta → Thing X

abbrev pub schema_of_thing : {X : Type 0} → Thing X → Schema
schema_of_thing (of_user schema x) = schema
schema_of_thing (of_library schema object) = schema

-- the name of its type, where these are the names of those of the user's objects
abbrev pub type_of_thing : {X : Type 0} → (X → List ℕ) → Thing X → List ℕ
type_of_thing types (of_user schema x) = types x
type_of_thing types (of_library schema object) = type_name_of object
