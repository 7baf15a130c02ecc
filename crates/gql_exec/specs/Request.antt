-- What an execution goes by.
use Rattle.std.specs.Prelude.{ℕ, List}
use Rattle.jb_tree.specs.declared.value.Value.{Value}
use Rattle.gql_source.specs.File.{Files}
use Rattle.gql_document_types.specs.declared.fragment.Fragment.{Fragment}
use Rattle.gql_schema_types.specs.declared.schema.Schema.{Schema}
use Rattle.gql_schema_types.specs.declared.types.ObjectType.{ObjectType}
use Rattle.gql_resolvers.specs.Resolved.{Meaning}

-- the values of variables or of arguments, by their names
abbrev pub Members : Type 0
Members = List (List ℕ × Value)

-- The schema; the document's files and fragments; the values of the variables; the name of each object's type; and what a
-- field of an object is on an object type, by its name and its arguments. X: the objects, the user's and the library's
pub record Request (X : Type 0) : Type 0 where
  pub schema : Schema
  pub sources : Files
  pub fragments : List Fragment
  pub variables : Members
  pub type_of : X → List ℕ
  pub answers : ObjectType → X → List ℕ → Members → Meaning X
