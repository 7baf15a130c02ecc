-- What stays the same throughout an execution, as the world that it goes by.
use Rattle.std.specs.Prelude.{ℕ, Bool, not, ◌&&◌, if◌then◌else◌, List, codes}
use Rattle.gql_document_types.specs.declared.document.ExecutableDocument.{ExecutableDocument}
use Rattle.gql_schema_types.specs.declared.schema.Schema.{Schema}
use Rattle.gql_schema_types.specs.declared.types.ObjectType.{ObjectType}
use Rattle.gql_resolvers.specs.Resolved.{Meaning, fails_with}
use Rattle.gql_exec.specs.Asks.{is_introspection}
use Rattle.gql_exec.specs.Request.{Members, Request}

-- what resolvers answer: a matter of schema, object type, object, name and arguments
abbrev pub Resolving : Type 0 → Type 0
Resolving X = Schema → ObjectType → X → List ℕ → Members → Meaning X

-- a field that tells of the schema while introspection is off
abbrev pub is_hidden : Bool → Schema → ObjectType → List ℕ → Bool
is_hidden introspection schema U f = not introspection && is_introspection schema U f

-- such a field fails, and any other is as its resolver says
abbrev pub answers_by : {X : Type 0} → Bool → Resolving X → Resolving X
answers_by introspection resolves schema U x f arguments =
    if is_hidden introspection schema U f then fails_with (codes "schema introspection is disabled") else resolves schema U x f arguments

abbrev pub request_by : {X : Type 0} → Bool → Schema → ExecutableDocument → Members → (X → List ℕ) → Resolving X → Request X
request_by introspection schema document variables types resolves = record {
  schema = schema;
  sources = document.sources;
  fragments = document.fragments;
  variables = variables;
  type_of = types;
  answers = answers_by introspection resolves schema;
}
