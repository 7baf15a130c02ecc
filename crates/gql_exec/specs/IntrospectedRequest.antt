-- What an execution with introspection on goes by: section 4 of GraphQL October 2021.
use Rattle.std.specs.Prelude.{ℕ, List, []}
use Rattle.gql_source.specs.File.{Files}
use Rattle.gql_document_types.specs.declared.fragment.Fragment.{Fragment}
use Rattle.gql_schema_types.specs.declared.schema.Schema.{Schema}
use Rattle.gql_resolvers.specs.Resolved.{gives_skip}
use Rattle.gql_exec.specs.Request.{Members, Request}
use Rattle.gql_exec.specs.Thing.{Thing, type_of_thing}
use Rattle.gql_exec.specs.ThingMeaning.{Resolving, thing_meaning}

abbrev pub introspected_request : {X : Type 0} → Schema → Files → List Fragment → Members → (X → List ℕ) → Resolving X → Request (Thing X)
introspected_request schema sources fragments variables types resolves = record {
  schema = schema;
  sources = sources;
  fragments = fragments;
  variables = variables;
  type_of = type_of_thing types;
  answers = thing_meaning resolves schema;
}

-- ---- an object of no name that leaves every field out

abbrev pub no_name : Unit {0} → List ℕ
no_name object = []

abbrev pub no_field : Resolving (Unit {0})
no_field schema T object f arguments = gives_skip

abbrev pub partial_request : Schema → Files → List Fragment → Members → Request (Thing (Unit {0}))
partial_request schema sources fragments variables = introspected_request schema sources fragments variables no_name no_field
