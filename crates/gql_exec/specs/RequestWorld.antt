-- The world of a document on a schema: sections 6.3 and 6.4 of GraphQL October 2021.
use Rattle.std.specs.Prelude.{List}
use Rattle.gql_document_types.specs.declared.selection.Selection.{Selection}
use Rattle.gql_schema_types.specs.Schemas.{object_of}
use Rattle.gql_schema_types.specs.declared.types.ObjectType.{ObjectType}
use Rattle.gql_resolvers.specs.Fit.{misfit}
use Rattle.gql_collect.specs.Groups.{response_name, applying}
use Rattle.gql_collect.specs.Setting.{Setting}
use Rattle.gql_resolvers.specs.World.{World}
use Rattle.gql_exec.specs.Asks.{definition_on, asks}
use Rattle.gql_exec.specs.Group.{Group, groups_from}
use Rattle.gql_exec.specs.Request.{Request}

-- how the groups of selection sets on an object type are found
abbrev pub Collector : Type 0
Collector = ObjectType → List (List Selection) → List Group

abbrev pub setting_on : {X : Type 0} → Request X → ObjectType → Setting
setting_on r U = record { fragments = r.fragments; schema = r.schema; object = U; variables = r.variables }

-- each fragment is written out at each spread, and nothing is remembered
abbrev pub plain : {X : Type 0} → Request X → Collector
plain r U sets = groups_from (applying (setting_on r U) sets)

abbrev pub world : {X : Type 0} → Request X → Collector → World X ObjectType Group (List (List Selection))
world r collect = record {
  sources = r.sources;
  misfit = misfit r.schema r.type_of;
  type_of = λ x. object_of r.schema (r.type_of x);
  groups = collect;
  name_of = λ g. response_name g.first;
  span_of = λ g. g.first.name.location;
  below = λ g. g.pieces;
  type_at = λ U g. (definition_on r.schema U g.first).ty;
  asks = λ U x g. asks r U x g.first;
}

abbrev pub plain_world : {X : Type 0} → Request X → World X ObjectType Group (List (List Selection))
plain_world r = world r (plain r)
