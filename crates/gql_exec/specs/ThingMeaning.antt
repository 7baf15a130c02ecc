-- What the fields of objects are where introspection is on: section 4 of GraphQL October 2021.
use Rattle.std.specs.Prelude.{ℕ, List, if◌then◌else◌, codes}
use Rattle.std.specs.Str.{bytes_eq}
use Rattle.gql_resolvers.specs.Resolved.{Meaning}
use Rattle.gql_resolvers.specs.Meaning.{Members}
use Rattle.gql_exec.specs.Asks.{is_introspection}
use Rattle.gql_schema_types.specs.declared.schema.Schema.{Schema}
use Rattle.gql_introspection.specs.Meta.{Meta}
use Rattle.gql_introspection.specs.MetaMeaning.{meta_meaning}
use Rattle.gql_introspection.specs.RootFields.{schema_field_meaning, type_field_meaning}
pub use Rattle.gql_exec.specs.Executing.{Resolving}
use Rattle.gql_exec.specs.Mapped.{mapped}
use Rattle.gql_exec.specs.Thing.{Thing, of_user, of_library, schema_of_thing}

-- `__schema` or `__type`
abbrev pub root_meaning : Schema → List ℕ → Members → Meaning Meta
root_meaning schema f arguments = if bytes_eq f (codes "__schema") then schema_field_meaning schema else type_field_meaning schema arguments

module _ {X : Type 0} (resolves : Resolving X) where
  -- a user's object answers as its resolver says, one of introspection as its row says
  abbrev pub own_meaning : Resolving (Thing X)
  own_meaning schema T (of_user own x) f arguments = mapped (of_user own) (resolves schema T x f arguments)
  own_meaning schema T (of_library own object) f arguments = mapped (of_library own) (meta_meaning object f arguments)

  -- on the root type of queries `__schema` and `__type` tell of the object's own schema, whatever the object is
  abbrev pub thing_meaning : Resolving (Thing X)
  thing_meaning schema T thing f arguments =
      if is_introspection (schema_of_thing thing) T f then mapped (of_library (schema_of_thing thing)) (root_meaning (schema_of_thing thing) f arguments)
      else own_meaning schema T thing f arguments
