-- Introspection beside a resolver that leaves nothing out leaves nothing out.
use Rattle.std.proofs.Common.{ℕ, Bool, true, false, if◌then◌else◌, List}
use Rattle.std.specs.Prelude.{codes}
use Rattle.std.specs.Str.{bytes_eq}
use Rattle.gql_introspection.proofs.MetaSkips.{meta-whole, type-field-whole}
use Rattle.gql_introspection.specs.MetaMeaning.{meta_meaning}
use Rattle.gql_introspection.specs.RootFields.{schema_field_meaning, type_field_meaning}
use Rattle.gql_exec.specs.Mapped.{mapped, all_mapped}
use Rattle.gql_exec.specs.Thing.{Thing, of_user, of_library, schema_of_thing}
use Rattle.gql_exec.specs.ThingMeaning.{Resolving, root_meaning, own_meaning, thing_meaning}
use Rattle.gql_exec.proofs.Skipless.{either-skipless}
use Rattle.gql_exec.specs.Asks.{is_introspection}
use Rattle.gql_exec.specs.NeverSkips.{NeverSkips}
use Rattle.gql_resolvers.specs.Meaning.{Members}
use Rattle.gql_resolvers.specs.Resolved.{Meaning, Meanings, gives_leaf, gives_object, gives_list, gives_skip, fails_with, no_answer, answer_then}
use Rattle.gql_resolvers.specs.Skips.{SkipsNothing, SkipNothing}
use Rattle.gql_schema_types.specs.declared.schema.Schema.{Schema}
use Rattle.gql_schema_types.specs.declared.types.ObjectType.{ObjectType}

-- ---- answers that stand for others

module _ {X Y : Type 0} (stands : X → Y) where
  mutual
    pub mapped-skipless : (m : Meaning X) → SkipsNothing m → SkipsNothing (mapped stands m)
    mapped-skipless (gives_leaf v) none = tt
    mapped-skipless (gives_object x) none = tt
    mapped-skipless (gives_list ms) none = all-skipless ms none
    mapped-skipless gives_skip none = absurd none
    mapped-skipless (fails_with text) none = tt

    all-skipless : (ms : Meanings X) → SkipNothing ms → SkipNothing (all_mapped stands ms)
    all-skipless no_answer none = tt
    all-skipless (answer_then m ms) none = (mapped-skipless m none.0, all-skipless ms none.1)

-- ---- introspection beside a resolver

root-skipless : (schema : Schema) (b : Bool) (arguments : Members) → SkipsNothing (if b then schema_field_meaning schema else type_field_meaning schema arguments)
root-skipless schema true arguments = tt
root-skipless schema false arguments = type-field-whole schema arguments

module _ {X : Type 0} (resolves : Resolving X) (never : NeverSkips resolves) where
  own-skipless : (schema : Schema) (T : ObjectType) (thing : Thing X) (f : List ℕ) (arguments : Members) → SkipsNothing (own_meaning resolves schema T thing f arguments)
  own-skipless schema T (of_user own x) f arguments = mapped-skipless (of_user own) (resolves schema T x f arguments) (never schema T x f arguments)
  own-skipless schema T (of_library own object) f arguments = mapped-skipless (of_library own) (meta_meaning object f arguments) (meta-whole object f arguments)

  pub things-never-skip : NeverSkips (thing_meaning resolves)
  things-never-skip schema T thing f arguments =
      either-skipless (is_introspection (schema_of_thing thing) T f) (mapped (of_library (schema_of_thing thing)) (root_meaning (schema_of_thing thing) f arguments))
      (own_meaning resolves schema T thing f arguments)
      (mapped-skipless (of_library (schema_of_thing thing)) (root_meaning (schema_of_thing thing) f arguments)
      (root-skipless (schema_of_thing thing) (bytes_eq f (codes "__schema")) arguments))
      (own-skipless schema T thing f arguments)
