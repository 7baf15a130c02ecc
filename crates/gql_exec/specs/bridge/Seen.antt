-- How contracts see the objects of an execution with introspection.
use Rattle.gql_schema_types.specs.declared.schema.Schema.{Schema}
use Rattle.gql_introspection.specs.Seen.{stands_for}
use Rattle.gql_exec.specs.Thing.{Thing, of_user, of_library}
use Rattle.gql_exec.specs.declared.introspected.AnyObject.{AnyObject}
use Rattle.gql_exec.specs.declared.introspected.AnyObject.TheVariants.{Lent, Held, Library}
use Rattle.gql_exec.specs.declared.introspected.Introspected.{Introspected}

abbrev pub under : {O X : Type 0} → (O → X) → Schema → AnyObject O → Thing X
under see schema (Lent object) = of_user schema (see object.now)
under see schema (Held object) = of_user schema (see object)
under see schema (Library object) = of_library schema (stands_for object)

-- the object, wherever in memory it lies, whose user's objects are seen in this way
abbrev pub thing_by : {O X : Type 0} → (O → X) → Introspected O → Thing X
thing_by see it = under see it.schema.now it.object
