-- The name of the type of an object of the data.
use Rattle.std.specs.Prelude.{ℕ, List, []}
use Rattle.gql_resolvers.specs.declared.data_object.ObjectName.{ObjectName}
use Rattle.gql_resolvers.specs.declared.data_object.ObjectName.TheVariants.{Root, Told, Taken}

abbrev pub name_of : ObjectName → List ℕ
name_of Root = []
name_of (Told name) = name.now
name_of (Taken name) = name
