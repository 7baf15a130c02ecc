-- What stays the same while a value of the data is shaped.
use Rattle.std.specs.Prelude.{Option}
use Rattle.std.specs.Option.{option_copied}
use Rattle.gql_ast_base.specs.Names.{Named}
use Rattle.gql_resolvers.specs.declared.data_shape.DataShape.{DataShape}

abbrev pub composite_of : DataShape → Option Named
composite_of shape = option_copied shape.composite
