-- The rows of the built-in types, for laws of what they stand for.
use Rattle.std.specs.Prelude.{List}
use Rattle.gql_schema.specs.declared.built_in_row.DefinitionRow.{DefinitionRow}
use Rattle.gql_schema.specs.declared.built_in_rows.TheConstants.{TYPES}

abbrev pub type_rows : List DefinitionRow
type_rows = TYPES.now
