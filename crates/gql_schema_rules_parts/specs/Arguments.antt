-- Arguments of a field by name.
use Rattle.std.specs.Prelude.{ℕ, List, Option}
use Rattle.gql_ast_base.specs.Names.{Named}
use Rattle.gql_ast.specs.declared.field_definition.InputValueDefinition.{InputValueDefinition}
use Rattle.gql_schema_types.specs.Entries.{entry}

abbrev pub argument_name : InputValueDefinition → Named
argument_name argument = argument.name

-- the first argument of the name
abbrev pub argument_called : List InputValueDefinition → List ℕ → Option InputValueDefinition
argument_called arguments name = entry argument_name name arguments
