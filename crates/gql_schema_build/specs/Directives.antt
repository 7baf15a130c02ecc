-- The directives of a schema: the built-in ones, each replaced in its place by a definition of its name, and then the others.
use Rattle.std.specs.Prelude.{List, [], fold}
use Rattle.gql_ast.specs.declared.schema_definition.DirectiveDefinition.{DirectiveDefinition}
use Rattle.gql_schema_types.specs.Entries.{joined, put}
use Rattle.gql_schema_build.specs.DirectiveDefinitionCollision.{directive_name}

abbrev pub directives : List DirectiveDefinition → List DirectiveDefinition → List DirectiveDefinition
directives built_in ds = fold (put directive_name) (fold (put directive_name) [] built_in) (joined directive_name [] ds)
