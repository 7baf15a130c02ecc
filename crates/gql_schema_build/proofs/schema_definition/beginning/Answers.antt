use Rattle.std.proofs.Common.{sym, ap, ◌∙◌}
use Rattle.gql_schema_build.specs.SchemaDefinitions as spec
use Rattle.gql_schema_build.proofs.schema_definition.beginning.Goals as goal

pub returns-in-Some : goal.returns-in-Some
returns-in-Some c = c.written.ensures c.args.types.now ∙ ap (spec.beginning c.args.types.now) (sym c.in-Some.is)
