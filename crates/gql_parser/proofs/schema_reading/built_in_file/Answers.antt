use Rattle.gql_parser.proofs.SchemaPhases.{copied}
use Rattle.gql_parser.proofs.schema_reading.built_in_file.Goals as goal

pub returns : goal.returns
returns c = copied c.copy.result c.in_ok-schema.schema.sources c.copy.ensures c.in_ok-schema.ensures
