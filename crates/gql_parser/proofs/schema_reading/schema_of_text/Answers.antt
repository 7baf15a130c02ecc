use Rattle.gql_parser.proofs.SchemaPhases.{handed_on, schema_read}
use Rattle.gql_parser.proofs.schema_reading.schema_of_text.Goals as goal

pub returns-in_err-schema : goal.returns-in_err-schema
returns-in_err-schema c = handed_on c.args.text.now c.from_residual.result c.in_err-schema.field-0.0 c.from_residual.ensures.1 c.in_err-schema.ensures

pub returns : goal.returns
returns c = schema_read c.args.text.now c.in_ok-schema.schema c.ruled.result c.in_ok-schema.ensures c.ruled.ensures
