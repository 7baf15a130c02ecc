use Rattle.gql_schema_rules.specs.SchemaFaults.{AreSchemaFaults}
use Rattle.gql_parser.specs.MixedRead.{AreRuleFaults}
use Rattle.gql_parser.proofs.Mixed.{broken, no_memory, none_listed, not_empty, settled_so, some_listed}
use Rattle.gql_parser.proofs.mixed_ruled.check_rules.Goals as goal

pub returns-in_err-validate_schema-clause-held : goal.returns-in_err-validate_schema-clause-held
returns-in_err-validate_schema-clause-held c =
    no_memory (AreRuleFaults c.args.schema.now c.args.document.now) c.args.errors.sources (Unit {0}) c.from_residual.result c.from_residual.ensures.1

pub returns-then-is_empty-clause-held : goal.returns-then-is_empty-clause-held
returns-then-is_empty-clause-held c =
    let errors = c.validate_schema.new.errors in
    settled_so c.args.schema.now c.validate_schema.new.schema c.args.document.now errors.sources c.args.errors.sources c.check_document.result
    (none_listed (AreSchemaFaults c.args.schema.now) c.args.errors.items errors.items c.requires c.in_ok-validate_schema.ensures.faults
    (c.is_empty.ensures.0 c.if-is_empty.true))
    c.in_ok-validate_schema.ensures.schema c.validate_schema.ensures.sources c.check_document.ensures

pub returns-else-is_empty-clause-held : goal.returns-else-is_empty-clause-held
returns-else-is_empty-clause-held c =
    let errors = c.validate_schema.new.errors in
    broken c.args.schema.now c.args.document.now c.args.errors.sources errors
    (some_listed (AreSchemaFaults c.args.schema.now) c.args.errors.items c.args.errors.sources errors c.requires c.in_ok-validate_schema.ensures.faults
    (not_empty c.is_empty.result errors.items c.is_empty.ensures.1 c.if-is_empty.false) c.validate_schema.ensures.sources)
