use Rattle.gql_parser.proofs.Mixed.{built_badly, built_well, not_empty}
use Rattle.gql_parser.proofs.mixed_ruled.check_all.Goals as goal

pub returns-then-is_empty-clause-held : goal.returns-then-is_empty-clause-held
returns-then-is_empty-clause-held c builds sort =
    let errors = c.args.errors in
    built_well c.args.schema.now c.args.document.now builds errors.items errors.sources c.check_rules.result sort (c.is_empty.ensures.0 c.if-is_empty.true)
    c.check_rules.ensures.held

pub returns-else-is_empty-clause-held : goal.returns-else-is_empty-clause-held
returns-else-is_empty-clause-held c builds sort =
    let errors = c.args.errors in
    built_badly c.args.schema.now c.args.document.now builds errors sort
    (not_empty c.is_empty.result errors.items c.is_empty.ensures.1 c.if-is_empty.false)
