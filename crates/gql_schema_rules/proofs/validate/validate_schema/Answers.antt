use Rattle.gql_schema_rules.proofs.Added.{all_listed, in_any_case}
use Rattle.gql_schema_rules.proofs.validate.validate_schema.Goals as goal

pub returns-clause-some : goal.returns-clause-some
returns-clause-some c =
    in_any_case c.settle_scalars.result
    (all_listed c.args.schema.now c.args.errors.now.items c.list_faults.new.errors.items c.in_ok-list_faults.ensures.faults)
