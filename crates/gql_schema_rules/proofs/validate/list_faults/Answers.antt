use Rattle.gql_schema_rules.proofs.Added.{on_refusal, some_listed}
use Rattle.gql_schema_rules.proofs.validate.list_faults.Goals as goal

pub returns-clause-some : goal.returns-clause-some
returns-clause-some c =
    on_refusal c.take_faults.result
    (some_listed c.args.schema.now c.in_ok-faults.faults c.args.errors.now.items c.take_faults.new.errors.items c.in_ok-faults.ensures)
    c.take_faults.ensures.refused
