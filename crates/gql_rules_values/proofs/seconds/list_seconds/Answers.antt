use Rattle.gql_rules_values.proofs.Few.{none_of_few}
use Rattle.gql_rules_values.proofs.seconds.list_seconds.Goals as goal

pub returns-then-items-lt2 : goal.returns-then-items-lt2
returns-then-items-lt2 g c =
    none_of_few g.T.Placed.name_of g.T.Placed.place_of (g.C.Counted.counts c.args.counted.now) c.args.rule c.args.faults.now c.args.items.now c.if-items-lt2.true
