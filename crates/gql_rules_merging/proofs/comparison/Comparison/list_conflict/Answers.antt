use Rattle.std.proofs.Common.{sym, ap, ◌∙◌, ◌++◌, arith}
use Rattle.std.proofs.lemmas.Option.{slice_get_past}
use Rattle.std.proofs.lemmas.List.{append-nil}
use Rattle.gql_rules_merging.proofs.Untold.{first_lacks, second_lacks}
use Rattle.gql_rules_merging.proofs.comparison.Comparison.list_conflict.Goals as goal

pub returns-in-None-get : goal.returns-in-None-get
returns-in-None-get c =
    sym (ap (λ l. c.args.faults.now ++ l) (second_lacks c.args.self.now.types.now c.args.self.now.fields.now c.args.pair (slice_get_past c.args.self.now.fields.now c.args.pair.second (omega (arith, c.in-None-get.ensures.lookup)))) ∙ append-nil c.args.faults.now)

pub returns-in-None : goal.returns-in-None
returns-in-None c =
    sym (ap (λ l. c.args.faults.now ++ l) (first_lacks c.args.self.now.types.now c.args.self.now.fields.now c.args.pair (slice_get_past c.args.self.now.fields.now c.args.pair.first (omega (arith, c.in-None.ensures.lookup)))) ∙ append-nil c.args.faults.now)
