use Rattle.std.proofs.Common.{rules}
use Rattle.std.proofs.lemmas.Result.{on_ok_weaker}
use Rattle.gql_collect.specs.bridge.Collected.{setting_of}
use Rattle.gql_collect.specs.bridge.Walk.{lists_of}
use Rattle.gql_collect.proofs.Followed.{follow-entered, follow-undefined}
use Rattle.gql_collect.proofs.collecting.Collector.follow.Goals as goal

pub returns-in-Some : goal.returns-in-Some
returns-in-Some c =
    on_ok_weaker c.enter.result
    (follow-entered (setting_of c.args.self.now) c.args.spread.now c.args.marks.now (lists_of c.args.pending.now) c.in-Some.number c.enter.new.marks (lists_of c.enter.new.pending)
    (search rules)
    (search rules))
    c.enter.ensures

pub returns-in-None : goal.returns-in-None
returns-in-None c =
    follow-undefined (setting_of c.args.self.now) c.args.spread.now c.args.marks.now (lists_of c.args.pending.now)
    (search rules)
    (search rules)
