use Rattle.gql_cst.proofs.Frames.{left-none, left-some}
use Rattle.gql_cst.proofs.machine.end_rule.Goals as goal

pub returns-in-None : goal.returns-in-None
returns-in-None g c = λ at frames waiting s framed h. left-none g.O.Output.stands c.args.top.now frames _ at waiting s framed c.in-None.is h

pub returns-in_ok-end-in-Some : goal.returns-in_ok-end-in-Some
returns-in_ok-end-in-Some g c = λ at frames waiting s framed h. left-some g.O.Output.stands c.args.top.now frames _ _ c.in-Some.kind at waiting s framed c.in-Some.is c.in_ok-end-in-Some.ensures h
