use Rattle.std.proofs.Common.{length, refl, arith}
use Rattle.gql_cst.proofs.Going.{end-limit-ended, whole-ended, cut-ended, same-text}
use Rattle.gql_cst.proofs.parser.Parser.end.Goals as goal

pub returns-then-self-deepest-clause-ends : goal.returns-then-self-deepest-clause-ends
returns-then-self-deepest-clause-ends g c = end-limit-ended g.O.Output.stands c.args.self.now _ refl c.requires.going (omega arith)

pub judge-requires : goal.judge-requires
judge-requires g c = let h = c.requires.going in (h.waiting, h.state, h.holds (length c.args.self.now.text.now))

pub returns-in-Finished-clause-ends : goal.returns-in-Finished-clause-ends
returns-in-Finished-clause-ends g c =
    whole-ended g.O.Output.stands c.args.self.now c.judge.new.self c.in_ok-judge.field-0 _ c.in_ok-judge.ensures.same c.in-Finished.is refl c.requires.going (omega arith)
    c.in_ok-judge.ensures.judged

pub returns-in_default : goal.returns-in_default
returns-in_default g c = record {
  same = same-text g.O.Output.stands c.args.self.now c.judge.new.self c.in_ok-judge.ensures.same;
  ends = cut-ended g.O.Output.stands c.args.self.now c.judge.new.self c.in_ok-judge.field-0 _ c.in_ok-judge.ensures.same c.in_default.not-Finished refl c.requires.going
      (omega arith) c.in_ok-judge.ensures.judged;
}
