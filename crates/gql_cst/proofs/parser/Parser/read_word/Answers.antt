use Rattle.std.proofs.Common.{◌≡◌, ◌∙◌, ap, sym, arith}
use Rattle.gql_cst.specs.Judged.{word_in}
use Rattle.gql_cst.specs.Words.{word_of}
use Rattle.gql_cst.specs.declared.turn.Turn.TheVariants.{Taken, Refused}
use Rattle.gql_cst.proofs.Going.{limit-ended, took-going, bad-ended, same-text}
use Rattle.gql_cst.proofs.parser.Parser.read_word.Goals as goal

pub returns-then-self-deepest-clause-ends : goal.returns-then-self-deepest-clause-ends
returns-then-self-deepest-clause-ends g c = limit-ended g.O.Output.stands c.args.self.now c.args.range c.requires.counted c.requires.token (omega arith)

pub judge-requires : goal.judge-requires
judge-requires g c = let h = c.requires.counted in (h.waiting, h.state, h.holds c.args.range.start)

pub returns-in_ok-token-in-Taken-clause-goes_on : goal.returns-in_ok-token-in-Taken-clause-goes_on
returns-in_ok-token-in-Taken-clause-goes_on g c =
    let p = c.args.self.now in
    let q = c.judge.new.self in
    let is : c.word_of-word.result ≡ word_in p.text.now c.args.range = c.word_of-word.ensures ∙ ap word_of c.range.ensures.value in
    let taken : c.in_ok-judge.field-0 ≡ Taken = c.in-Taken.is in
    took-going g.O.Output.stands p q c.token.new.self c.in_ok-judge.field-0 c.word_of-word.result c.args.range c.in_ok-judge.ensures.same taken
    (c.in_ok-judge.ensures.begun (λ e. let no : Taken ≡ Refused = sym taken ∙ e in cc)) c.requires.counted c.requires.token (omega arith) is c.in_ok-judge.ensures.judged c.in_ok-token-in-Taken.ensures

pub returns-in_default : goal.returns-in_default
returns-in_default g c =
    let p = c.args.self.now in
    let q = c.judge.new.self in
    let is : c.word_of-word.result ≡ word_in p.text.now c.args.range = c.word_of-word.ensures ∙ ap word_of c.range.ensures.value in
    record {
      same = same-text g.O.Output.stands p q c.in_ok-judge.ensures.same;
      goes_on = tt;
      ends = bad-ended g.O.Output.stands p q c.in_ok-judge.field-0 c.word_of-word.result c.args.range c.in_ok-judge.ensures.same c.in_default.not-Taken c.requires.counted c.requires.token
          (omega arith) is c.in_ok-judge.ensures.judged;
    }
