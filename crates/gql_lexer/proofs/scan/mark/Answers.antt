use Rattle.std.proofs.Common.{◌∙◌, sym, arith}
use Rattle.gql_lexer.proofs.Blanks.{marks-some}
use Rattle.gql_lexer.proofs.scan.mark.Goals as goal

pub returns-then-is_mark-clause-within : goal.returns-then-is_mark-clause-within
returns-then-is_mark-clause-within c = (
  omega (arith, c.past_items.ensures.value, marks-some c.args.at.now c.requires (sym c.is_mark.ensures ∙ c.if-is_mark.true)),
  c.past_items.ensures.within.1,
)
