use Rattle.std.proofs.Common.{◌∙◌, ap, sym, unwrap_or}
use Rattle.gql_lexer.specs.BlockString.{indent, common_indent}
use Rattle.gql_lexer.specs.bridge.BlockWriting.{following}
use Rattle.gql_lexer.proofs.BlockValue.{least-none, least-assoc}
use Rattle.gql_lexer.proofs.block_string.common_indent.Goals as goal

pub lines-preserved : goal.lines-preserved
lines-preserved c = (
  c.in-Some.ensures.text,
  rw (c.least-common.ensures, c.indent.ensures) (least-assoc c.lines.common (indent c.in-Some.line.now) (common_indent (following c.in-Some.others.now)) ∙ rw c.in-Some.ensures.some at c.lines.invariant.1),
  c.in-Some.ensures.ascii,
)

pub returns : goal.returns
returns c =
    c.unwrap_or.ensures
    ∙ ap (λ o. unwrap_or o 0) (sym (least-none c.lines.common) ∙ rw c.in_default.ensures.none at c.lines.invariant.1)
