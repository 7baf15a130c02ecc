-- What a parse tells of a text.
use Rattle.std.specs.Prelude.{ℕ, Option}
use Rattle.gql_lexer.specs.declared.error.CstError.{CstError}
use Rattle.gql_cst.specs.declared.limits.Parsed.{Parsed}
use Rattle.gql_cst.specs.Forest.{Plain, plain}

-- The tree of what was read, what ended the reading, the greatest level that was reached, and how many tokens were read,
-- one that was refused included.
pub record Report : Type 0 where
  pub tree : Plain
  pub error : Option CstError
  pub recursion_reached : ℕ
  pub tokens_reached : ℕ

-- that of a parse whose tree is held
abbrev pub report_of : Parsed → Report
report_of parsed = record {
  tree = plain parsed.tree;
  error = parsed.error;
  recursion_reached = parsed.recursion_reached;
  tokens_reached = parsed.tokens_reached;
}
