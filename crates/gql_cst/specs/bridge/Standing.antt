-- Where the reading of a text stands.
use Rattle.std.specs.Prelude.{ℕ, Bool, List}
use Rattle.gql_grammar.specs.declared.rule.Rule.{Rule}
use Rattle.gql_cst.specs.declared.limits.Limits.{Limits}
use Rattle.gql_cst.specs.Forest.{Plain}
use Rattle.gql_cst.specs.bridge.Machine.{State}

-- The text is read by the rule, within the limits. Whether a word came; what the machine holds; the ignored tokens behind
-- the last word; and how many tokens were read.
pub record Standing : Type 0 where
  pub start : Rule
  pub text : List ℕ
  pub limits : Limits
  pub begun : Bool
  pub state : State
  pub ignored : List Plain
  pub tokens : ℕ
