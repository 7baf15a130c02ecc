-- What is told of a text without its tree.
use Rattle.std.specs.Prelude.{ℕ, List}
use Rattle.gql_grammar.specs.declared.rule.Rule.{Rule}
use Rattle.gql_cst.specs.declared.limits.Checked.{Checked}
use Rattle.gql_cst.specs.declared.limits.Limits.{Limits}
use Rattle.gql_cst.specs.Forest.{Plain}
use Rattle.gql_cst.specs.Parses.{Reports}
use Rattle.gql_cst.specs.Report.{Report}

-- what a parse tells, where this is its tree
abbrev pub report_with : Plain → Checked → Report
report_with tree checked = record {
  tree = tree;
  error = checked.error;
  recursion_reached = checked.recursion_reached;
  tokens_reached = checked.tokens_reached;
}

-- some tree is what a parse gives of the text, and the rest is what it tells
pub record IsChecked (start : Rule) (text : List ℕ) (limits : Limits) (checked : Checked) : Type 0 where
  pub tree : Plain
  pub reports : Reports start text limits (report_with tree checked)
