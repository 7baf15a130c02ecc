use Rattle.gql_cst.specs.Report.{report_of}
use Rattle.gql_cst.proofs.Parsing.{parse_tree}
use Rattle.gql_cst.proofs.laws.parses_are_trees.Goals as goal

pub returns : goal.returns
returns c = record {
  children = λ start text limits parsed p none. parse_tree start text limits (report_of parsed) p none;
  kind = λ start text limits parsed p. p.2.tree_kind;
}
