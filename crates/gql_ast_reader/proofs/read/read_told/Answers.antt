use Rattle.std.proofs.Common.{ℕ, List, ◌++◌, sym, subst, ◌∙◌}
use Rattle.gql_cst.specs.bridge.Machine.{node_of}
use Rattle.gql_ast_base.specs.SyntaxKind.TheVariants as kind
use Rattle.gql_grammar.specs.declared.rule.Rule.TheVariants.{Document}
use Rattle.gql_cst.specs.bridge.Going.{told_of}
use Rattle.gql_cst.specs.Parses.{Reports}
use Rattle.gql_ast_reader.proofs.Comes.{told}
use Rattle.gql_ast_reader.proofs.read.read_told.Goals as goal

pub returns : goal.returns
returns g c = let m = c.in_ok-out.ensures in record {
  tree = node_of kind.Document (m.trees ++ m.waiting);
  reports =
      let P : List ℕ → Type 0 = λ text. Reports Document text c.args.limits.now (told_of Document c.in_ok-out.field-0 m.trees m.waiting) in
      subst P c.requires.text m.reports;
  means = told g.K.Told.text g.K.Told.file m.trees m.waiting m.stands.ignored ∙ sym (c.into_definitions.ensures m.trees m.waiting m.stands);
}
