use Rattle.std.proofs.Common.{◌∙◌, sym}
use Rattle.gql_grammar.specs.declared.rule.Rule.TheVariants.{Document}
use Rattle.gql_ast_laws.proofs.DocumentMeaning.{definition-blind}
use Rattle.gql_ast_laws.proofs.Whole.{gathered_once}
use Rattle.gql_ast_laws.proofs.laws.texts_have_one_document.Goals as goal

pub returns : goal.returns
returns c =
    let law = c.texts_have_one_tree.ensures in
    record {
      trees = λ text file one other h k. gathered_once (definition-blind text file) one.children other.children
          (law.ends Document text one.children h) (law.ends Document text other.children k) (law.tree Document text one.children other.children h k);
      document = λ text file one other h k. sym h.means ∙ gathered_once (definition-blind text file) h.children k.children
          (law.ends Document text h.children h.tree) (law.ends Document text k.children k.tree) (law.tree Document text h.children k.children h.tree k.tree) ∙ k.means;
    }
