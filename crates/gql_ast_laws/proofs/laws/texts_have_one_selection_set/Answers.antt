use Rattle.std.proofs.Common.{◌++◌, ◌∙◌, sym, ap}
use Rattle.gql_grammar.specs.declared.rule.Rule.TheVariants.{FieldSet}
use Rattle.gql_ast.specs.Selections.{selections, selected}
use Rattle.gql_ast_laws.proofs.SelectionMeaning.{selections-bare, selected-bare}
use Rattle.gql_ast_laws.proofs.Whole.{one_meaning}
use Rattle.gql_ast_laws.proofs.laws.texts_have_one_selection_set.Goals as goal

pub returns : goal.returns
returns c =
    let law = c.texts_have_one_tree.ensures in
    record {
      trees = λ text file one other h k. one_meaning (selections text file) (selections-bare text file) one other
          (law.ends FieldSet text one h) (law.ends FieldSet text other k) (law.tree FieldSet text one other h k);
      within = λ text file one other h k. one_meaning (selected text file) (selected-bare text file) one other
          (law.ends FieldSet text one h) (law.ends FieldSet text other k) (law.tree FieldSet text one other h k);
      selections = λ text file one other h k.
          let p = law.ends FieldSet text h.children h.tree in
          let q = law.ends FieldSet text k.children k.tree in
          let e = law.tree FieldSet text h.children k.children h.tree k.tree in
          sym h.means
          ∙ ap (λ l. l ++ selections text file h.children) (one_meaning (selected text file) (selected-bare text file) h.children k.children p q e)
          ∙ ap (λ l. selected text file k.children ++ l) (one_meaning (selections text file) (selections-bare text file) h.children k.children p q e)
          ∙ k.means;
    }
