use Rattle.std.proofs.Common.{◌≡◌, true, length, is_some, refl, sym, subst}
use Rattle.gql_grammar.specs.declared.rule.Rule.TheVariants.{Document, TypeReference}
use Rattle.gql_grammar.specs.declared.syntax_kind.SyntaxKind.TheVariants as kind
use Rattle.gql_grammar.specs.Row as row
use Rattle.gql_cst.specs.Leaves.{leaves}
use Rattle.gql_cst.specs.Sentences.{words, shown}
use Rattle.gql_ast_base.specs.Types.{type_of}
use Rattle.gql_ast_laws.proofs.Blind.{tree}
use Rattle.gql_ast_laws.proofs.Shown.{tiled-spelled}
use Rattle.gql_ast_laws.proofs.Total.{document-way, each-definition}
use Rattle.gql_ast_laws.proofs.TypeFound.{reference-found}
use Rattle.gql_ast_laws.proofs.Ways.{made}
use Rattle.gql_ast_laws.proofs.laws.sentences_are_complete.Goals as goal

pub returns : goal.returns
returns c =
    let law = c.sentences_have_one_tree.ensures in
    record {
      definitions = λ text file children t.
          let nodes = law.nodes Document (words text (leaves children)) (row.node kind.Document (shown text children) row.nothing) t.sentence in
          let m = made kind.Document (shown text children) refl nodes.0 in
          each-definition text file children nodes.1.0 (tiled-spelled text 0 (leaves children) (length text) t.tiles) (document-way m.way m.one m.fits);
      ty = λ text file one e t.
          let nodes = law.nodes TypeReference (words text (leaves one.children)) (row.node kind.TypeReference (shown text one.children) row.nothing) t.sentence in
          subst (λ k. is_some (type_of text file (tree k one.start one.end one.children)) ≡ true) (sym e)
          (reference-found text file one.start one.end one.children nodes.0 nodes.1.0 (tiled-spelled text 0 (leaves one.children) (length text) t.tiles));
    }
