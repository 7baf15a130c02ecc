use Rattle.std.proofs.Common.{◌≡◌, refl, sym, ap, ◌∙◌}
use Rattle.gql_source.specs.declared.file_id.FileId.{FileId}
use Rattle.gql_grammar.specs.declared.rule.Rule.TheVariants.{Document, FieldSet, TypeReference}
use Rattle.gql_grammar.specs.declared.syntax_kind.SyntaxKind.TheVariants as kind
use Rattle.gql_cst.specs.Forest.{Plain}
use Rattle.gql_cst.proofs.Parsing.{parse_tree}
use Rattle.gql_ast_base.specs.Parts.{Text}
use Rattle.gql_ast_base.specs.Types.{type_step, type_of}
use Rattle.gql_ast_laws.proofs.Blind.{tree}
use Rattle.gql_ast_laws.proofs.laws.parses_mean_their_text.Goals as goal

-- the place of a node that refers to a type tells nothing
placed : (text : Text) (file : FileId) (t : Plain) → t.kind ≡ kind.TypeReference → type_of text file (tree kind.TypeReference 0 0 t.children) ≡ type_of text file t
unfolding type_step
placed text file t e = ap (λ k. type_of text file (tree k 0 0 t.children)) (sym e)

pub returns : goal.returns
returns c = record {
  document = λ text file limits report p none. record { children = report.tree.children; tree = parse_tree Document text limits report p none; means = refl };
  selections = λ text file limits report p none. record { children = report.tree.children; tree = parse_tree FieldSet text limits report p none; means = refl };
  ty = λ text file limits report ty p none means. record {
    children = report.tree.children;
    tree = parse_tree TypeReference text limits report p none;
    means = placed text file report.tree p.2.tree_kind ∙ means;
  };
}
