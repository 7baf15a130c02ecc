use Rattle.std.proofs.Common.{◌≡◌, Some, refl, ◌∙◌, sym}
use Rattle.gql_grammar.specs.declared.rule.Rule.TheVariants.{TypeReference}
use Rattle.gql_grammar.specs.declared.syntax_kind.SyntaxKind.TheVariants as kind
use Rattle.gql_ast_base.specs.declared.type_ref.TypeRef.{TypeRef}
use Rattle.gql_ast_laws.proofs.Blind.{tree}
use Rattle.gql_ast_laws.proofs.TypeMeaning.{type-blind}
use Rattle.gql_ast_laws.proofs.Whole.{node_once}
use Rattle.gql_ast_laws.proofs.laws.texts_have_one_type.Goals as goal

some_same : (a b : TypeRef) → Some a ≡ Some b → a ≡ b
some_same a b h = cc

pub returns : goal.returns
returns c =
    let law = c.texts_have_one_tree.ensures in
    record {
      trees = λ text file one other p q h k. node_once (type-blind text file) kind.TypeReference refl one other p q
          (law.ends TypeReference text one.children h) (law.ends TypeReference text other.children k) (law.tree TypeReference text one.children other.children h k);
      ty = λ text file one other h k. some_same one other (sym h.means
          ∙ node_once (type-blind text file) kind.TypeReference refl (tree kind.TypeReference 0 0 h.children) (tree kind.TypeReference 0 0 k.children) refl refl
          (law.ends TypeReference text h.children h.tree) (law.ends TypeReference text k.children k.tree) (law.tree TypeReference text h.children k.children h.tree k.tree)
          ∙ k.means);
    }
