-- A text is one constant value at most.
use Rattle.std.proofs.Common.{◌≡◌, ℕ, List, Some, refl, ◌∙◌, sym, ap}
use Rattle.gql_ast.specs.ValueText.{value_text}
use Rattle.gql_ast_base.specs.Values.{value_of}
use Rattle.gql_ast_base.specs.declared.value.Value.{Value}
use Rattle.gql_ast_laws.proofs.Blind.{tree}
use Rattle.gql_ast_laws.proofs.ValueMeaning.{value-blind}
use Rattle.gql_ast_laws.proofs.Whole.{node_once}
use Rattle.gql_cst.specs.Bare.{bare, TokensEnd}
use Rattle.gql_cst.specs.Forest.{Forest, Plain}
use Rattle.gql_cst.specs.TreeOf.{IsTreeOf}
use Rattle.gql_grammar.specs.declared.rule.Rule.{Rule}
use Rattle.gql_grammar.specs.declared.rule.Rule.TheVariants.{ConstValue}
use Rattle.gql_grammar.specs.declared.syntax_kind.SyntaxKind.TheVariants as kind
use Rattle.gql_client_schema.specs.Constants.{IsConstant, IsConstantOf, no_file}

abbrev pub TreesLaw : Type 0
TreesLaw = (start : Rule) (text : List ℕ) (one other : Forest) → IsTreeOf start text one → IsTreeOf start text other → bare one ≡ bare other

abbrev pub EndsLaw : Type 0
EndsLaw = (start : Rule) (text : List ℕ) (one : Forest) → IsTreeOf start text one → TokensEnd one

abbrev pub OneConstant : Type 0
OneConstant = (text one other : List ℕ) → IsConstant text one → IsConstant text other → one ≡ other

some_same : (a b : Value) → Some a ≡ Some b → a ≡ b
some_same a b h = cc

module _ (trees : TreesLaw) (ends : EndsLaw) (text : List ℕ) where
  -- all trees of the text stand for the same
  pub same_value : (one other : Plain) → one.kind ≡ kind.Value → other.kind ≡ kind.Value → IsTreeOf ConstValue text one.children → IsTreeOf ConstValue text other.children
      → value_of text no_file one ≡ value_of text no_file other
  same_value one other p q h k =
      node_once (value-blind text no_file) kind.Value refl one other p q
      (ends ConstValue text one.children h) (ends ConstValue text other.children k) (trees ConstValue text one.children other.children h k)

  one_value : (one other : Value) → IsConstantOf text one → IsConstantOf text other → one ≡ other
  one_value one other h k =
      some_same one other (sym h.means
      ∙ same_value (tree kind.Value 0 0 h.children) (tree kind.Value 0 0 k.children) refl refl h.tree k.tree ∙ k.means)

  pub one_constant : (one other : List ℕ) → IsConstant text one → IsConstant text other → one ≡ other
  one_constant one other h k = h.is ∙ ap value_text (one_value h.value k.value h.means k.means) ∙ sym k.is
