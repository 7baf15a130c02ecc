-- A text's trees give one value.
use Rattle.std.proofs.Common.{◌≡◌, List, Some, refl, ◌∙◌, sym}
use Rattle.std.specs.Prelude.{ℕ}
use Rattle.gql_source.specs.declared.file_id.FileId.{FileId}
use Rattle.gql_grammar.specs.declared.rule.Rule.TheVariants.{ConstValue}
use Rattle.gql_grammar.specs.declared.syntax_kind.SyntaxKind.TheVariants as kind
use Rattle.gql_cst.specs.Forest.{Forest}
use Rattle.gql_ast_base.specs.Kinds.{is_kind}
use Rattle.gql_ast_base.specs.Parts.{head, location}
use Rattle.gql_ast_base.specs.Values.{contents, value_of, value_step}
use Rattle.gql_ast_base.specs.declared.value.Value.{Value}
use Rattle.gql_ast_base.specs.declared.value.ValueKind.{ValueKind}
use Rattle.gql_ast_laws.proofs.Blind.{tree}
use Rattle.gql_ast_laws.proofs.ValueMeaning.{value-blind}
use Rattle.gql_ast_laws.proofs.Whole.{node_once}
use Rattle.gql_print_laws.proofs.laws.texts_have_one_value.Goals as goal

abbrev placed : FileId → Forest → ValueKind → Value
placed file children found = record { kind = found; location = location file (tree kind.Value 0 0 children) }

value_is : (text : List ℕ) (file : FileId) (children : Forest) (found : ValueKind) → head (contents text file children) ≡ Some found
    → value_of text file (tree kind.Value 0 0 children) ≡ Some (placed file children found)
unfolding value_step is_kind
value_is text file children found h = rw (h) refl

one_kind : (a b : Value) → Some a ≡ Some b → a.kind ≡ b.kind
one_kind a b h = cc

pub returns : goal.returns
returns c =
    let law = c.texts_have_one_tree.ensures in
    λ text file one other h k.
    one_kind (placed file h.children one) (placed file k.children other)
    (sym (value_is text file h.children one h.means)
    ∙ node_once (value-blind text file) kind.Value refl (tree kind.Value 0 0 h.children) (tree kind.Value 0 0 k.children) refl refl
    (law.ends ConstValue text h.children h.tree) (law.ends ConstValue text k.children k.tree) (law.tree ConstValue text h.children k.children h.tree k.tree)
    ∙ value_is text file k.children other k.means)
