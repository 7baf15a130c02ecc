-- Values that are said, and what is written of a default.
use Rattle.std.proofs.Common.{◌≡◌, Some, refl, sym, ap, ◌∙◌}
use Rattle.gql_source.specs.declared.file_id.FileId.{FileId}
use Rattle.gql_grammar.specs.declared.syntax_kind.SyntaxKind.TheVariants as kind
use Rattle.gql_cst.specs.Forest.{Forest}
use Rattle.gql_ast.specs.ValueText.{value_text}
use Rattle.gql_ast_base.specs.Kinds.{is_kind}
use Rattle.gql_ast_base.specs.Parts.{head, location}
use Rattle.gql_ast_base.specs.Values.{value_of, value_step, contents}
use Rattle.gql_ast_base.specs.declared.value.Value.{Value}
use Rattle.gql_ast_base.specs.declared.value.ValueKind.{ValueKind}
use Rattle.gql_ast_laws.proofs.Blind.{tree}
use Rattle.gql_print_laws.specs.Literal.{Literal, literal_in}
use Rattle.gql_print_laws.specs.bridge.Said.{Text, text_of, forest_at}
use Rattle.gql_print_laws.specs.Written.{IsConstant}
use Rattle.gql_print_laws.specs.bridge.Written.{content_said}
use Rattle.gql_print_laws.proofs.Meaning.{means}
use Rattle.gql_print_laws.proofs.Texts.{text_is_written}
use Rattle.gql_print_laws.proofs.Standing.{Only, Means}

module _ (text : Text) (file : FileId) where
  value_is : (children : Forest) (found : ValueKind) → head (contents text file children) ≡ Some found
      → value_of text file (tree kind.Value 0 0 children) ≡ Some (record { kind = found; location = location file (tree kind.Value 0 0 children) })
  unfolding value_step is_kind
  value_is children found h = rw (h) refl

  pub value_means : (l : Literal) → IsConstant l → Means text (value_of text file) literal_in kind.Value (content_said l) l
  value_means l h n r =
      let m = means text file l h n r.behind r.rest r.lexes in
      record {
        found = record { kind = m.found; location = location file (tree kind.Value 0 0 (forest_at n (content_said l))) };
        is = value_is (forest_at n (content_said l)) m.found m.is;
        same = m.same;
      }

  pub only_value : Only text (value_of text file) literal_in kind.Value
  unfolding value_step
  only_value t h = rw h refl

-- values with the same literal are written alike
pub written_alike : (one other : Value) → literal_in one ≡ literal_in other → value_text one ≡ value_text other
written_alike one other h = text_is_written one.kind ∙ ap (λ l. text_of (content_said l)) h ∙ sym (text_is_written other.kind)
