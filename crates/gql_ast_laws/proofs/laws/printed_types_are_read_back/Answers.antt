use Rattle.std.proofs.Common.{◌≡◌, ◌+◌, true, [], length, refl, sym, ap, ◌∙◌, subst, arith, append-nil}
use Rattle.gql_source.specs.declared.file_id.FileId.{FileId}
use Rattle.gql_grammar.specs.declared.rule.Rule.TheVariants as rule
use Rattle.gql_grammar.specs.declared.syntax_kind.SyntaxKind.TheVariants as kind
use Rattle.gql_grammar.specs.Sentence.{Fits, done, tree}
use Rattle.gql_cst.specs.Leaves.{leaves}
use Rattle.gql_cst.specs.Sentences.{words, shown}
use Rattle.gql_ast_base.specs.Kinds.{is_kind}
use Rattle.gql_ast_laws.specs.Meant.{IsTypeOf}
use Rattle.gql_ast_base.specs.declared.type_ref.TypeRef.{TypeRef}
use Rattle.gql_ast_base.specs.Types.{type_step}
use Rattle.gql_ast.specs.TypeText.{type_text}
use Rattle.gql_ast_laws.specs.Printed.{has_names, unplaced, RefersTo}
use Rattle.gql_ast_laws.proofs.Levels.{Read}
use Rattle.gql_ast_laws.proofs.ReadBack.{reads_back, end-follows}
use Rattle.gql_ast_laws.proofs.laws.printed_types_are_read_back.Goals as goal

whole : (file : FileId) (ty : TypeRef) → has_names ty ≡ true → Read (type_text ty) file 0 (length (type_text ty)) ty
whole file ty h =
    let text = type_text ty in
    let n : 0 + length text ≡ length text = omega arith in
    subst (λ k. Read text file 0 k ty) n
    ((reads_back text file ty h).at 0 [] (record { is = sym (append-nil text); within = omega arith }) end-follows)

meant : (file : FileId) (ty : TypeRef) (r : Read (type_text ty) file 0 (length (type_text ty)) ty) → IsTypeOf (type_text ty) file r.read
unfolding type_step is_kind
meant file ty r = record {
  children = r.children;
  tree = record {
    tiles = r.tiles;
    sentence = tree rule.TypeReference kind.TypeReference r.way refl r.one
        (subst (λ ws. Fits r.way ws (shown (type_text ty) r.children) []) (append-nil (words (type_text ty) (leaves r.children))) (r.fits [])) done;
  };
  means = r.means;
}

refers : (file : FileId) (ty : TypeRef) → has_names ty ≡ true → RefersTo (type_text ty) file ty
refers file ty h = let r = whole file ty h in record { read = r.read; is = meant file ty r; same = r.same }

pub returns : goal.returns
returns c =
    let law = c.texts_have_one_type.ensures in
    record {
      refers = refers;
      alone = λ file ty read h is.
          let r = refers file ty h in
          ap unplaced (law.ty (type_text ty) file read r.read is r.is) ∙ r.same;
    }
