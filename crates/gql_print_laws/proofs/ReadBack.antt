-- What is written of a constant literal is a value by the grammar, with tokens one behind the other, and stands for the literal.
use Rattle.std.proofs.Common.{◌≡◌, ◌+◌, [], ◌++◌, length, refl, sym, subst, arith, append-nil}
use Rattle.gql_source.specs.declared.file_id.FileId.{FileId}
use Rattle.gql_grammar.specs.declared.rule.Rule.TheVariants as rule
use Rattle.gql_grammar.specs.declared.syntax_kind.SyntaxKind.TheVariants as kind
use Rattle.gql_grammar.specs.Sentence.{Fits, done, tree}
use Rattle.gql_cst.specs.Leaves.{leaves, Tiles}
use Rattle.gql_cst.specs.Sentences.{shown}
use Rattle.gql_ast_base.specs.declared.value.ValueKind.{ValueKind}
use Rattle.gql_print_laws.specs.Literal.{Literal, literal_of}
use Rattle.gql_print_laws.specs.bridge.Said.{Text, text_of, forest_at, row_of, words_of}
use Rattle.gql_print_laws.specs.Written.{IsConstant}
use Rattle.gql_print_laws.specs.bridge.Written.{content_said, Ends}
use Rattle.gql_print_laws.specs.ReadBack.{StandsFor}
use Rattle.gql_print_laws.proofs.Rest.{Rest}
use Rattle.gql_print_laws.proofs.Laid.{laid, shown_is, words_are}
use Rattle.gql_print_laws.proofs.Lexed.{lexes}
use Rattle.gql_print_laws.proofs.Fitting.{fits_value}
use Rattle.gql_ast.specs.ValueText.{kind_text}
use Rattle.gql_print_laws.proofs.Texts.{text_is_written}
use Rattle.gql_print_laws.proofs.Meaning.{means}

-- the text of a literal
abbrev pub written : Literal → Text
written l = text_of (content_said l)

nothing_ends : Ends []
nothing_ends = record { low = omega arith; stops = refl; no_dot = λ e. absurd (cc); no_quote = λ e. absurd (cc) }

pub reads_back : (l : Literal) (file : FileId) → IsConstant l → StandsFor (written l) file l
reads_back l file h =
    let text = written l in
    let s = content_said l in
    let r : Rest text 0 (text ++ []) = record { is = sym (append-nil text); within = omega arith } in
    let x = lexes l h [] nothing_ends in
    let long : 0 + length text ≡ length text = omega arith in
    let v = fits_value l h in
    let m = means text file l h 0 [] r x in
    let f : Fits v.way (words_of s) (row_of s) [] = subst (λ ws. Fits v.way ws (row_of s) []) (append-nil (words_of s)) (v.fits []) in
    record {
      read = m.found;
      is = record {
        children = forest_at 0 s;
        tree = record {
          tiles = subst (λ k. Tiles text 0 (leaves (forest_at 0 s)) k) long (laid text s 0 [] r x);
          sentence = tree rule.ConstValue kind.Value v.way refl v.one
              (subst (λ ws. Fits v.way ws (shown text (forest_at 0 s)) []) (sym (words_are text s 0 [] r x))
              (subst (λ y. Fits v.way (words_of s) y []) (sym (shown_is text s 0 [] r x)) f)) done;
        };
        means = m.is;
      };
      same = m.same;
    }

-- the text that a value is printed as
pub texts_read_back : (kind : ValueKind) (file : FileId) → IsConstant (literal_of kind) → StandsFor (kind_text kind) file (literal_of kind)
texts_read_back kind file h = subst (λ text. StandsFor text file (literal_of kind)) (sym (text_is_written kind)) (reads_back (literal_of kind) file h)
