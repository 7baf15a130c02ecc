-- Things of one form in braces.
use Rattle.std.proofs.Common.{◌≡◌, ℕ, false, List, [], ◌∷◌, ◌++◌, map, Option, Some, None, refl, sym, ap, subst, arith}
use Rattle.std.specs.Prelude.{codes}
use Rattle.gql_source.specs.declared.file_id.FileId.{FileId}
use Rattle.gql_grammar.specs.declared.word.Word.{Word}
use Rattle.gql_grammar.specs.declared.word.Word.TheVariants.{BraceOpen, BraceClose}
use Rattle.gql_grammar.specs.declared.symbol.Symbol.{Symbol}
use Rattle.gql_grammar.specs.declared.symbol.Symbol.TheVariants.{Token, One, Repeated, Eager}
use Rattle.gql_grammar.specs.declared.symbol.Terminal.TheVariants.{Exactly}
use Rattle.gql_grammar.specs.declared.rule.Rule.{Rule}
use Rattle.gql_grammar.specs.declared.syntax_kind.SyntaxKind.{SyntaxKind}
use Rattle.gql_grammar.specs.Grammar.{declared}
use Rattle.gql_grammar.specs.Row.{level}
use Rattle.gql_grammar.specs.Rule.{kind_of}
use Rattle.gql_grammar.specs.Sentence.{IsOneOf, is_brace_next}
use Rattle.gql_cst.specs.Leaves.{node, part_of}
use Rattle.gql_ast_base.specs.Parts.{gather, inside}
use Rattle.gql_print_laws.specs.bridge.Said.{Text, Said, over, token, space, text_of, words_of, forest_at}
use Rattle.gql_sdl.specs.Pieces.{block}
use Rattle.gql_print_laws.specs.Forms.{Form}
use Rattle.gql_print_laws.specs.Printable.{Each}
use Rattle.gql_print_laws.proofs.Depths.{IsShallow}
use Rattle.gql_print_laws.proofs.Grammar.{FitsTo, no_symbol, one_token, one_node, ignored, leave, enter}
use Rattle.gql_print_laws.proofs.Parts.{part_said, inner}
use Rattle.gql_print_laws.proofs.Printed.{Printed, blanks, blanks_text, blanks_after, one_fits, blanks_fit, blanks_say, AllSay, blanks_shallow}
use Rattle.gql_print_laws.proofs.Reading.{After, after_over, brace_open, brace_close, mark_from, node_from, blank_after}
use Rattle.gql_print_laws.proofs.Standing.{inside_said, nodes_said, Stands, Only, inside_gathered}

abbrev close : Said
close = space (codes " ") (token (codes "}") over)

abbrev pub block_way : Rule → List Symbol
block_way r = Token (Exactly BraceOpen) ∷ One r ∷ Repeated r ∷ Token (Exactly BraceClose) ∷ []

module _ {X T V : Type 0} (form : Form X T V) where
  abbrev pub in_braces : (xs : List X) → Each (Printed form) xs → Option Said
  in_braces [] h = None
  in_braces (x ∷ xs) h = Some (token (codes "{") (blanks form (x ∷ xs) h close))

  module _ (k : SyntaxKind) where
    abbrev pub block_said : (xs : List X) → Each (Printed form) xs → Said → Said
    block_said xs h s = part_said k (in_braces xs h) s

    pub block_text : (xs : List X) (h : Each (Printed form) xs) (s : Said) → text_of (block_said xs h s) ≡ block (map form.written xs) ++ text_of s
    block_text [] h s = refl
    block_text (x ∷ xs) h s = ap (λ t. (codes " {" ++ t) ++ text_of s) (blanks_text form (x ∷ xs) h close)

    pub block_after : part_of k ≡ node → part_of form.kind ≡ node → (xs : List X) (h : Each (Printed form) xs) {s : Said} {rest : Text} → After s rest → After (block_said xs h s) rest
    block_after p q [] h a = a
    block_after p q (x ∷ xs) h a =
        blank_after (node_from p (mark_from brace_open (blanks_after form q (x ∷ xs) h (blank_after (mark_from brace_close (after_over a.ends))))) a.lexes)

    pub block_shallow : level form.kind ≡ 0 → level k ≡ 0 → (xs : List X) (h : Each (Printed form) xs) (s : Said) → IsShallow s → IsShallow (block_said xs h s)
    block_shallow l m [] h s a = a
    block_shallow l m (x ∷ xs) h s a = let b = blanks_shallow form l (x ∷ xs) h close (omega arith) in omega (arith, m, a, b)

    pub block_fits : (r : Rule) → kind_of r ≡ Some k → kind_of form.rule ≡ Some form.kind → IsOneOf (block_way form.rule) (declared r)
        → {ss : List Symbol} (xs : List X) (h : Each (Printed form) xs) {s : Said} {vs : List Word} → is_brace_next (words_of s ++ vs) ≡ false → FitsTo ss s vs
        → FitsTo (Eager r ∷ ss) (block_said xs h s) vs
    block_fits r e d o [] h b f = leave b f
    block_fits r e d o (x ∷ xs) h b f =
        enter (ignored (one_node r (block_way form.rule) e o
        (one_token refl (ignored (one_fits form d x h.0 (blanks_fit form d xs h.1 (ignored (one_token refl no_symbol)))))) f))

    module _ (text : Text) (file : FileId) where
      braces_say : (xs : List X) (h : Each (Printed form) xs) → AllSay form text file (nodes_said form.kind (inner (in_braces xs h))) (map form.told xs)
      braces_say [] h = tt
      braces_say (x ∷ xs) h = blanks_say form text file (x ∷ xs) h close tt

      pub block_is : part_of k ≡ node → part_of form.kind ≡ node → Only text (form.meant text file) form.says form.kind → (xs : List X) (h : Each (Printed form) xs) (s : Said) (n : ℕ)
          → Stands text n s → inside_said k s ≡ inner (in_braces xs h) → map form.says (gather (form.meant text file) (inside k (forest_at n s))) ≡ map form.told xs
      block_is p q only xs h s n r e =
          inside_gathered text (form.meant text file) form.says form.kind only q k p s n r (map form.told xs)
          (subst (λ i. AllSay form text file (nodes_said form.kind i) (map form.told xs)) (sym e) (braces_say xs h))
