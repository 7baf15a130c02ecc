-- Definitions, as they are said; and what stands at their heads.
use Rattle.std.proofs.Common.{◌≡◌, true, false, List, [], ◌∷◌, ◌++◌, Option, Some, None, refl, sym, ap, ◌∙◌, subst, append-nil, arith}
use Rattle.std.specs.Prelude.{codes, slice_get}
use Rattle.gql_source.specs.declared.file_id.FileId.{FileId}
use Rattle.gql_grammar.specs.declared.word.Word.{Word}
use Rattle.gql_grammar.specs.declared.word.Word.TheVariants.{BraceOpen}
use Rattle.gql_grammar.specs.declared.symbol.Symbol.{Symbol}
use Rattle.gql_grammar.specs.declared.symbol.Symbol.TheVariants.{Token, One, Optional}
use Rattle.gql_grammar.specs.declared.symbol.Terminal.TheVariants.{Exactly, AnyName}
use Rattle.gql_grammar.specs.declared.rule.Rule.{Rule}
use Rattle.gql_grammar.specs.declared.rule.Rule.TheVariants as rule
use Rattle.gql_grammar.specs.declared.syntax_kind.SyntaxKind.{SyntaxKind}
use Rattle.gql_grammar.specs.declared.syntax_kind.SyntaxKind.TheVariants as kind
use Rattle.gql_grammar.specs.Grammar.{declared}
use Rattle.gql_grammar.specs.Row.{level}
use Rattle.gql_grammar.specs.Rule.{kind_of}
use Rattle.gql_grammar.specs.Sentence.{IsOneOf, is_brace_next}
use Rattle.gql_grammar.specs.Word.{is_same}
use Rattle.gql_cst.specs.Leaves.{node, part_of}
use Rattle.gql_cst.specs.Words.{word_of}
use Rattle.gql_ast.specs.Documents.{choice_of, definition_of}
use Rattle.gql_ast_base.specs.Kinds.{is_kind}
use Rattle.gql_ast_base.specs.Names.{is_name}
use Rattle.gql_print_laws.specs.bridge.Said.{Text, Said, over, token, space, under, text_of, words_of, forest_at}
use Rattle.gql_print_laws.specs.bridge.Written.{Ends}
use Rattle.gql_print_laws.proofs.Named.{name_is_name}
use Rattle.gql_sdl.specs.Forms.{described}
use Rattle.gql_print_laws.specs.Meant.{says}
use Rattle.gql_print_laws.specs.Plain.{Plain}
use Rattle.gql_print_laws.proofs.Depths.{IsShallow}
use Rattle.gql_print_laws.proofs.Choices.{defined}
use Rattle.gql_print_laws.proofs.Grammar.{FitsTo, no_symbol, one_token, one_node, ignored}
use Rattle.gql_print_laws.proofs.Parts.{inner, described_said, description_said, described_text, described_from, described_fits, inside_described, own_description, names_described, described_shallow}
use Rattle.gql_print_laws.proofs.Reading.{After, From, name_from, node_from, blank_after}
use Rattle.gql_print_laws.proofs.Standing.{inside_said, names_said, down, Means}

-- how a definition is said: it is what is written, token by token, fits the rule where no `{` follows, does not begin with one,
-- and means what is told
pub record PrintedDefinition (written : Text) (told : Plain) : Type 0 where
  pub said : Said
  pub text : text_of said ≡ written
  pub from : {rest : Text} → Ends rest → From said rest
  pub way : List Symbol
  pub one : IsOneOf way (declared rule.Definition)
  pub fits : {vs : List Word} → is_brace_next vs ≡ false → FitsTo way said vs
  pub shallow : IsShallow said
  pub apart : (vs : List Word) → is_brace_next (words_of said ++ vs) ≡ false
  pub means : (text : Text) (file : FileId) → Means text (definition_of text file) says kind.Definition said told

module _ (r : Rule) (k : SyntaxKind) (i : Said) (written : Text) (told : Plain) where
  -- the one node under a definition
  pub record Under : Type 0 where
    pub text : text_of i ≡ written
    pub from : {rest : Text} → Ends rest → From i rest
    pub way : List Symbol
    pub one : IsOneOf way (declared r)
    pub fits : {vs : List Word} → is_brace_next vs ≡ false → FitsTo way i vs
    pub shallow : IsShallow i
    pub apart : (vs : List Word) → is_brace_next (words_of i ++ vs) ≡ false
    pub means : (text : Text) (file : FileId) → Means text (choice_of text file) says k i told

  pub definition_of_node : kind_of r ≡ Some k → part_of k ≡ node → level k ≡ 0 → IsOneOf (One r ∷ []) (declared rule.Definition) → Under → PrintedDefinition written told
  definition_of_node e p l o u = record {
    said = under k i over;
    text = append-nil (text_of i) ∙ u.text;
    from = λ a. node_from p (u.from a) tt;
    way = One r ∷ [];
    one = o;
    fits = λ b. one_node r u.way e u.one (u.fits b) no_symbol;
    shallow = let a = u.shallow in omega (arith, l, a);
    apart = λ vs. subst (λ ws. is_brace_next (ws ++ vs) ≡ false) (sym (append-nil (words_of i))) (u.apart vs);
    means = λ text file n st.
        let m = u.means text file n (down text n k i over st) in
        record { found = m.found; is = defined text file k (forest_at n i) m.found m.is; same = m.same };
  }

-- ---- a description, a keyword and a name

module _ (d : Option Text) (word name : Text) (body : Said) where
  abbrev named_said : Said
  named_said = token word (space (codes " ") (token name body))

  abbrev pub head_said : Said
  head_said = described_said d named_said

  pub head_text : text_of head_said ≡ described d ++ (word ++ (codes " " ++ (name ++ text_of body)))
  head_text = described_text d named_said

  pub head_description : inside_said kind.Description body ≡ over → inside_said kind.Description head_said ≡ inner (description_said d)
  head_description e = own_description d named_said e

  pub head_inside : (known : SyntaxKind) → is_kind kind.Description known ≡ false → inside_said known head_said ≡ inside_said known body
  head_inside known e = inside_described known d named_said e

  pub head_shallow : IsShallow body → IsShallow head_said
  head_shallow h = described_shallow d named_said h

  pub head_from : is_name word ≡ true → is_name name ≡ true → {rest : Text} → After body rest → From head_said rest
  head_from w n a = described_from d (name_from w (blank_after (name_from n a)))

  second_name : is_name word ≡ true → is_name name ≡ true → slice_get (names_said named_said) 1 ≡ Some name
  second_name w n = rw (w, n) refl

  pub head_name : is_name word ≡ true → is_name name ≡ true → slice_get (names_said head_said) 1 ≡ Some name
  head_name w n = ap (λ l. slice_get l 1) (names_described d named_said) ∙ second_name w n

  pub head_fits : {ss : List Symbol} {vs : List Word} (w : Word) → is_same w (word_of word) ≡ true → is_name name ≡ true → FitsTo ss body vs
      → FitsTo (Optional rule.Description ∷ Token (Exactly w) ∷ Token AnyName ∷ ss) head_said vs
  head_fits w e n f = described_fits d (one_token e (ignored (one_token (name_is_name name n) f)))

pub head_apart : (d : Option Text) (word : Text) (s : Said) → is_same BraceOpen (word_of word) ≡ false → (vs : List Word)
    → is_brace_next (words_of (described_said d (token word s)) ++ vs) ≡ false
head_apart None word s e vs = e
head_apart (Some t) word s e vs = refl
