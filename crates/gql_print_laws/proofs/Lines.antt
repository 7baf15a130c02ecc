-- Definitions, each in a line of its own.
use Rattle.std.proofs.Common.{◌≡◌, Bool, true, false, List, [], ◌∷◌, ◌++◌, map, refl, sym, ap, ◌∙◌, subst, append_assoc, arith}
use Rattle.std.specs.Prelude.{codes}
use Rattle.std.specs.List.{flat_map}
use Rattle.gql_source.specs.declared.file_id.FileId.{FileId}
use Rattle.gql_grammar.specs.declared.symbol.Symbol.TheVariants.{One, Repeated}
use Rattle.gql_grammar.specs.declared.rule.Rule.TheVariants as rule
use Rattle.gql_grammar.specs.declared.syntax_kind.SyntaxKind.TheVariants as kind
use Rattle.gql_grammar.specs.Sentence.{is_brace_next}
use Rattle.gql_ast.specs.Documents.{definition_of}
use Rattle.gql_ast_base.specs.Kinds.{is_kind}
use Rattle.gql_print_laws.specs.bridge.Said.{Text, Said, over, space, under, text_of, words_of}
use Rattle.gql_sdl.specs.Schemas.{line, line_unless}
use Rattle.gql_print_laws.specs.Meant.{says}
use Rattle.gql_print_laws.specs.Plain.{Plain}
use Rattle.gql_print_laws.specs.Printable.{Each, Unless}
use Rattle.gql_print_laws.specs.Told.{unless}
use Rattle.gql_print_laws.proofs.Depths.{IsShallow}
use Rattle.gql_print_laws.proofs.Definition.{PrintedDefinition}
use Rattle.gql_print_laws.proofs.Grammar.{FitsTo, no_symbol, one_node, ignored, stop, again}
use Rattle.gql_print_laws.proofs.Reading.{From, nothing_begins, node_from, line_after}
use Rattle.gql_print_laws.proofs.Standing.{nodes_said, Only, AllMean}

-- a definition: its text, and what it tells
pub record Line : Type 0 where
  pub written : Text
  pub told : Plain

abbrev pub IsLine : Line → Type 0
IsLine l = PrintedDefinition l.written l.told

abbrev pub line_text : Line → Text
line_text l = line l.written

abbrev pub line_told : Line → Plain
line_told l = l.told

abbrev pub lines_said : (ls : List Line) → Each IsLine ls → Said
lines_said [] h = over
lines_said (l ∷ ls) h = under kind.Definition h.0.said (space (codes "\n") (lines_said ls h.1))

pub lines_text : (ls : List Line) (h : Each IsLine ls) → text_of (lines_said ls h) ≡ flat_map line_text ls
lines_text [] h = refl
lines_text (l ∷ ls) h =
    ap (λ t. t ++ (codes "\n" ++ text_of (lines_said ls h.1))) h.0.text ∙ ap (λ t. l.written ++ (codes "\n" ++ t)) (lines_text ls h.1)
    ∙ sym (append_assoc l.written (codes "\n") (flat_map line_text ls))

pub lines_from : (ls : List Line) (h : Each IsLine ls) → From (lines_said ls h) []
lines_from [] h = record { begins = nothing_begins; lexes = tt }
lines_from (l ∷ ls) h = let more = line_after (lines_from ls h.1) in node_from refl (h.0.from more.ends) more.lexes

pub lines_shallow : (ls : List Line) (h : Each IsLine ls) → IsShallow (lines_said ls h)
lines_shallow [] h = omega arith
lines_shallow (l ∷ ls) h = let a = h.0.shallow in let b = lines_shallow ls h.1 in omega (arith, a, b)

lines_apart : (ls : List Line) (h : Each IsLine ls) → is_brace_next (words_of (lines_said ls h) ++ []) ≡ false
lines_apart [] h = refl
lines_apart (l ∷ ls) h =
    let more = words_of (lines_said ls h.1) in
    subst (λ ws. is_brace_next ws ≡ false) (sym (append_assoc (words_of h.0.said) more [])) (h.0.apart (more ++ []))

pub lines_fit : (ls : List Line) (h : Each IsLine ls) → FitsTo (Repeated rule.Definition ∷ []) (lines_said ls h) []
lines_fit [] h = stop no_symbol
lines_fit (l ∷ ls) h = again (one_node rule.Definition h.0.way refl h.0.one (h.0.fits (lines_apart ls h.1)) (ignored (lines_fit ls h.1)))

-- a document has one definition at least
pub document_fits : (l : Line) (ls : List Line) (h : Each IsLine (l ∷ ls)) → FitsTo (One rule.Definition ∷ Repeated rule.Definition ∷ []) (lines_said (l ∷ ls) h) []
document_fits l ls h = one_node rule.Definition h.0.way refl h.0.one (h.0.fits (lines_apart ls h.1)) (ignored (lines_fit ls h.1))

module _ (text : Text) (file : FileId) where
  pub only_definition : Only text (definition_of text file) says kind.Definition
  unfolding definition_of
  only_definition t h = rw h refl

  pub lines_say : (ls : List Line) (h : Each IsLine ls) → AllMean text (definition_of text file) says kind.Definition (nodes_said kind.Definition (lines_said ls h)) (map line_told ls)
  unfolding is_kind
  lines_say [] h = tt
  lines_say (l ∷ ls) h = (h.0.means text file, lines_say ls h.1)

-- ---- the lines of things of which some are not written

module _ {X : Type 0} (hidden : X → Bool) (written : X → Text) (told : X → Plain) where
  abbrev pub kept : Bool → X → List Line → List Line
  kept true x ls = ls
  kept false x ls = record { written = written x; told = told x } ∷ ls

  abbrev pub lines_of : List X → List Line → List Line
  lines_of [] ls = ls
  lines_of (x ∷ xs) ls = kept (hidden x) x (lines_of xs ls)

  kept_text : (b : Bool) (x : X) (ls : List Line) (mine : Text) → mine ≡ line_unless b (written x) → flat_map line_text (kept b x ls) ≡ mine ++ flat_map line_text ls
  kept_text true x ls mine e = ap (λ t. t ++ flat_map line_text ls) (sym e)
  kept_text false x ls mine e = ap (λ t. t ++ flat_map line_text ls) (sym e)

  pub lines_of_text : (own : X → Text) → ((x : X) → own x ≡ line_unless (hidden x) (written x)) → (xs : List X) (ls : List Line)
      → flat_map line_text (lines_of xs ls) ≡ flat_map own xs ++ flat_map line_text ls
  lines_of_text own e [] ls = refl
  lines_of_text own e (x ∷ xs) ls =
      kept_text (hidden x) x (lines_of xs ls) (own x) (e x) ∙ ap (λ t. own x ++ t) (lines_of_text own e xs ls)
      ∙ sym (append_assoc (own x) (flat_map own xs) (flat_map line_text ls))

  kept_told : (b : Bool) (x : X) (ls : List Line) → map line_told (kept b x ls) ≡ unless b (told x) ++ map line_told ls
  kept_told true x ls = refl
  kept_told false x ls = refl

  pub lines_of_told : (xs : List X) (ls : List Line) → map line_told (lines_of xs ls) ≡ flat_map (λ x. unless (hidden x) (told x)) xs ++ map line_told ls
  lines_of_told [] ls = refl
  lines_of_told (x ∷ xs) ls =
      kept_told (hidden x) x (lines_of xs ls) ∙ ap (λ l. unless (hidden x) (told x) ++ l) (lines_of_told xs ls)
      ∙ sym (append_assoc (unless (hidden x) (told x)) (flat_map (λ x. unless (hidden x) (told x)) xs) (map line_told ls))

  kept_lines : (P : X → Type 0) → ((x : X) → P x → PrintedDefinition (written x) (told x)) → (b : Bool) (x : X) → Unless b (P x) → (ls : List Line) → Each IsLine ls → Each IsLine (kept b x ls)
  kept_lines P f true x h ls more = more
  kept_lines P f false x h ls more = (f x h, more)

  pub are_lines : (P : X → Type 0) → ((x : X) → P x → PrintedDefinition (written x) (told x)) → (xs : List X) → Each (λ x. Unless (hidden x) (P x)) xs → (ls : List Line) → Each IsLine ls
      → Each IsLine (lines_of xs ls)
  are_lines P f [] h ls more = more
  are_lines P f (x ∷ xs) h ls more = kept_lines P f (hidden x) x h.0 (lines_of xs ls) (are_lines P f xs h.1 ls more)
