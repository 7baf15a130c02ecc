-- Things of a form, as they are said; and several of them.
use Rattle.std.proofs.Common.{◌≡◌, true, List, [], ◌∷◌, ◌++◌, map, if◌then◌else◌, Some, refl, sym, ap, ◌∙◌, subst, append_assoc, arith}
use Rattle.std.specs.Prelude.{codes}
use Rattle.gql_source.specs.declared.file_id.FileId.{FileId}
use Rattle.gql_grammar.specs.declared.word.Word.{Word}
use Rattle.gql_grammar.specs.declared.symbol.Symbol.{Symbol}
use Rattle.gql_grammar.specs.declared.symbol.Symbol.TheVariants.{One, Repeated}
use Rattle.gql_grammar.specs.Grammar.{declared}
use Rattle.gql_grammar.specs.Row.{level}
use Rattle.gql_grammar.specs.Rule.{kind_of}
use Rattle.gql_grammar.specs.Sentence.{IsOneOf}
use Rattle.gql_cst.specs.Leaves.{node, part_of}
use Rattle.gql_ast_laws.proofs.TokenKinds.{same_kind}
use Rattle.gql_print_laws.specs.bridge.Said.{Text, Said, space, under, text_of}
use Rattle.gql_print_laws.specs.bridge.Written.{Ends}
use Rattle.gql_sdl.specs.Pieces.{pieces, spaced}
use Rattle.gql_print_laws.specs.Forms.{Form}
use Rattle.gql_print_laws.specs.Printable.{Each}
use Rattle.gql_print_laws.proofs.Depths.{IsShallow}
use Rattle.gql_print_laws.proofs.Grammar.{FitsTo, ignored, one_node, stop, again}
use Rattle.gql_print_laws.proofs.Reading.{After, From, node_from, blank_after, comma_after}
use Rattle.gql_print_laws.proofs.Standing.{nodes_said, Means, AllMean}

-- how one is said: it is what is written, token by token, fits the rule, and means what is told
pub record Printed {X T V : Type 0} (form : Form X T V) (it : X) : Type 0 where
  pub said : Said
  pub text : text_of said ≡ form.written it
  pub from : {rest : Text} → Ends rest → From said rest
  pub way : List Symbol
  pub one : IsOneOf way (declared form.rule)
  pub fits : {vs : List Word} → FitsTo way said vs
  pub shallow : IsShallow said
  pub means : (text : Text) (file : FileId) → Means text (form.meant text file) form.says form.kind said (form.told it)

pub each_printed : {X T V : Type 0} (form : Form X T V) (P : X → Type 0) → ((x : X) → P x → Printed form x) → (xs : List X) → Each P xs → Each (Printed form) xs
each_printed form P f [] h = tt
each_printed form P f (x ∷ xs) h = (f x h.0, each_printed form P f xs h.1)

module _ {X T V : Type 0} (form : Form X T V) where
  -- one, and what comes behind it
  abbrev pub one_said : (x : X) → Printed form x → Said → Said
  one_said x p s = under form.kind p.said s

  -- each behind a comma
  abbrev pub commas : (xs : List X) → Each (Printed form) xs → Said → Said
  commas [] h s = s
  commas (x ∷ xs) h s = space (codes ",") (space (codes " ") (under form.kind h.0.said (commas xs h.1 s)))

  -- each behind a space
  abbrev pub blanks : (xs : List X) → Each (Printed form) xs → Said → Said
  blanks [] h s = s
  blanks (x ∷ xs) h s = space (codes " ") (under form.kind h.0.said (blanks xs h.1 s))

  pub one_text : (x : X) (p : Printed form x) (s : Said) (more rest : Text) → text_of s ≡ more ++ rest → text_of (one_said x p s) ≡ (form.written x ++ more) ++ rest
  one_text x p s more rest e = ap (λ t. t ++ text_of s) p.text ∙ ap (λ t. form.written x ++ t) e ∙ sym (append_assoc (form.written x) more rest)

  pub commas_text : (xs : List X) (h : Each (Printed form) xs) (s : Said) → text_of (commas xs h s) ≡ pieces (codes ", ") true (map form.written xs) ++ text_of s
  commas_text [] h s = refl
  commas_text (x ∷ xs) h s =
      ap (λ t. codes ", " ++ t) (one_text x h.0 (commas xs h.1 s) (pieces (codes ", ") true (map form.written xs)) (text_of s) (commas_text xs h.1 s))

  pub blanks_text : (xs : List X) (h : Each (Printed form) xs) (s : Said) → text_of (blanks xs h s) ≡ spaced (map form.written xs) ++ text_of s
  blanks_text [] h s = refl
  blanks_text (x ∷ xs) h s =
      ap (λ t. codes " " ++ t) (one_text x h.0 (blanks xs h.1 s) (spaced (map form.written xs)) (text_of s) (blanks_text xs h.1 s))

  module _ (p : part_of form.kind ≡ node) where
    pub commas_after : (xs : List X) (h : Each (Printed form) xs) {s : Said} {rest : Text} → After s rest → After (commas xs h s) rest
    commas_after [] h a = a
    commas_after (x ∷ xs) h a = let more = commas_after xs h.1 a in comma_after (node_from p (h.0.from more.ends) more.lexes)

    pub blanks_after : (xs : List X) (h : Each (Printed form) xs) {s : Said} {rest : Text} → After s rest → After (blanks xs h s) rest
    blanks_after [] h a = a
    blanks_after (x ∷ xs) h a = let more = blanks_after xs h.1 a in blank_after (node_from p (h.0.from more.ends) more.lexes)

  module _ (e : kind_of form.rule ≡ Some form.kind) where
    pub one_fits : {ss : List Symbol} (x : X) (p : Printed form x) {s : Said} {vs : List Word} → FitsTo ss s vs → FitsTo (One form.rule ∷ ss) (one_said x p s) vs
    one_fits x p f = one_node form.rule p.way e p.one p.fits f

    pub commas_fit : {ss : List Symbol} (xs : List X) (h : Each (Printed form) xs) {s : Said} {vs : List Word} → FitsTo ss s vs → FitsTo (Repeated form.rule ∷ ss) (commas xs h s) vs
    commas_fit [] h f = stop f
    commas_fit (x ∷ xs) h f = again (ignored (ignored (one_fits x h.0 (commas_fit xs h.1 f))))

    pub blanks_fit : {ss : List Symbol} (xs : List X) (h : Each (Printed form) xs) {s : Said} {vs : List Word} → FitsTo ss s vs → FitsTo (Repeated form.rule ∷ ss) (blanks xs h s) vs
    blanks_fit [] h f = stop f
    blanks_fit (x ∷ xs) h f = again (ignored (one_fits x h.0 (blanks_fit xs h.1 f)))

  module _ (l : level form.kind ≡ 0) where
    pub one_shallow : (x : X) (p : Printed form x) (s : Said) → IsShallow s → IsShallow (one_said x p s)
    one_shallow x p s h = let a = p.shallow in omega (arith, l, a, h)

    pub commas_shallow : (xs : List X) (h : Each (Printed form) xs) (s : Said) → IsShallow s → IsShallow (commas xs h s)
    commas_shallow [] h s a = a
    commas_shallow (x ∷ xs) h s a = one_shallow x h.0 (commas xs h.1 s) (commas_shallow xs h.1 s a)

    pub blanks_shallow : (xs : List X) (h : Each (Printed form) xs) (s : Said) → IsShallow s → IsShallow (blanks xs h s)
    blanks_shallow [] h s a = a
    blanks_shallow (x ∷ xs) h s a = one_shallow x h.0 (blanks xs h.1 s) (blanks_shallow xs h.1 s a)

  module _ (text : Text) (file : FileId) where
    abbrev pub AllSay : List Said → List V → Type 0
    AllSay is vs = AllMean text (form.meant text file) form.says form.kind is vs

    pub one_says : (x : X) (p : Printed form x) (s : Said) (vs : List V) → AllSay (nodes_said form.kind s) vs → AllSay (nodes_said form.kind (one_said x p s)) (form.told x ∷ vs)
    one_says x p s vs h =
        subst (λ b. AllSay (if b then p.said ∷ nodes_said form.kind s else nodes_said form.kind s) (form.told x ∷ vs)) (sym (same_kind form.kind)) (p.means text file, h)

    pub commas_say : (xs : List X) (h : Each (Printed form) xs) (s : Said) → AllSay (nodes_said form.kind s) [] → AllSay (nodes_said form.kind (commas xs h s)) (map form.told xs)
    commas_say [] h s n = n
    commas_say (x ∷ xs) h s n = one_says x h.0 (commas xs h.1 s) (map form.told xs) (commas_say xs h.1 s n)

    pub blanks_say : (xs : List X) (h : Each (Printed form) xs) (s : Said) → AllSay (nodes_said form.kind s) [] → AllSay (nodes_said form.kind (blanks xs h s)) (map form.told xs)
    blanks_say [] h s n = n
    blanks_say (x ∷ xs) h s n = one_says x h.0 (blanks xs h.1 s) (map form.told xs) (blanks_say xs h.1 s n)
