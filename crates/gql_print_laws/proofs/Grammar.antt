-- What is said fits the symbols of the grammar, from the last piece to the first.
use Rattle.std.proofs.Common.{◌≡◌, true, false, List, [], ◌∷◌, ◌++◌, Some, None, sym, subst, append_assoc}
use Rattle.gql_grammar.specs.declared.word.Word.{Word}
use Rattle.gql_grammar.specs.declared.symbol.Symbol.{Symbol}
use Rattle.gql_grammar.specs.declared.symbol.Symbol.TheVariants.{Token, One, Optional, Repeated, Eager}
use Rattle.gql_grammar.specs.declared.symbol.Terminal.{Terminal}
use Rattle.gql_grammar.specs.declared.rule.Rule.{Rule}
use Rattle.gql_grammar.specs.declared.syntax_kind.SyntaxKind.{SyntaxKind}
use Rattle.gql_grammar.specs.Grammar.{declared}
use Rattle.gql_grammar.specs.Rule.{kind_of}
use Rattle.gql_grammar.specs.Sentence as sentence
use Rattle.gql_grammar.specs.Sentence.{Fits, IsOneOf, is_brace_next}
use Rattle.gql_grammar.specs.Word.{takes}
use Rattle.gql_cst.specs.Words.{word_of}
use Rattle.gql_print_laws.specs.bridge.Said.{Text, Said, over, token, space, under, row_of, words_of}

-- the symbols stand for what is said, and the words come behind it
pub record FitsTo (ss : List Symbol) (s : Said) (vs : List Word) : Type 0 where
  pub fits : Fits ss (words_of s ++ vs) (row_of s) vs

pub no_symbol : {vs : List Word} → FitsTo [] over vs
no_symbol = record { fits = sentence.done }

pub one_token : {ss : List Symbol} {t : Terminal} {w : Text} {s : Said} {vs : List Word} → takes t (word_of w) ≡ true → FitsTo ss s vs → FitsTo (Token t ∷ ss) (token w s) vs
one_token {t = t} {w = w} h f = record { fits = sentence.token t (word_of w) h f.fits }

pub ignored : {ss : List Symbol} {w : Text} {s : Said} {vs : List Word} → FitsTo ss s vs → FitsTo ss (space w s) vs
ignored f = record { fits = f.fits }

pub one_node : {ss : List Symbol} {k : SyntaxKind} {i s : Said} {vs : List Word} (r : Rule) (way : List Symbol) → kind_of r ≡ Some k → IsOneOf way (declared r)
    → FitsTo way i (words_of s ++ vs) → FitsTo ss s vs → FitsTo (One r ∷ ss) (under k i s) vs
one_node {ss = ss} {k = k} {i = i} {s = s} {vs = vs} r way e one f g = record {
  fits = subst (λ ws. Fits (One r ∷ ss) ws (row_of (under k i s)) vs) (sym (append_assoc (words_of i) (words_of s) vs)) (sentence.tree r k way e one f.fits g.fits);
}

pub one_group : {ss : List Symbol} {s : Said} {vs : List Word} (r : Rule) (way : List Symbol) → kind_of r ≡ None → IsOneOf way (declared r)
    → FitsTo (way ++ ss) s vs → FitsTo (One r ∷ ss) s vs
one_group r way e one f = record { fits = sentence.group r way e one f.fits }

pub skip : {ss : List Symbol} {r : Rule} {s : Said} {vs : List Word} → FitsTo ss s vs → FitsTo (Optional r ∷ ss) s vs
skip {r = r} f = record { fits = sentence.skip r f.fits }

pub take : {ss : List Symbol} {r : Rule} {s : Said} {vs : List Word} → FitsTo (One r ∷ ss) s vs → FitsTo (Optional r ∷ ss) s vs
take {r = r} f = record { fits = sentence.take r f.fits }

pub stop : {ss : List Symbol} {r : Rule} {s : Said} {vs : List Word} → FitsTo ss s vs → FitsTo (Repeated r ∷ ss) s vs
stop {r = r} f = record { fits = sentence.stop r f.fits }

pub again : {ss : List Symbol} {r : Rule} {s : Said} {vs : List Word} → FitsTo (One r ∷ Repeated r ∷ ss) s vs → FitsTo (Repeated r ∷ ss) s vs
again {r = r} f = record { fits = sentence.again r f.fits }

pub leave : {ss : List Symbol} {r : Rule} {s : Said} {vs : List Word} → is_brace_next (words_of s ++ vs) ≡ false → FitsTo ss s vs → FitsTo (Eager r ∷ ss) s vs
leave {r = r} h f = record { fits = sentence.leave r h f.fits }

pub enter : {ss : List Symbol} {r : Rule} {s : Said} {vs : List Word} → FitsTo (One r ∷ ss) s vs → FitsTo (Eager r ∷ ss) s vs
enter {r = r} f = record { fits = sentence.enter r f.fits }
