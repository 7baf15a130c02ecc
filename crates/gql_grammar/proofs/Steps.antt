-- What each turn leaves of the ways to end: as many as before it, for words that begin with the next one.
use Rattle.std.proofs.Common.{◌≡◌, Bool, true, false, List, [], ◌∷◌, ◌++◌, Option, Some, None, refl, sym, ◌∙◌, subst}
use Rattle.gql_grammar.specs.declared.word.Word.{Word}
use Rattle.gql_grammar.specs.declared.symbol.Symbol.{Symbol}
use Rattle.gql_grammar.specs.declared.symbol.Symbol.TheVariants.{Token, One, Optional, Repeated, Eager, Wrap, Close}
use Rattle.gql_grammar.specs.declared.symbol.Terminal.{Terminal}
use Rattle.gql_grammar.specs.declared.rule.Rule.{Rule}
use Rattle.gql_grammar.specs.declared.rule.Rule.TheVariants.{Document}
use Rattle.gql_grammar.specs.declared.syntax_kind.SyntaxKind.{SyntaxKind}
use Rattle.gql_grammar.specs.Word.{takes}
use Rattle.gql_grammar.specs.Rule.{kind_of}
use Rattle.gql_grammar.specs.Factored.{factored}
use Rattle.gql_grammar.specs.Row.{Row, nothing, node, with_leaf, with_node}
use Rattle.gql_grammar.specs.Reads.{Reads, done, token, tree, group, skip, take, stop, again, leave, enter, wrap, IsOneOf, is_brace_next}
use Rattle.gql_grammar.specs.Starts.{starts, leads, nowhere, chosen, way}
use Rattle.gql_grammar.specs.bridge.Decided.{IsApart, BeginsWithBrace}
use Rattle.gql_grammar.specs.bridge.Ends.{Ends, end, symbol, close}
use Rattle.gql_grammar.proofs.Words.{false_true}
use Rattle.gql_grammar.proofs.Ways.{everywhere, chosen-only, chosen-in, way-some}
use Rattle.gql_grammar.proofs.Checked.{good_way, ways_apart}
use Rattle.gql_grammar.proofs.Front.{Fronts-everywhere, front, One-front, solid-empty}
use Rattle.gql_grammar.proofs.Stacks.{Ends-append, Ends-split, Ends-front}

-- ---- a symbol is left out

pub optional_past : {r : Rule} {ss : List Symbol} {x : Row} {rows : List Row} {w : Word} {ws : List Word} {out : Row}
    → starts r w ≡ false → Ends (Optional r ∷ ss) x rows (w ∷ ws) out → Ends ss x rows (w ∷ ws) out
optional_past h (symbol (skip r done) e) = e
optional_past h (symbol (take r d done) e) = false_true (One-front d) h

pub repeated_past : {r : Rule} {ss : List Symbol} {x : Row} {rows : List Row} {w : Word} {ws : List Word} {out : Row}
    → starts r w ≡ false → Ends (Repeated r ∷ ss) x rows (w ∷ ws) out → Ends ss x rows (w ∷ ws) out
repeated_past h (symbol (stop r done) e) = e
repeated_past h (symbol (again r d d2) e) = false_true (One-front d) h

pub eager_past : {r : Rule} {ss : List Symbol} {x : Row} {rows : List Row} {w : Word} {ws : List Word} {out : Row}
    → starts r w ≡ false → Ends (Eager r ∷ ss) x rows (w ∷ ws) out → Ends ss x rows (w ∷ ws) out
eager_past h (symbol (leave r b done) e) = e
eager_past h (symbol (enter r d done) e) = false_true (One-front d) h

pub optional_end : {r : Rule} {ss : List Symbol} {x : Row} {rows : List Row} {out : Row}
    → Ends (Optional r ∷ ss) x rows [] out → Ends ss x rows [] out
optional_end (symbol (skip r done) e) = e
optional_end (symbol (take r d done) e) = solid-empty refl d

pub repeated_end : {r : Rule} {ss : List Symbol} {x : Row} {rows : List Row} {out : Row}
    → Ends (Repeated r ∷ ss) x rows [] out → Ends ss x rows [] out
repeated_end (symbol (stop r done) e) = e
repeated_end (symbol (again r d d2) e) = solid-empty refl d

pub eager_end : {r : Rule} {ss : List Symbol} {x : Row} {rows : List Row} {out : Row}
    → Ends (Eager r ∷ ss) x rows [] out → Ends ss x rows [] out
eager_end (symbol (leave r b done) e) = e
eager_end (symbol (enter r d done) e) = solid-empty refl d

pub optional_out : {r : Rule} {ss : List Symbol} {x : Row} {rows : List Row} {ws : List Word} {out : Row}
    → Ends ss x rows ws out → Ends (Optional r ∷ ss) x rows ws out
optional_out {r = r} e = symbol (skip r done) e

pub repeated_out : {r : Rule} {ss : List Symbol} {x : Row} {rows : List Row} {ws : List Word} {out : Row}
    → Ends ss x rows ws out → Ends (Repeated r ∷ ss) x rows ws out
repeated_out {r = r} e = symbol (stop r done) e

pub eager_out : {r : Rule} {ss : List Symbol} {x : Row} {rows : List Row} {ws : List Word} {out : Row}
    → is_brace_next ws ≡ false → Ends ss x rows ws out → Ends (Eager r ∷ ss) x rows ws out
eager_out {r = r} b e = symbol (leave r b done) e

-- ---- a rule is gone into

pub optional_into : {r : Rule} {ss : List Symbol} {x : Row} {rows : List Row} {w : Word} {ws : List Word} {out : Row}
    → IsApart nowhere r ss → starts r w ≡ true → Ends (Optional r ∷ ss) x rows (w ∷ ws) out → Ends (One r ∷ ss) x rows (w ∷ ws) out
optional_into {w = w} apart h (symbol (skip r done) e) = false_true (Ends-front e) (apart w h)
optional_into apart h (symbol (take r d done) e) = symbol d e

pub repeated_into : {r : Rule} {ss : List Symbol} {x : Row} {rows : List Row} {w : Word} {ws : List Word} {out : Row}
    → IsApart nowhere r ss → starts r w ≡ true → Ends (Repeated r ∷ ss) x rows (w ∷ ws) out → Ends (One r ∷ Repeated r ∷ ss) x rows (w ∷ ws) out
repeated_into {w = w} apart h (symbol (stop r done) e) = false_true (Ends-front e) (apart w h)
repeated_into apart h (symbol (again r d d2) e) = symbol d (symbol d2 e)

pub eager_into : {r : Rule} {ss : List Symbol} {x : Row} {rows : List Row} {w : Word} {ws : List Word} {out : Row}
    → BeginsWithBrace r → starts r w ≡ true → Ends (Eager r ∷ ss) x rows (w ∷ ws) out → Ends (One r ∷ ss) x rows (w ∷ ws) out
eager_into {w = w} brace h (symbol (leave r b done) e) = false_true h (brace w ∙ b)
eager_into brace h (symbol (enter r d done) e) = symbol d e

pub optional_from : {r : Rule} {ss : List Symbol} {x : Row} {rows : List Row} {ws : List Word} {out : Row}
    → Ends (One r ∷ ss) x rows ws out → Ends (Optional r ∷ ss) x rows ws out
optional_from {r = r} (symbol d e) = symbol (take r d done) e

pub eager_from : {r : Rule} {ss : List Symbol} {x : Row} {rows : List Row} {ws : List Word} {out : Row}
    → Ends (One r ∷ ss) x rows ws out → Ends (Eager r ∷ ss) x rows ws out
eager_from {r = r} (symbol d e) = symbol (enter r d done) e

pub repeated_from : {r : Rule} {ss : List Symbol} {x : Row} {rows : List Row} {ws : List Word} {out : Row}
    → Ends (One r ∷ Repeated r ∷ ss) x rows ws out → Ends (Repeated r ∷ ss) x rows ws out
repeated_from {r = r} (symbol d (symbol d2 e)) = symbol (again r d d2) e

-- ---- a rule is written out

abbrev pub has_ways : List (List Symbol) → Bool
has_ways [] = false
has_ways (a ∷ ways) = true

pub ways_exist : (r : Rule) → has_ways (factored r) ≡ true
ways_exist Document = refl
ways_exist _ = refl

pub chosen-one : (ways : List (List Symbol)) → has_ways ways ≡ true → (w : Word) → IsOneOf (chosen ways w) ways
chosen-one [] h w = absurd (cc)
chosen-one (a ∷ ways) h w = chosen-in a ways w

-- the way that a word chooses is one of the rule's
pub way-in : (r : Rule) (w : Word) (a : List Symbol) → way r w ≡ Some a → IsOneOf a (factored r)
way-in r w a h = subst (λ b. IsOneOf b (factored r)) (way-some r w a h).1 (chosen-one (factored r) (ways_exist r) w)

-- a way that reads words which begin with this one is the one that it chooses
pub same_way : (r : Rule) {w : Word} {a b : List Symbol} {x y : Row} {ws vs : List Word}
    → way r w ≡ Some a → IsOneOf b (factored r) → Reads factored b x (w ∷ ws) y vs → b ≡ a
same_way r {w = w} {a = a} {b = b} {vs = vs} h m d =
    let begun : leads everywhere b w ≡ true = front everywhere d (Fronts-everywhere vs) in
    sym (chosen-only (factored r) (ways_apart r) m w begun ((good_way r m).itself w begun)) ∙ (way-some r w a h).1

pub some_same : {A : Type 0} (o : Option A) (x y : A) → o ≡ Some x → o ≡ Some y → x ≡ y
some_same o x y h e = cc

pub some_none : {A : Type 0} {B : Type 0} (o : Option A) (x : A) → o ≡ Some x → o ≡ None → B
some_none o x h e = absurd (cc)

pub tree_into : {r : Rule} {k : SyntaxKind} {a ss : List Symbol} {x : Row} {rows : List Row} {w : Word} {ws : List Word} {out : Row}
    → way r w ≡ Some a → kind_of r ≡ Some k → Ends (One r ∷ ss) x rows (w ∷ ws) out → Ends (a ++ (Close k ∷ ss)) nothing (x ∷ rows) (w ∷ ws) out
tree_into {k = k} {a = a} {ss = ss} {x = x} {rows = rows} {w = w} {ws = ws} {out = out} h i (symbol (tree r k2 b inner i2 m d done) e) =
    let at_kind : Ends (b ++ (Close k ∷ ss)) nothing (x ∷ rows) (w ∷ ws) out =
    subst (λ j. Ends (b ++ (Close j ∷ ss)) nothing (x ∷ rows) (w ∷ ws) out) (some_same (kind_of r) k2 k i2 i) (Ends-append b d (close k2 e)) in
    subst (λ c. Ends (c ++ (Close k ∷ ss)) nothing (x ∷ rows) (w ∷ ws) out) (same_way r h m d) at_kind
tree_into h i (symbol (group r b i2 m d done) e) = some_none (kind_of r) _ i i2

pub group_into : {r : Rule} {a ss : List Symbol} {x : Row} {rows : List Row} {w : Word} {ws : List Word} {out : Row}
    → way r w ≡ Some a → kind_of r ≡ None → Ends (One r ∷ ss) x rows (w ∷ ws) out → Ends (a ++ ss) x rows (w ∷ ws) out
group_into h i (symbol (tree r k2 b inner i2 m d done) e) = some_none (kind_of r) _ i2 i
group_into {ss = ss} {x = x} {rows = rows} {w = w} {ws = ws} {out = out} h i (symbol (group r b i2 m d done) e) =
    subst (λ c. Ends (c ++ ss) x rows (w ∷ ws) out) (same_way r h m d) (Ends-append b d e)

pub no_close : {A : Type 0} {k : SyntaxKind} {ss : List Symbol} {x y : Row} {ws vs : List Word} → Reads factored (Close k ∷ ss) x ws y vs → A
no_close d = elim d [ ]

-- the open node ends
pub close_past : {k : SyntaxKind} {ss : List Symbol} {x y : Row} {rows : List Row} {ws : List Word} {out : Row}
    → Ends (Close k ∷ ss) y (x ∷ rows) ws out → Ends ss (with_node x k y) rows ws out
close_past (close k e) = e
close_past (symbol d e) = no_close d

pub tree_from : {r : Rule} {k : SyntaxKind} {a ss : List Symbol} {x : Row} {rows : List Row} {ws : List Word} {out : Row}
    → IsOneOf a (factored r) → kind_of r ≡ Some k → Ends (a ++ (Close k ∷ ss)) nothing (x ∷ rows) ws out → Ends (One r ∷ ss) x rows ws out
tree_from {r = r} {k = k} {a = a} m i e =
    let (inner, us, both) = Ends-split a (good_way r m).closeless e in
    symbol (tree r k a inner i m both.0 done) (close_past both.1)

pub group_from : {r : Rule} {a ss : List Symbol} {x : Row} {rows : List Row} {ws : List Word} {out : Row}
    → IsOneOf a (factored r) → kind_of r ≡ None → Ends (a ++ ss) x rows ws out → Ends (One r ∷ ss) x rows ws out
group_from {r = r} {a = a} m i e =
    let (z, us, both) = Ends-split a (good_way r m).closeless e in
    symbol (group r a i m both.0 done) both.1

-- ---- a word is taken, or what is there becomes a node

pub token_past : {t : Terminal} {ss : List Symbol} {x : Row} {rows : List Row} {w : Word} {ws : List Word} {out : Row}
    → Ends (Token t ∷ ss) x rows (w ∷ ws) out → (takes t w ≡ true) × Ends ss (with_leaf x w) rows ws out
token_past (symbol (token t w h done) e) = (h, e)

pub token_from : {t : Terminal} {ss : List Symbol} {x : Row} {rows : List Row} {w : Word} {ws : List Word} {out : Row}
    → takes t w ≡ true → Ends ss (with_leaf x w) rows ws out → Ends (Token t ∷ ss) x rows (w ∷ ws) out
token_from {t = t} {w = w} h e = symbol (token t w h done) e

pub token_end : {A : Type 0} {t : Terminal} {ss : List Symbol} {x : Row} {rows : List Row} {out : Row} → Ends (Token t ∷ ss) x rows [] out → A
token_end (symbol d e) = solid-empty refl d

pub rule_end : {A : Type 0} {r : Rule} {ss : List Symbol} {x : Row} {rows : List Row} {out : Row} → Ends (One r ∷ ss) x rows [] out → A
rule_end (symbol d e) = solid-empty refl d

pub rule_front : {r : Rule} {ss : List Symbol} {x : Row} {rows : List Row} {w : Word} {ws : List Word} {out : Row}
    → Ends (One r ∷ ss) x rows (w ∷ ws) out → starts r w ≡ true
rule_front e = Ends-front e

pub rest_end : {A : Type 0} {x : Row} {rows : List Row} {w : Word} {ws : List Word} {out : Row} → Ends [] x rows (w ∷ ws) out → A
rest_end e = elim e [ ]

pub wrap_past : {k : SyntaxKind} {ss : List Symbol} {x : Row} {rows : List Row} {ws : List Word} {out : Row}
    → Ends (Wrap k ∷ ss) x rows ws out → Ends ss (node k x nothing) rows ws out
wrap_past (symbol (wrap k done) e) = e

pub wrap_from : {k : SyntaxKind} {ss : List Symbol} {x : Row} {rows : List Row} {ws : List Word} {out : Row}
    → Ends ss (node k x nothing) rows ws out → Ends (Wrap k ∷ ss) x rows ws out
wrap_from {k = k} e = symbol (wrap k done) e
