-- Stacks, put together and taken apart.
use Rattle.std.proofs.Common.{◌≡◌, Bool, true, List, [], ◌∷◌, ◌++◌, refl, sym, ◌∙◌}
use Rattle.gql_grammar.specs.declared.word.Word.{Word}
use Rattle.gql_grammar.specs.declared.symbol.Symbol.{Symbol}
use Rattle.gql_grammar.specs.declared.symbol.Symbol.TheVariants.{Token, One, Optional, Repeated, Eager, Wrap, Close}
use Rattle.gql_grammar.specs.Factored.{factored}
use Rattle.gql_grammar.specs.Row.{Row}
use Rattle.gql_grammar.specs.Reads.{Reads, done}
use Rattle.gql_grammar.specs.Starts.{leads, nowhere, begins}
use Rattle.gql_grammar.specs.bridge.Ends.{Ends, end, symbol, close, closes}
use Rattle.gql_grammar.proofs.Appended.{Reads-append, first_symbol}
use Rattle.gql_grammar.proofs.Checked.{is_closeless}
use Rattle.gql_grammar.proofs.Front.{Fronts, front}

pub Ends-append : (a : List Symbol) {ss : List Symbol} {x z : Row} {rows : List Row} {ws us : List Word} {out : Row}
    → Reads factored a x ws z us → Ends ss z rows us out → Ends (a ++ ss) x rows ws out
Ends-append [] done e = e
Ends-append (s ∷ a) d e =
    let (z, us, both) = first_symbol d in
    symbol both.0 (Ends-append a both.1 e)

pub closeless-tail : (s : Symbol) (a : List Symbol) → is_closeless (s ∷ a) ≡ true → is_closeless a ≡ true
closeless-tail (Token t) a h = h
closeless-tail (One r) a h = h
closeless-tail (Optional r) a h = h
closeless-tail (Repeated r) a h = h
closeless-tail (Eager r) a h = h
closeless-tail (Wrap k) a h = h
closeless-tail (Close k) a h = cc

-- the first symbols read up to a row and to words, from which the stack goes on
abbrev pub Parts : List Symbol → List Symbol → Row → List Row → List Word → Row → Type 0
Parts a ss x rows ws out = (z : Row) × (us : List Word) × (Reads factored a x ws z us × Ends ss z rows us out)

pub Ends-split : (a : List Symbol) → is_closeless a ≡ true → {ss : List Symbol} {x : Row} {rows : List Row} {ws : List Word} {out : Row}
    → Ends (a ++ ss) x rows ws out → Parts a ss x rows ws out
Ends-split [] h e = (_, _, (done, e))
Ends-split (s ∷ a) h (symbol d e) =
    let (z, us, both) = Ends-split a (closeless-tail s a h) e in
    (z, us, (Reads-append d both.0, both.1))
Ends-split (s ∷ a) h (close k e) = cc

pub leads-one : (behind : Word → Bool) (s : Symbol) (ss : List Symbol) (w : Word) → leads (leads behind ss) (s ∷ []) w ≡ leads behind (s ∷ ss) w
leads-one behind (Token t) ss w = refl
leads-one behind (One r) ss w = refl
leads-one behind (Optional r) ss w = refl
leads-one behind (Repeated r) ss w = refl
leads-one behind (Eager r) ss w = refl
leads-one behind (Wrap k) ss w = refl
leads-one behind (Close k) ss w = refl

pub Fronts-same : (p q : Word → Bool) → ((w : Word) → p w ≡ q w) → (ws : List Word) → Fronts p ws → Fronts q ws
Fronts-same p q f [] h = tt
Fronts-same p q f (w ∷ ws) h = sym (f w) ∙ h

-- the words that a stack reads begin with one that it can begin with
pub Ends-front : {ss : List Symbol} {x : Row} {rows : List Row} {ws : List Word} {out : Row} → Ends ss x rows ws out → Fronts (begins ss) ws
Ends-front end = tt
Ends-front (symbol {s = s} {ss = ss} {ws = ws} d e) =
    Fronts-same (leads (leads nowhere ss) (s ∷ [])) (begins (s ∷ ss)) (leads-one nowhere s ss) ws (front (leads nowhere ss) d (Ends-front e))
Ends-front (close k e) = Ends-front e

pub closes-append : (a b : List Symbol) → is_closeless a ≡ true → closes (a ++ b) ≡ closes b
closes-append [] b h = refl
closes-append (Token t ∷ a) b h = closes-append a b h
closes-append (One r ∷ a) b h = closes-append a b h
closes-append (Optional r ∷ a) b h = closes-append a b h
closes-append (Repeated r ∷ a) b h = closes-append a b h
closes-append (Eager r ∷ a) b h = closes-append a b h
closes-append (Wrap k ∷ a) b h = closes-append a b h
closes-append (Close k ∷ a) b h = cc
