-- Readings, put together and taken apart where lists of symbols are joined.
use Rattle.std.proofs.Common.{List, [], ◌∷◌, ◌++◌}
use Rattle.gql_grammar.specs.declared.word.Word.{Word}
use Rattle.gql_grammar.specs.declared.symbol.Symbol.{Symbol}
use Rattle.gql_grammar.specs.Grammar.{Grammar}
use Rattle.gql_grammar.specs.Row.{Row}
use Rattle.gql_grammar.specs.Reads.{Reads, done, token, tree, group, skip, take, stop, again, leave, enter, wrap}

pub Reads-append : {g : Grammar} {a b : List Symbol} {x z y : Row} {ws us vs : List Word}
    → Reads g a x ws z us → Reads g b z us y vs → Reads g (a ++ b) x ws y vs
Reads-append done e = e
Reads-append (token t w h d) e = token t w h (Reads-append d e)
Reads-append (tree r k way inner i m d1 d2) e = tree r k way inner i m d1 (Reads-append d2 e)
Reads-append (group r way i m d1 d2) e = group r way i m d1 (Reads-append d2 e)
Reads-append (skip r d) e = skip r (Reads-append d e)
Reads-append (take r d1 d2) e = take r d1 (Reads-append d2 e)
Reads-append (stop r d) e = stop r (Reads-append d e)
Reads-append (again r d1 d2) e = again r d1 (Reads-append d2 e)
Reads-append (leave r h d) e = leave r h (Reads-append d e)
Reads-append (enter r d1 d2) e = enter r d1 (Reads-append d2 e)
Reads-append (wrap k d) e = wrap k (Reads-append d e)

-- the first symbols read up to a row and to words, from which the others go on
abbrev pub Halves : Grammar → List Symbol → List Symbol → Row → List Word → Row → List Word → Type 0
Halves g a b x ws y vs = (z : Row) × (us : List Word) × (Reads g a x ws z us × Reads g b z us y vs)

pub first_symbol : {g : Grammar} {s : Symbol} {ss : List Symbol} {x y : Row} {ws vs : List Word}
    → Reads g (s ∷ ss) x ws y vs → Halves g (s ∷ []) ss x ws y vs
first_symbol (token t w h d) = (_, _, (token t w h done, d))
first_symbol (tree r k way inner i m d1 d2) = (_, _, (tree r k way inner i m d1 done, d2))
first_symbol (group r way i m d1 d2) = (_, _, (group r way i m d1 done, d2))
first_symbol (skip r d) = (_, _, (skip r done, d))
first_symbol (take r d1 d2) = (_, _, (take r d1 done, d2))
first_symbol (stop r d) = (_, _, (stop r done, d))
first_symbol (again r d1 d2) =
    let (z, us, both) = first_symbol d2 in
    (z, us, (again r d1 both.0, both.1))
first_symbol (leave r h d) = (_, _, (leave r h done, d))
first_symbol (enter r d1 d2) = (_, _, (enter r d1 done, d2))
first_symbol (wrap k d) = (_, _, (wrap k done, d))

pub Reads-split : {g : Grammar} (a : List Symbol) {b : List Symbol} {x y : Row} {ws vs : List Word}
    → Reads g (a ++ b) x ws y vs → Halves g a b x ws y vs
Reads-split [] d = (_, _, (done, d))
Reads-split (s ∷ a) d =
    let (z, us, both) = first_symbol d in
    let (z2, us2, both2) = Reads-split a both.1 in
    (z2, us2, (Reads-append both.0 both2.0, both2.1))
