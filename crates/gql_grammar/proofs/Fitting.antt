-- What fits is what the declared grammar makes of the words, and the other way round.
use Rattle.std.proofs.Common.{◌≡◌, true, not, List, [], ◌++◌, refl, sym, ◌∙◌, ap, subst, append_assoc}
use Rattle.gql_grammar.specs.declared.word.Word.{Word}
use Rattle.gql_grammar.specs.declared.symbol.Symbol.{Symbol}
use Rattle.gql_grammar.specs.Grammar.{declared}
use Rattle.gql_grammar.specs.Row.{Row, nothing, leaf, node, joined, with_leaf, with_node}
use Rattle.gql_grammar.specs.Sentence.{Fits}
use Rattle.gql_grammar.specs.Reads.{Reads, done, token, tree, group, skip, take, stop, again, leave, enter, wrap}
use Rattle.gql_grammar.proofs.Words.{and_true}
use Rattle.gql_grammar.proofs.Ways.{all_ways-at}
use Rattle.gql_grammar.proofs.Appended.{first_symbol, Reads-split}
use Rattle.gql_grammar.proofs.Sound.{is_tail, is_pure, one_pure, declared_pure}

pub joined-nothing : (x : Row) → joined x nothing ≡ x
joined-nothing nothing = refl
joined-nothing (leaf w x) = ap (λ y. leaf w y) (joined-nothing x)
joined-nothing (node k inner x) = ap (λ y. node k inner y) (joined-nothing x)

pub joined_assoc : (x y z : Row) → joined (joined x y) z ≡ joined x (joined y z)
joined_assoc nothing y z = refl
joined_assoc (leaf w x) y z = ap (λ v. leaf w v) (joined_assoc x y z)
joined_assoc (node k inner x) y z = ap (λ v. node k inner v) (joined_assoc x y z)

-- ---- what fits is made

pub Fits-read : {ss : List Symbol} {ws vs : List Word} {f : Row} → Fits ss ws f vs → (x : Row) → Reads declared ss x ws (joined x f) vs
Fits-read (Fits.done {vs = vs}) x = subst (λ y. Reads declared [] x vs y vs) (sym (joined-nothing x)) done
Fits-read (Fits.token {ss = ss} {ws = ws} {vs = vs} {row = f} t w h d) x =
    token t w h (subst (λ y. Reads declared ss (with_leaf x w) ws y vs) (joined_assoc x (leaf w nothing) f) (Fits-read d (with_leaf x w)))
Fits-read (Fits.tree {ss = ss} {us = us} {vs = vs} {inner = inner} {row = f} r k way i m d1 d2) x =
    tree r k way inner i m (Fits-read d1 nothing)
    (subst (λ y. Reads declared ss (with_node x k inner) us y vs) (joined_assoc x (node k inner nothing) f) (Fits-read d2 (with_node x k inner)))
Fits-read (Fits.group r way i m d) x =
    let (z, us, both) = Reads-split way (Fits-read d x) in group r way i m both.0 both.1
Fits-read (Fits.skip r d) x = skip r (Fits-read d x)
Fits-read (Fits.take r d) x =
    let (z, us, both) = first_symbol (Fits-read d x) in take r both.0 both.1
Fits-read (Fits.stop r d) x = stop r (Fits-read d x)
Fits-read (Fits.again r d) x =
    let (z, us, both) = first_symbol (Fits-read d x) in again r both.0 both.1
Fits-read (Fits.leave r h d) x = leave r h (Fits-read d x)
Fits-read (Fits.enter r d) x =
    let (z, us, both) = first_symbol (Fits-read d x) in enter r both.0 both.1

-- ---- what is made fits

pub Fits-append : {a b : List Symbol} {ws us vs : List Word} {f g : Row} → Fits a ws f us → Fits b us g vs → Fits (a ++ b) ws (joined f g) vs
Fits-append Fits.done e = e
Fits-append (Fits.token t w h d) e = Fits.token t w h (Fits-append d e)
Fits-append (Fits.tree r k way i m d1 d2) e = Fits.tree r k way i m d1 (Fits-append d2 e)
Fits-append {b = b} {vs = vs} {g = g} (Fits.group {ss = ss} {ws = ws} {row = f} r way i m d) e =
    Fits.group r way i m (subst (λ ts. Fits ts ws (joined f g) vs) (append_assoc way ss b) (Fits-append d e))
Fits-append (Fits.skip r d) e = Fits.skip r (Fits-append d e)
Fits-append (Fits.take r d) e = Fits.take r (Fits-append d e)
Fits-append (Fits.stop r d) e = Fits.stop r (Fits-append d e)
Fits-append (Fits.again r d) e = Fits.again r (Fits-append d e)
Fits-append (Fits.leave r h d) e = Fits.leave r h (Fits-append d e)
Fits-append (Fits.enter r d) e = Fits.enter r (Fits-append d e)

-- some row that fits lies behind the open row
abbrev pub Fitted : List Symbol → Row → List Word → Row → List Word → Type 0
Fitted ss x ws y vs = (f : Row) × ((joined x f ≡ y) × Fits ss ws f vs)

pub joined-both : (x f g z y : Row) → joined x f ≡ z → joined z g ≡ y → joined x (joined f g) ≡ y
joined-both x f g z y p q = sym (joined_assoc x f g) ∙ ap (λ v. joined v g) p ∙ q

pub both_fitted : {a b : List Symbol} (x z y : Row) {ws us vs : List Word} → Fitted a x ws z us → Fitted b z us y vs → Fitted (a ++ b) x ws y vs
both_fitted x z y p q = (joined p.0 q.0, (joined-both x p.0 q.0 z y p.1.0 q.1.0, Fits-append p.1.1 q.1.1))

pub read-Fits : {ss : List Symbol} {x y : Row} {ws vs : List Word} → is_pure ss ≡ true → Reads declared ss x ws y vs → Fitted ss x ws y vs
read-Fits p (done {x = x}) = (nothing, (joined-nothing x, Fits.done))
read-Fits p (token {x = x} t w h d) =
    let (f, q) = read-Fits p d in (leaf w f, (sym (joined_assoc x (leaf w nothing) f) ∙ q.0, Fits.token t w h q.1))
read-Fits p (tree {ss = ss} {x = x} {ws = ws} {us = us} r k way inner i m d1 d2) =
    let two = and_true (not (is_tail r)) (is_pure ss) p in
    let (f1, q1) = read-Fits (all_ways-at is_pure (declared r) (declared_pure r) m) d1 in
    let (f2, q2) = read-Fits two.1 d2 in
    let inside : Fits way ws inner us = subst (λ o. Fits way ws o us) q1.0 q1.1 in
    (node k inner f2, (sym (joined_assoc x (node k inner nothing) f2) ∙ q2.0, Fits.tree r k way i m inside q2.1))
read-Fits p (group {ss = ss} r way i m d1 d2) =
    let two = and_true (not (is_tail r)) (is_pure ss) p in
    let (f, q) = both_fitted _ _ _ (read-Fits (all_ways-at is_pure (declared r) (declared_pure r) m) d1) (read-Fits two.1 d2) in
    (f, (q.0, Fits.group r way i m q.1))
read-Fits p (skip {ss = ss} r d) =
    let (f, q) = read-Fits (and_true (not (is_tail r)) (is_pure ss) p).1 d in (f, (q.0, Fits.skip r q.1))
read-Fits p (take {ss = ss} r d1 d2) =
    let (f, q) = both_fitted _ _ _ (read-Fits (one_pure r (is_pure ss) p) d1) (read-Fits (and_true (not (is_tail r)) (is_pure ss) p).1 d2) in
    (f, (q.0, Fits.take r q.1))
read-Fits p (stop {ss = ss} r d) =
    let (f, q) = read-Fits (and_true (not (is_tail r)) (is_pure ss) p).1 d in (f, (q.0, Fits.stop r q.1))
read-Fits p (again {ss = ss} r d1 d2) =
    let (f, q) = both_fitted _ _ _ (read-Fits (one_pure r (is_pure ss) p) d1) (read-Fits p d2) in (f, (q.0, Fits.again r q.1))
read-Fits p (leave {ss = ss} r h d) =
    let (f, q) = read-Fits (and_true (not (is_tail r)) (is_pure ss) p).1 d in (f, (q.0, Fits.leave r h q.1))
read-Fits p (enter {ss = ss} r d1 d2) =
    let (f, q) = both_fitted _ _ _ (read-Fits (one_pure r (is_pure ss) p) d1) (read-Fits (and_true (not (is_tail r)) (is_pure ss) p).1 d2) in
    (f, (q.0, Fits.enter r q.1))
read-Fits p (wrap k d) = absurd (cc)

-- from an empty row on, what is made is what fits
pub whole_fits : {ss : List Symbol} {y : Row} {ws vs : List Word} → is_pure ss ≡ true → Reads declared ss nothing ws y vs → Fits ss ws y vs
whole_fits {ss = ss} {ws = ws} {vs = vs} p d =
    let (f, q) = read-Fits p d in subst (λ o. Fits ss ws o vs) q.0 q.1
