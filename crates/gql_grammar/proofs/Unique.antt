-- A list of words has at most one tree.
use Rattle.std.proofs.Common.{◌≡◌, Bool, true, false, if◌then◌else◌, List, [], ◌∷◌, Some, None, refl, sym, ◌∙◌, ap, subst}
use Rattle.gql_grammar.specs.declared.word.Word.{Word}
use Rattle.gql_grammar.specs.declared.symbol.Symbol.{Symbol}
use Rattle.gql_grammar.specs.declared.symbol.Symbol.TheVariants.{One, Repeated}
use Rattle.gql_grammar.specs.declared.rule.Rule.{Rule}
use Rattle.gql_grammar.specs.Word.{has}
use Rattle.gql_grammar.specs.Rule.{kind_of}
use Rattle.gql_grammar.specs.Factored.{factored}
use Rattle.gql_grammar.specs.Row.{Row, nothing, with_node}
use Rattle.gql_grammar.specs.Reads.{Reads, done, token, tree, group, skip, take, stop, again, leave, enter, wrap, IsOneOf, Sentence, is_brace_next}
use Rattle.gql_grammar.specs.Starts.{starts, leads, nowhere, chosen_way, way}
use Rattle.gql_grammar.specs.bridge.Decided.{follow, IsApart, BeginsWithBrace, IsDecided}
use Rattle.gql_grammar.proofs.Words.{false_true}
use Rattle.gql_grammar.proofs.Ways.{everywhere, chosen-only}
use Rattle.gql_grammar.proofs.Checked.{good_way, ways_apart}
use Rattle.gql_grammar.proofs.Front.{Fronts, Fronts-everywhere, front, One-front, solid-empty}
use Rattle.gql_grammar.proofs.Leads.{IsDecided-less}
use Rattle.gql_grammar.proofs.Steps.{some_same, some_none}
use Rattle.gql_grammar.proofs.Complete.{to_factored}
use Rattle.gql_grammar.proofs.Fitting.{Fits-read}

-- two readings end alike
abbrev pub Same : Row → Row → List Word → List Word → Type 0
Same y z vs us = (y ≡ z) × (vs ≡ us)

-- two ways of a rule that read the same words are one
pub ways_same : (r : Rule) {a b : List Symbol} (ws : List Word) {x y x2 y2 : Row} {vs vs2 : List Word}
    → IsOneOf a (factored r) → IsOneOf b (factored r) → Reads factored a x ws y vs → Reads factored b x2 ws y2 vs2 → b ≡ a
ways_same r [] m n d e = solid-empty (good_way r m).solid d
ways_same r {a = a} {b = b} (w ∷ ws) {vs = vs} {vs2 = vs2} m n d e =
    let one : leads everywhere a w ≡ true = front everywhere d (Fronts-everywhere vs) in
    let other : leads everywhere b w ≡ true = front everywhere e (Fronts-everywhere vs2) in
    sym (chosen-only (factored r) (ways_apart r) n w other ((good_way r n).itself w other))
    ∙ chosen-only (factored r) (ways_apart r) m w one ((good_way r m).itself w one)

-- where the rule can't begin with what stands behind it, it is not both read and left out
pub not_both : {A : Type 0} (behind : Word → Bool) (r : Rule) (ss : List Symbol) (ws : List Word) {x y z : Row} {vs us : List Word}
    → IsApart behind r ss → Fronts behind vs → Reads factored ss x ws y vs → Reads factored (One r ∷ []) x ws z us → A
not_both behind r ss [] apart f d e = solid-empty refl e
not_both behind r ss (w ∷ ws) apart f d e =
    false_true (front behind d f) (apart w (One-front e))

pub not_both_eager : {A : Type 0} (r : Rule) (ws : List Word) {x z : Row} {us : List Word}
    → BeginsWithBrace r → is_brace_next ws ≡ false → Reads factored (One r ∷ []) x ws z us → A
not_both_eager r [] b h e = solid-empty refl e
not_both_eager r (w ∷ ws) b h e = false_true (sym (b w) ∙ One-front e) h

pub same : (behind : Word → Bool) {ss : List Symbol} {x y : Row} {ws vs : List Word} → Reads factored ss x ws y vs
    → IsDecided behind ss → Fronts behind vs → {z : Row} {us : List Word} → Fronts behind us → Reads factored ss x ws z us → Same y z vs us
same behind done c f g done = (refl, refl)
same behind (token t w h d) c f g (token t2 w2 h2 e) = same behind d c f g e
same behind (tree {ss = ss} {x = x} {ws = ws} {us = ts} r k a inner i m d1 d2) c f {z = z} {us = us} g (tree {us = ts2} r2 k2 b inner2 i2 m2 e1 e2) =
    let e1a : Reads factored a nothing ws inner2 ts2 =
    subst (λ way. Reads factored way nothing ws inner2 ts2) (ways_same r ws m m2 d1 e1) e1 in
    let inside = same (leads behind ss) d1 (IsDecided-less (leads behind ss) (has (follow r)) c.0 a (good_way r m).decided)
    (front behind d2 f) (front behind e2 g) e1a in
    let e2a : Reads factored ss (with_node x k inner2) ts2 z us =
    subst (λ j. Reads factored ss (with_node x j inner2) ts2 z us) (some_same (kind_of r) k2 k i2 i) e2 in
    let e2b : Reads factored ss (with_node x k inner) ts2 z us =
    subst (λ o. Reads factored ss (with_node x k o) ts2 z us) (sym inside.0) e2a in
    same behind d2 c.1 f g (subst (λ os. Reads factored ss (with_node x k inner) os z us) (sym inside.1) e2b)
same behind (group {ss = ss} {x = x} {z = y1} {ws = ws} {us = ts} r a i m d1 d2) c f {z = z} {us = us} g (group {z = z1} {us = ts2} r2 b i2 m2 e1 e2) =
    let e1a : Reads factored a x ws z1 ts2 =
    subst (λ way. Reads factored way x ws z1 ts2) (ways_same r ws m m2 d1 e1) e1 in
    let inside = same (leads behind ss) d1 (IsDecided-less (leads behind ss) (has (follow r)) c.0 a (good_way r m).decided)
    (front behind d2 f) (front behind e2 g) e1a in
    let e2a : Reads factored ss y1 ts2 z us = subst (λ o. Reads factored ss o ts2 z us) (sym inside.0) e2 in
    same behind d2 c.1 f g (subst (λ os. Reads factored ss y1 os z us) (sym inside.1) e2a)
same behind (tree r k a inner i m d1 d2) c f g (group r2 b i2 m2 e1 e2) = some_none (kind_of r) k i i2
same behind (group r a i m d1 d2) c f g (tree r2 k b inner i2 m2 e1 e2) = some_none (kind_of r) k i2 i
same behind (skip r d) c f g (skip r2 e) = same behind d c.1.1 f g e
same behind (skip {ss = ss} {ws = ws} r d) c f g (take r2 e1 e2) = not_both behind r ss ws c.0 f d e1
same behind (take {ss = ss} {ws = ws} r d1 d2) c f g (skip r2 e) = not_both behind r ss ws c.0 g e d1
same behind (take {ss = ss} {x = x} {z = y1} r d1 d2) c f {z = z} {us = us} g (take {us = ts2} r2 e1 e2) =
    let inside = same (leads behind ss) d1 (c.1.0, tt) (front behind d2 f) (front behind e2 g) e1 in
    let e2a : Reads factored ss y1 ts2 z us = subst (λ o. Reads factored ss o ts2 z us) (sym inside.0) e2 in
    same behind d2 c.1.1 f g (subst (λ os. Reads factored ss y1 os z us) (sym inside.1) e2a)
same behind (stop r d) c f g (stop r2 e) = same behind d c.1.1 f g e
same behind (stop {ss = ss} {ws = ws} r d) c f g (again r2 e1 e2) = not_both behind r ss ws c.0 f d e1
same behind (again {ss = ss} {ws = ws} r d1 d2) c f g (stop r2 e) = not_both behind r ss ws c.0 g e d1
same behind (again {ss = ss} {x = x} {z = y1} r d1 d2) c f {z = z} {us = us} g (again {us = ts2} r2 e1 e2) =
    let inside = same (leads behind (Repeated r ∷ ss)) d1 (c.1.0, tt) (front behind d2 f) (front behind e2 g) e1 in
    let e2a : Reads factored (Repeated r ∷ ss) y1 ts2 z us = subst (λ o. Reads factored (Repeated r ∷ ss) o ts2 z us) (sym inside.0) e2 in
    same behind d2 c f g (subst (λ os. Reads factored (Repeated r ∷ ss) y1 os z us) (sym inside.1) e2a)
same behind (leave r h d) c f g (leave r2 h2 e) = same behind d c.1.1 f g e
same behind (leave {ws = ws} r h d) c f g (enter r2 e1 e2) = not_both_eager r ws c.0 h e1
same behind (enter {ws = ws} r d1 d2) c f g (leave r2 h e) = not_both_eager r ws c.0 h d1
same behind (enter {ss = ss} {x = x} {z = y1} r d1 d2) c f {z = z} {us = us} g (enter {us = ts2} r2 e1 e2) =
    let inside = same (leads behind ss) d1 (c.1.0, tt) (front behind d2 f) (front behind e2 g) e1 in
    let e2a : Reads factored ss y1 ts2 z us = subst (λ o. Reads factored ss o ts2 z us) (sym inside.0) e2 in
    same behind d2 c.1.1 f g (subst (λ os. Reads factored ss y1 os z us) (sym inside.1) e2a)
same behind (wrap k d) c f g (wrap k2 e) = same behind d c f g e

-- a list of words has at most one tree of each start
pub Sentence-unique : {start : Rule} {ws : List Word} {f h : Row} → Sentence start ws f → Sentence start ws h → f ≡ h
Sentence-unique d e = (same nowhere (to_factored (Fits-read d nothing)) ((λ w b. absurd (cc)), tt) tt tt (to_factored (Fits-read e nothing))).0

pub some_if : (b : Bool) (a : List Symbol) → b ≡ true → (if b then Some a else None) ≡ Some a
some_if true a h = refl
some_if false a h = cc

-- a way that reads words is the one that the first of them chooses
pub way-reads : (r : Rule) (w : Word) {a : List Symbol} {x y : Row} {ws vs : List Word}
    → IsOneOf a (factored r) → Reads factored a x (w ∷ ws) y vs → way r w ≡ Some a
way-reads r w {a = a} {vs = vs} m d =
    let one : leads everywhere a w ≡ true = front everywhere d (Fronts-everywhere vs) in
    let same : chosen_way r w ≡ a = chosen-only (factored r) (ways_apart r) m w one ((good_way r m).itself w one) in
    some_if (starts r w) (chosen_way r w) ((good_way r m).within w one) ∙ ap (λ b. Some b) same
