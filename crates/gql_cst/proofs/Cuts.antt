-- A row that a reader holds is one that its sentence has, cut behind the words that were read.
use Rattle.std.proofs.Common.{◌≡◌, Bool, true, List, [], ◌∷◌, refl, subst}
use Rattle.std.specs.List.{list_all}
use Rattle.gql_grammar.specs.declared.word.Word.{Word}
use Rattle.gql_grammar.specs.declared.rule.Rule.{Rule}
use Rattle.gql_grammar.specs.declared.rule.Rule.TheVariants.{Document}
use Rattle.gql_grammar.specs.declared.symbol.Symbol.{Symbol}
use Rattle.gql_grammar.specs.declared.symbol.Symbol.TheVariants.{Token, One, Optional, Repeated, Eager, Wrap, Close}
use Rattle.gql_grammar.specs.declared.syntax_kind.SyntaxKind.{SyntaxKind}
use Rattle.gql_grammar.specs.Factored.{factored}
use Rattle.gql_grammar.specs.Reads.{Reads, IsOneOf, here, there, done, token, tree, group, skip, take, stop, again, leave, enter, wrap}
use Rattle.gql_grammar.specs.Row as row
use Rattle.gql_grammar.specs.Row.{Row, joined, with_node}
use Rattle.gql_cst.specs.Cut.{is_filled, Cuts, behind, leaf, before, through, unmade}
use Rattle.gql_cst.specs.Late.{is_late}
use Rattle.gql_cst.proofs.Deeper.{up}
use Rattle.gql_cst.proofs.Ways.{both}

pub whole : (x : Row) → Cuts x x
whole row.nothing = behind
whole (row.leaf w x) = leaf w (whole x)
whole (row.node k inner x) = before k inner (whole x)

-- what the one row is cut of, the other is cut of
abbrev pub Leads : Row → Row → Type 0
Leads x y = (full : Row) → Cuts y full → Cuts x full

-- ---- the front of a row

nothing_front : (x z : Row) → row.nothing ≡ joined x z → x ≡ row.nothing
nothing_front row.nothing z e = refl
nothing_front (row.leaf w x) z e = cc
nothing_front (row.node k inner x) z e = cc

at_leaf : (x full : Row) (v w : Word) → w ≡ v → Cuts x full → Cuts (row.leaf v x) (row.leaf w full)
at_leaf x full v w e c = subst (λ (u : Word). Cuts (row.leaf u x) (row.leaf w full)) e (leaf w c)

at_node : (x full i j : Row) (h k : SyntaxKind) → k ≡ h → j ≡ i → Cuts x full → Cuts (row.node h i x) (row.node k j full)
at_node x full i j h k e f c =
    subst (λ (u : SyntaxKind). Cuts (row.node u i x) (row.node k j full)) e (subst (λ (u : Row). Cuts (row.node k u x) (row.node k j full)) f (before k j c))

at_cut : (x inner full rest : Row) (h k : SyntaxKind) → k ≡ h → x ≡ row.nothing → is_filled inner ≡ true → Cuts inner full → Cuts (row.node h inner x) (row.node k full rest)
at_cut x inner full rest h k e none filled c = subst (λ (u : SyntaxKind). Cuts (row.node u inner x) (row.node k full rest)) e (through k none filled c)

front_of : {all full : Row} → Cuts all full → (x z : Row) → all ≡ joined x z → Cuts x full
front_of c row.nothing z e = behind
front_of behind (row.leaf v x) z e = cc
front_of behind (row.node h i x) z e = cc
front_of (leaf {x = rest} {full = full} w c) (row.leaf v x) z e =
    let first : w ≡ v = cc in
    let next : rest ≡ joined x z = cc in
    at_leaf x full v w first (front_of c x z next)
front_of (leaf w c) (row.node h i x) z e = cc
front_of (before k j c) (row.leaf v x) z e = cc
front_of (before {x = rest} {full = full} k j c) (row.node h i x) z e =
    let same : k ≡ h = cc in
    let inner : j ≡ i = cc in
    let next : rest ≡ joined x z = cc in
    at_node x full i j h k same inner (front_of c x z next)
front_of (through k none filled c) (row.leaf v x) z e = cc
front_of (through {x = rest} {inner = j} {full = full} {rest = more} k none filled c) (row.node h i x) z e =
    let same : k ≡ h = cc in
    let inner : j ≡ i = cc in
    let next : row.nothing ≡ joined x z = cc in
    at_cut x i full more h k same (nothing_front x z next) (subst (λ (u : Row). is_filled u ≡ true) inner filled) (subst (λ (u : Row). Cuts u full) inner c)
front_of (unmade k l c) (row.leaf v x) z e = unmade k l (front_of c (row.leaf v x) z e)
front_of (unmade k l c) (row.node h i x) z e = unmade k l (front_of c (row.node h i x) z e)

leads-front : (x z : Row) → Leads x (joined x z)
leads-front x z full c = front_of c x z refl

-- ---- a node at the end of a row

something : (x : Row) (k : SyntaxKind) (z : Row) → row.nothing ≡ with_node x k z → ⊥
something row.nothing k z e = cc
something (row.leaf w x) k z e = cc
something (row.node h i x) k z e = cc

node_of : {all full : Row} → Cuts all full → (o : Row) (h : SyntaxKind) (x z : Row) → all ≡ with_node o h z → is_filled x ≡ true → Leads x z → Cuts (with_node o h x) full
node_of behind o h x z e some lead = absurd (something o h z e)
node_of (leaf w c) row.nothing h x z e some lead = cc
node_of (leaf {x = rest} {full = full} w c) (row.leaf v o) h x z e some lead =
    let first : w ≡ v = cc in
    let next : rest ≡ with_node o h z = cc in
    at_leaf (with_node o h x) full v w first (node_of c o h x z next some lead)
node_of (leaf w c) (row.node j i o) h x z e some lead = cc
node_of (before {full = full} k j c) row.nothing h x z e some lead =
    let same : k ≡ h = cc in
    let inner : j ≡ z = cc in
    at_cut row.nothing x j full h k same refl some (lead j (subst (λ (u : Row). Cuts u j) inner (whole j)))
node_of (before k j c) (row.leaf v o) h x z e some lead = cc
node_of (before {x = rest} {full = full} k j c) (row.node g i o) h x z e some lead =
    let same : k ≡ g = cc in
    let inner : j ≡ i = cc in
    let next : rest ≡ with_node o h z = cc in
    at_node (with_node o h x) full i j g k same inner (node_of c o h x z next some lead)
node_of (through {inner = j} {full = full} {rest = more} k none filled c) row.nothing h x z e some lead =
    let same : k ≡ h = cc in
    let inner : j ≡ z = cc in
    at_cut row.nothing x full more h k same refl some (lead full (subst (λ (u : Row). Cuts u full) inner c))
node_of (through k none filled c) (row.leaf v o) h x z e some lead = cc
node_of (through {x = rest} k none filled c) (row.node g i o) h x z e some lead =
    let next : row.nothing ≡ with_node o h z = cc in absurd (something o h z next)
node_of (unmade k l c) o h x z e some lead = unmade k l (node_of c o h x z e some lead)

pub leads-node : (o : Row) (k : SyntaxKind) (x z : Row) → is_filled x ≡ true → Leads x z → Leads (with_node o k x) (with_node o k z)
leads-node o k x z some lead full c = node_of c o k x z refl some lead

-- ---- a node that is made late

unmade_of : {all full : Row} → Cuts all full → (x : Row) (h : SyntaxKind) → all ≡ row.node h x row.nothing → is_late h ≡ true → Cuts x full
unmade_of behind x h e late = cc
unmade_of (leaf w c) x h e late = cc
unmade_of (before k j c) x h e late =
    let same : h ≡ k = cc in
    let inner : j ≡ x = cc in
    unmade k (subst (λ (u : SyntaxKind). is_late u ≡ true) same late) (subst (λ (u : Row). Cuts u j) inner (whole j))
unmade_of (through {inner = j} {full = full} k none filled c) x h e late =
    let same : h ≡ k = cc in
    let inner : j ≡ x = cc in
    unmade k (subst (λ (u : SyntaxKind). is_late u ≡ true) same late) (subst (λ (u : Row). Cuts u full) inner c)
unmade_of (unmade k l c) x h e late = unmade k l (unmade_of c x h e late)

leads-late : (k : SyntaxKind) (x : Row) → is_late k ≡ true → Leads x (row.node k x row.nothing)
leads-late k x late full c = unmade_of c x k refl late

-- ---- what symbols read

abbrev pub makes_late : Symbol → Bool
makes_late (Wrap kind) = is_late kind
makes_late (Close kind) = true
makes_late (Token terminal) = true
makes_late (One rule) = true
makes_late (Optional rule) = true
makes_late (Eager rule) = true
makes_late (Repeated rule) = true

ways_late : (r : Rule) → list_all (list_all makes_late) (factored r) ≡ true
ways_late Document = refl
ways_late _ = refl

one_late : {a : List Symbol} {ways : List (List Symbol)} → IsOneOf a ways → list_all (list_all makes_late) ways ≡ true → list_all makes_late a ≡ true
one_late {a = a} here h = (both (list_all makes_late a) _ h).0
one_late (there {other = other} m) h = one_late m (both (list_all makes_late other) _ h).1

pub then_leads : (x y z : Row) → Leads x y → Leads y z → Leads x z
then_leads x y z p q full c = p full (q full c)

pub reads-leads : {ss : List Symbol} {x y : Row} {ws vs : List Word} → Reads factored ss x ws y vs → list_all makes_late ss ≡ true → Leads x y
reads-leads done h = λ full c. c
reads-leads {y = y} (token {x = x} t w m d) h = then_leads x _ y (leads-front x (row.leaf w row.nothing)) (reads-leads d h)
reads-leads {y = y} (tree {x = x} r k way inner i m d e) h = then_leads x _ y (leads-front x (row.node k inner row.nothing)) (reads-leads e h)
reads-leads {x = x} {y = y} (group {z = z} r way i m d e) h = then_leads x z y (reads-leads d (one_late m (ways_late r))) (reads-leads e h)
reads-leads (skip r d) h = reads-leads d h
reads-leads {x = x} {y = y} (take {z = z} r d e) h = then_leads x z y (reads-leads d refl) (reads-leads e h)
reads-leads (stop r d) h = reads-leads d h
reads-leads {x = x} {y = y} (again {z = z} r d e) h = then_leads x z y (reads-leads d refl) (reads-leads e h)
reads-leads (leave r i d) h = reads-leads d h
reads-leads {x = x} {y = y} (enter {z = z} r d e) h = then_leads x z y (reads-leads d refl) (reads-leads e h)
reads-leads {y = y} (wrap {x = x} k d) h =
    let p = both (is_late k) _ h in
    then_leads x (row.node k x row.nothing) y (leads-late k x p.0) (reads-leads d p.1)

-- ---- once the open nodes have ended

pub filled_node : (x : Row) (k : SyntaxKind) (inner : Row) → is_filled (with_node x k inner) ≡ true
filled_node row.nothing k inner = refl
filled_node (row.leaf w x) k inner = refl
filled_node (row.node h i x) k inner = refl

pub filled_leaf : (x : Row) (w : Word) → is_filled (joined x (row.leaf w row.nothing)) ≡ true
filled_leaf row.nothing w = refl
filled_leaf (row.leaf v x) w = refl
filled_leaf (row.node h i x) w = refl

pub reads-filled : {ss : List Symbol} {x y : Row} {ws vs : List Word} → Reads factored ss x ws y vs → is_filled x ≡ true → is_filled y ≡ true
reads-filled done h = h
reads-filled (token {x = x} t w m d) h = reads-filled d (filled_leaf x w)
reads-filled (tree {x = x} r k way inner i m d e) h = reads-filled e (filled_node x k inner)
reads-filled (group r way i m d e) h = reads-filled e (reads-filled d h)
reads-filled (skip r d) h = reads-filled d h
reads-filled (take r d e) h = reads-filled e (reads-filled d h)
reads-filled (stop r d) h = reads-filled d h
reads-filled (again r d e) h = reads-filled e (reads-filled d h)
reads-filled (leave r i d) h = reads-filled d h
reads-filled (enter r d e) h = reads-filled e (reads-filled d h)
reads-filled (wrap k d) h = reads-filled d refl

pub up-leads : (ss : List Symbol) (x y : Row) (rows : List Row) → is_filled x ≡ true → Leads x y → Leads (up ss x rows) (up ss y rows)
up-leads [] x y rows some h = h
up-leads (Close k ∷ ss) x y [] some h = up-leads ss (row.node k x row.nothing) (row.node k y row.nothing) [] refl (leads-node row.nothing k x y some h)
up-leads (Close k ∷ ss) x y (z ∷ rows) some h = up-leads ss (with_node z k x) (with_node z k y) rows (filled_node z k x) (leads-node z k x y some h)
up-leads (Token t ∷ ss) x y rows some h = up-leads ss x y rows some h
up-leads (One r ∷ ss) x y rows some h = up-leads ss x y rows some h
up-leads (Optional r ∷ ss) x y rows some h = up-leads ss x y rows some h
up-leads (Repeated r ∷ ss) x y rows some h = up-leads ss x y rows some h
up-leads (Eager r ∷ ss) x y rows some h = up-leads ss x y rows some h
up-leads (Wrap k ∷ ss) x y rows some h = up-leads ss x y rows some h
