-- The names and the nodes at the top of a row.
use Rattle.std.proofs.Common.{◌≡◌, ℕ, ◌+◌, ◌≤◌, Bool, true, false, if◌then◌else◌, List, [], ◌∷◌, ◌++◌, length, Some, None, refl, sym, ap, ◌∙◌, subst, arith}
use Rattle.std.specs.Prelude.{◌&&◌, not, nat_le}
use Rattle.std.proofs.lemmas.Bool.{eqb-true}
use Rattle.gql_grammar.specs.declared.word.Word.{Word}
use Rattle.gql_grammar.specs.declared.word.Word.TheVariants.{OtherName, OnWord, BooleanWord, NullWord}
use Rattle.gql_grammar.specs.declared.symbol.Symbol.{Symbol}
use Rattle.gql_grammar.specs.declared.symbol.Terminal.{Terminal}
use Rattle.gql_grammar.specs.declared.symbol.Terminal.TheVariants.{Exactly, AnyName, NameButOn, NameButLiteral}
use Rattle.gql_grammar.specs.declared.symbol.Symbol.TheVariants.{Token, One, Optional, Repeated, Eager, Wrap, Close}
use Rattle.gql_grammar.specs.declared.rule.Rule.{Rule}
use Rattle.gql_grammar.specs.declared.syntax_kind.SyntaxKind.{SyntaxKind}
use Rattle.gql_grammar.specs.Rule.{kind_of}
use Rattle.gql_grammar.specs.Word.{number, is_same, is_name, takes}
use Rattle.gql_grammar.specs.Row.{Row, nothing, leaf, node}
use Rattle.gql_grammar.specs.Sentence.{Fits, done, token, tree, group, skip, take, stop, again, leave, enter}

-- the words at the top of a row that are names
abbrev pub tops : Row → List Word
tops nothing = []
tops (leaf w x) = if is_name w then w ∷ tops x else tops x
tops (node k inner x) = tops x

-- each word that the terminal takes is a name
abbrev pub takes_names : Terminal → Bool
takes_names (Exactly w) = is_name w
takes_names AnyName = true
takes_names NameButOn = true
takes_names NameButLiteral = true

abbrev pub one_if : Bool → ℕ
one_if true = 1
one_if false = 0

-- so many names stand at the top of each row that the symbols make
abbrev pub least : List Symbol → ℕ
least [] = 0
least (Token t ∷ ss) = one_if (takes_names t) + least ss
least (One r ∷ ss) = least ss
least (Optional r ∷ ss) = least ss
least (Repeated r ∷ ss) = least ss
least (Eager r ∷ ss) = least ss
least (Wrap k ∷ ss) = least ss
least (Close k ∷ ss) = least ss

and-left : (a b : Bool) → (a && b) ≡ true → a ≡ true
and-left true b h = refl
and-left false b h = absurd (cc)

pub name-taken : (t : Terminal) (w : Word) → takes t w ≡ true → takes_names t ≡ true → is_name w ≡ true
name-taken (Exactly v) w h n = subst (λ k. nat_le (number OtherName) k ≡ true) (eqb-true (number v) (number w) h) n
name-taken AnyName w h n = h
name-taken NameButOn w h n = and-left (is_name w) (not (is_same w OnWord)) h
name-taken NameButLiteral w h n =
    and-left (is_name w) (not (is_same w BooleanWord)) (and-left (is_name w && not (is_same w BooleanWord)) (not (is_same w NullWord)) h)

least-append : (xs ys : List Symbol) → least ys ≤ least (xs ++ ys)
least-append [] ys = omega arith
least-append (Token t ∷ xs) ys = let h : least ys ≤ least (xs ++ ys) = least-append xs ys in omega arith
least-append (One r ∷ xs) ys = least-append xs ys
least-append (Optional r ∷ xs) ys = least-append xs ys
least-append (Repeated r ∷ xs) ys = least-append xs ys
least-append (Eager r ∷ xs) ys = least-append xs ys
least-append (Wrap r ∷ xs) ys = least-append xs ys
least-append (Close r ∷ xs) ys = least-append xs ys

counted : (a b : Bool) (w : Word) (x : Row) (k : ℕ) → is_name w ≡ b → (a ≡ true → b ≡ true) → k ≤ length (tops x) → one_if a + k ≤ length (tops (leaf w x))
counted true true w x k e h l = rw e (omega (arith, l))
counted false true w x k e h l = rw e (omega (arith, l))
counted false false w x k e h l = rw e (omega (arith, l))
counted true false w x k e h l = absurd (let c : false ≡ true = h refl in cc)

pub least-tops : {ss : List Symbol} {ws vs : List Word} {row : Row} → Fits ss ws row vs → least ss ≤ length (tops row)
least-tops done = omega arith
least-tops (token {ss = ss} {row = row} t w e f) = counted (takes_names t) (is_name w) w row (least ss) refl (name-taken t w e) (least-tops f)
least-tops (tree r k way e o f g) = least-tops g
least-tops (group {ss = ss} r way e o f) = let h = least-append way ss in let l = least-tops f in omega (arith, h, l)
least-tops (skip r f) = least-tops f
least-tops (take r f) = least-tops f
least-tops (stop r f) = least-tops f
least-tops (again r f) = least-tops f
least-tops (leave r e f) = least-tops f
least-tops (enter r f) = least-tops f

-- the symbol is one of these
pub data IsIn (s : Symbol) : List Symbol → Type 0 where
  first : {ss : List Symbol} → IsIn s (s ∷ ss)
  next : {other : Symbol} {ss : List Symbol} → IsIn s ss → IsIn s (other ∷ ss)

-- a node of the kind stands at the top of the row
pub data HasNode (k : SyntaxKind) : Row → Type 0 where
  at : {inner x : Row} → HasNode k (node k inner x)
  after_leaf : {w : Word} {x : Row} → HasNode k x → HasNode k (leaf w x)
  after_node : {j : SyntaxKind} {inner x : Row} → HasNode k x → HasNode k (node j inner x)

in-append : (s : Symbol) (xs ys : List Symbol) → IsIn s ys → IsIn s (xs ++ ys)
in-append s [] ys h = h
in-append s (x ∷ xs) ys h = next (in-append s xs ys h)

pub same-kind : (a b : SyntaxKind) → Some a ≡ Some b → a ≡ b
same-kind a b h = cc

-- what a symbol that makes a node leaves in each row that it stands before
made-node : (r s : Rule) (k j : SyntaxKind) (inner row : Row) → kind_of r ≡ Some k → kind_of s ≡ Some j → r ≡ s → HasNode k (node j inner row)
made-node r s k j inner row e f h = subst (λ i. HasNode k (node i inner row)) (same-kind k j (sym e ∙ ap kind_of h ∙ f)) at

pub has-node : {ss : List Symbol} {ws vs : List Word} {row : Row} (r : Rule) (k : SyntaxKind) → kind_of r ≡ Some k → Fits ss ws row vs → IsIn (One r) ss → HasNode k row
has-node r k e (done {vs = vs}) i = elim i [ ]
has-node r k e (token t w n f) (next i) = after_leaf (has-node r k e f i)
has-node r k e (tree {inner = inner} {row = row} s j way m o f g) first = made-node r r k j inner row e m refl
has-node r k e (tree s j way m o f g) (next i) = after_node (has-node r k e g i)
has-node r k e (group s way m o f) first = absurd (let c : Some k ≡ None = sym e ∙ m in cc)
has-node r k e (group {ss = ss} s way m o f) (next i) = has-node r k e f (in-append (One r) way ss i)
has-node r k e (skip s f) (next i) = has-node r k e f i
has-node r k e (take s f) (next i) = has-node r k e f (next i)
has-node r k e (stop s f) (next i) = has-node r k e f i
has-node r k e (again s f) (next i) = has-node r k e f (next (next i))
has-node r k e (leave s n f) (next i) = has-node r k e f i
has-node r k e (enter s f) (next i) = has-node r k e f (next i)
