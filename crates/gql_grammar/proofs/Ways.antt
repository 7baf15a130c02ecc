-- What a word tells of the ways to write a rule, by tests that compute.
use Rattle.std.proofs.Common.{◌≡◌, Bool, true, false, ◌&&◌, if◌then◌else◌, List, [], ◌∷◌, Some, None, refl}
use Rattle.gql_grammar.specs.declared.word.Word.{Word}
use Rattle.gql_grammar.specs.declared.word.Word.TheVariants.{BraceOpen}
use Rattle.gql_grammar.specs.declared.symbol.Symbol.{Symbol}
use Rattle.gql_grammar.specs.declared.symbol.Symbol.TheVariants.{Token, One, Optional, Repeated, Eager, Wrap, Close}
use Rattle.gql_grammar.specs.declared.rule.Rule.{Rule}
use Rattle.gql_grammar.specs.Word.{is_same, has}
use Rattle.gql_grammar.specs.Reads.{IsOneOf, here, there}
use Rattle.gql_grammar.specs.Starts.{starts, leads, begins, chosen, chosen_way, way}
use Rattle.gql_grammar.specs.bridge.Decided.{follow, IsDecided}
use Rattle.gql_grammar.proofs.Words.{and_true, every, every_at, implies, implies_true, excludes, excludes_true, agrees, agrees_true}

-- every word
abbrev pub everywhere : Word → Bool
everywhere w = true

pub none_of : {A : Type 0} {a : List Symbol} → IsOneOf a [] → A
none_of m = elim m [ ]

-- ---- at each symbol the next word decides

abbrev pub decides : (Word → Bool) → List Symbol → Bool
decides behind [] = true
decides behind (Token t ∷ ss) = decides behind ss
decides behind (One r ∷ ss) = every (λ w. implies (leads behind ss w) (has (follow r) w)) && decides behind ss
decides behind (Optional r ∷ ss) =
    every (λ w. excludes (starts r w) (leads behind ss w))
    && (every (λ w. implies (leads behind ss w) (has (follow r) w)) && decides behind ss)
decides behind (Repeated r ∷ ss) =
    every (λ w. excludes (starts r w) (leads behind ss w))
    && (every (λ w. implies (leads behind (Repeated r ∷ ss) w) (has (follow r) w)) && decides behind ss)
decides behind (Eager r ∷ ss) =
    every (λ w. agrees (starts r w) (is_same BraceOpen w))
    && (every (λ w. implies (leads behind ss w) (has (follow r) w)) && decides behind ss)
decides behind (Wrap k ∷ ss) = decides behind ss
decides behind (Close k ∷ ss) = decides behind ss

pub implied : (p q : Word → Bool) → every (λ w. implies (p w) (q w)) ≡ true → (w : Word) → p w ≡ true → q w ≡ true
implied p q h w = implies_true (p w) (q w) (every_at (λ v. implies (p v) (q v)) h w)

pub excluded : (p q : Word → Bool) → every (λ w. excludes (p w) (q w)) ≡ true → (w : Word) → p w ≡ true → q w ≡ false
excluded p q h w = excludes_true (p w) (q w) (every_at (λ v. excludes (p v) (q v)) h w)

pub agreed : (p q : Word → Bool) → every (λ w. agrees (p w) (q w)) ≡ true → (w : Word) → p w ≡ q w
agreed p q h w = agrees_true (p w) (q w) (every_at (λ v. agrees (p v) (q v)) h w)

pub decides-true : (behind : Word → Bool) (ss : List Symbol) → decides behind ss ≡ true → IsDecided behind ss
decides-true behind [] h = tt
decides-true behind (Token t ∷ ss) h = decides-true behind ss h
decides-true behind (One r ∷ ss) h =
    let two = and_true _ _ h in
    (implied (leads behind ss) (has (follow r)) two.0, decides-true behind ss two.1)
decides-true behind (Optional r ∷ ss) h =
    let two = and_true _ _ h in
    let more = and_true _ _ two.1 in
    (excluded (starts r) (leads behind ss) two.0, (implied (leads behind ss) (has (follow r)) more.0, decides-true behind ss more.1))
decides-true behind (Repeated r ∷ ss) h =
    let two = and_true _ _ h in
    let more = and_true _ _ two.1 in (
      excluded (starts r) (leads behind ss) two.0,
      (implied (leads behind (Repeated r ∷ ss)) (has (follow r)) more.0, decides-true behind ss more.1),
    )
decides-true behind (Eager r ∷ ss) h =
    let two = and_true _ _ h in
    let more = and_true _ _ two.1 in
    (agreed (starts r) (is_same BraceOpen) two.0, (implied (leads behind ss) (has (follow r)) more.0, decides-true behind ss more.1))
decides-true behind (Wrap k ∷ ss) h = decides-true behind ss h
decides-true behind (Close k ∷ ss) h = decides-true behind ss h

-- ---- no two ways begin with one word

abbrev pub apart_from : List Symbol → List (List Symbol) → Bool
apart_from first [] = true
apart_from first (other ∷ ways) = every (λ w. excludes (leads everywhere other w) (begins first w)) && apart_from first ways

abbrev pub all_apart : List (List Symbol) → Bool
all_apart [] = true
all_apart (first ∷ ways) = apart_from first ways && all_apart ways

pub apart_from-at : (first : List Symbol) (ways : List (List Symbol)) → apart_from first ways ≡ true
    → {a : List Symbol} → IsOneOf a ways → (w : Word) → leads everywhere a w ≡ true → begins first w ≡ false
apart_from-at first (other ∷ ways) h here w l = excluded (leads everywhere other) (begins first) (and_true _ _ h).0 w l
apart_from-at first (other ∷ ways) h (there m) w l = apart_from-at first ways (and_true _ _ h).1 m w l
apart_from-at first [] h m w l = none_of m

pub chosen-only : {a : List Symbol} (ways : List (List Symbol)) → all_apart ways ≡ true → IsOneOf a ways
    → (w : Word) → leads everywhere a w ≡ true → begins a w ≡ true → chosen ways w ≡ a
chosen-only [] h m w l b = none_of m
chosen-only (first ∷ []) h here w l b = refl
chosen-only (first ∷ []) h (there m) w l b = none_of m
chosen-only (first ∷ next ∷ ways) h here w l b = rw b refl
chosen-only (first ∷ next ∷ ways) h (there m) w l b =
    let two = and_true (apart_from first (next ∷ ways)) (all_apart (next ∷ ways)) h in
    let off = apart_from-at first (next ∷ ways) two.0 m w l in
    rw off (chosen-only (next ∷ ways) two.1 m w l b)

pub if_in : (ways : List (List Symbol)) (b : Bool) (x y : List Symbol) → IsOneOf x ways → IsOneOf y ways → IsOneOf (if b then x else y) ways
if_in ways true x y m n = m
if_in ways false x y m n = n

pub chosen-in : (first : List Symbol) (ways : List (List Symbol)) (w : Word) → IsOneOf (chosen (first ∷ ways) w) (first ∷ ways)
chosen-in first [] w = here
chosen-in first (next ∷ ways) w =
    if_in (first ∷ next ∷ ways) (begins first w) first (chosen (next ∷ ways) w) here (there (chosen-in next ways w))

-- ---- the way that the next word chooses

pub if_some : {A : Type 0} (b : Bool) (x y : A) → (if b then Some x else None) ≡ Some y → (b ≡ true) × (x ≡ y)
if_some true x y h = (refl, cc)
if_some false x y h = cc

pub if_none : {A : Type 0} (b : Bool) (x : A) → (if b then Some x else None) ≡ None → b ≡ false
if_none true x h = cc
if_none false x h = refl

pub way-some : (r : Rule) (w : Word) (a : List Symbol) → way r w ≡ Some a → (starts r w ≡ true) × (chosen_way r w ≡ a)
way-some r w a h = if_some (starts r w) (chosen_way r w) a h

pub way-none : (r : Rule) (w : Word) → way r w ≡ None → starts r w ≡ false
way-none r w h = if_none (starts r w) (chosen_way r w) h

-- ---- a test that each way of a rule passes

abbrev pub all_ways : (List Symbol → Bool) → List (List Symbol) → Bool
all_ways p [] = true
all_ways p (a ∷ ways) = p a && all_ways p ways

pub all_ways-at : (p : List Symbol → Bool) (ways : List (List Symbol)) → all_ways p ways ≡ true → {a : List Symbol} → IsOneOf a ways → p a ≡ true
all_ways-at p (a ∷ ways) h here = (and_true (p a) (all_ways p ways) h).0
all_ways-at p (a ∷ ways) h (there m) = all_ways-at p ways (and_true (p a) (all_ways p ways) h).1 m
all_ways-at p [] h m = none_of m
