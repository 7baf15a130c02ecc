-- What is read begins with a word that the symbols can begin with, and nothing is read of no words.
use Rattle.std.proofs.Common.{◌≡◌, Bool, true, List, [], ◌∷◌, refl}
use Rattle.gql_grammar.specs.declared.word.Word.{Word}
use Rattle.gql_grammar.specs.declared.symbol.Symbol.{Symbol}
use Rattle.gql_grammar.specs.declared.symbol.Symbol.TheVariants.{One, Optional, Repeated, Eager}
use Rattle.gql_grammar.specs.declared.rule.Rule.{Rule}
use Rattle.gql_grammar.specs.Factored.{factored}
use Rattle.gql_grammar.specs.Row.{Row}
use Rattle.gql_grammar.specs.Reads.{Reads, done, token, tree, group, skip, take, stop, again, leave, enter, wrap}
use Rattle.gql_grammar.specs.Starts.{starts, leads}
use Rattle.gql_grammar.proofs.Words.{or_left, or_right}
use Rattle.gql_grammar.proofs.Ways.{everywhere}
use Rattle.gql_grammar.proofs.Checked.{is_solid, good_way}

-- the test holds of the first word, if there is one
abbrev pub Fronts : (Word → Bool) → List Word → Type 0
Fronts p [] = Unit {0}
Fronts p (w ∷ ws) = p w ≡ true

pub Fronts-everywhere : (ws : List Word) → Fronts everywhere ws
Fronts-everywhere [] = tt
Fronts-everywhere (w ∷ ws) = refl

pub Fronts-map : (p q : Word → Bool) → ((w : Word) → p w ≡ true → q w ≡ true) → (ws : List Word) → Fronts p ws → Fronts q ws
Fronts-map p q f [] h = tt
Fronts-map p q f (w ∷ ws) h = f w h

pub front : (behind : Word → Bool) {ss : List Symbol} {x y : Row} {ws vs : List Word}
    → Reads factored ss x ws y vs → Fronts behind vs → Fronts (leads behind ss) ws
front behind done f = f
front behind (token t w h d) f = h
front behind (tree {ws = ws} {us = us} r k a inner i m d1 d2) f =
    Fronts-map (leads everywhere a) (starts r) (good_way r m).within ws (front everywhere d1 (Fronts-everywhere us))
front behind (group {ws = ws} {us = us} r a i m d1 d2) f =
    Fronts-map (leads everywhere a) (starts r) (good_way r m).within ws (front everywhere d1 (Fronts-everywhere us))
front behind (skip {ss = ss} {ws = ws} r d) f =
    Fronts-map (leads behind ss) (leads behind (Optional r ∷ ss)) (λ w h. or_right (starts r w) (leads behind ss w) h) ws (front behind d f)
front behind (take {ss = ss} {ws = ws} {us = us} r d1 d2) f =
    Fronts-map (starts r) (leads behind (Optional r ∷ ss)) (λ w h. or_left (starts r w) (leads behind ss w) h) ws (front everywhere d1 (Fronts-everywhere us))
front behind (stop {ss = ss} {ws = ws} r d) f =
    Fronts-map (leads behind ss) (leads behind (Repeated r ∷ ss)) (λ w h. or_right (starts r w) (leads behind ss w) h) ws (front behind d f)
front behind (again {ss = ss} {ws = ws} {us = us} r d1 d2) f =
    Fronts-map (starts r) (leads behind (Repeated r ∷ ss)) (λ w h. or_left (starts r w) (leads behind ss w) h) ws (front everywhere d1 (Fronts-everywhere us))
front behind (leave {ss = ss} {ws = ws} r b d) f =
    Fronts-map (leads behind ss) (leads behind (Eager r ∷ ss)) (λ w h. or_right (starts r w) (leads behind ss w) h) ws (front behind d f)
front behind (enter {ss = ss} {ws = ws} {us = us} r d1 d2) f =
    Fronts-map (starts r) (leads behind (Eager r ∷ ss)) (λ w h. or_left (starts r w) (leads behind ss w) h) ws (front everywhere d1 (Fronts-everywhere us))
front behind (wrap k d) f = front behind d f

-- one rule begins with a word that it can begin with
pub One-front : {r : Rule} {x y : Row} {w : Word} {ws vs : List Word} → Reads factored (One r ∷ []) x (w ∷ ws) y vs → starts r w ≡ true
One-front {vs = vs} d = front everywhere d (Fronts-everywhere vs)

pub solid-empty : {A : Type 0} {ss : List Symbol} {x y : Row} {vs : List Word} → is_solid ss ≡ true → Reads factored ss x [] y vs → A
solid-empty h done = absurd (cc)
solid-empty h (tree r k a inner i m d1 d2) = solid-empty (good_way r m).solid d1
solid-empty h (group r a i m d1 d2) = solid-empty (good_way r m).solid d1
solid-empty h (skip r d) = solid-empty h d
solid-empty h (take r d1 d2) = solid-empty refl d1
solid-empty h (stop r d) = solid-empty h d
solid-empty h (again r d1 d2) = solid-empty refl d1
solid-empty h (leave r b d) = solid-empty h d
solid-empty h (enter r d1 d2) = solid-empty refl d1
solid-empty h (wrap k d) = solid-empty h d
