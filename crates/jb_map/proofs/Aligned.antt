-- A list of keys brought into a given order, one place after another.
use Rattle.std.proofs.Common.{◌≡◌, ℕ, zero, suc, ◌<◌, ◌≤◌, Bool, true, false, List, [], ◌∷◌, ◌||◌, length, get_or, take, swap, position, Option, Some, None, refl, sym, ap, subst, ◌∙◌, arith}
use mathlib.Core.Bool.{true≢false}
use Rattle.std.specs.List.{list_any, AllByRecursion}
use Rattle.std.specs.Str.{bytes_eq}
use Rattle.std.specs.Cmp.Lexicographic.{nat_list_eq_equiv}
use Rattle.std.proofs.lemmas.List.Quantifiers.{position-Some}
use Rattle.std.proofs.lemmas.Bool.Decides.{nat_tests}
use Rattle.indexmap.proofs.ReorderLemmas.{exchange, get_or-swap}
use Rattle.std.proofs.Common.{IfSome, Box}
use Rattle.std.specs.declared.alloc.Global.{Global}
use Rattle.jb_map.specs.bridge.Covers.{Covers}
use Rattle.jb_map.proofs.Positions.{absent_from_position, none_any}
use Rattle.jb_map.proofs.TextOrder.{same_text}

-- a key that is somewhere has a place
pub no_none : (k : List ℕ) (ks : List (List ℕ)) → list_any (bytes_eq k) ks ≡ true → position (bytes_eq k) ks ≡ None → ⊥
no_none k ks any none = true≢false (sym any ∙ none_any (bytes_eq k) ks (absent_from_position (bytes_eq k) ks none))

exchange_first : (a b : ℕ) → exchange a b a ≡ b
exchange_first a b = grind (arith, nat_tests)

exchange_below : (a b k : ℕ) → k < a → a ≤ b → exchange a b k ≡ k
exchange_below a b k lower le = grind (arith, nat_tests)

-- the key was found at a place that is not below this one
pub found_later : (k : List ℕ) (ks : List (List ℕ)) (i at : ℕ) → position (bytes_eq k) ks ≡ Some at
    → ((j : ℕ) (d : List ℕ) → j < i → bytes_eq k (get_or ks j d) ≡ false) → i ≤ at
found_later k ks i at found later =
    let passes = (position-Some (bytes_eq k) ks at k found).1 in
    let not_below : at < i → ⊥ = λ below. true≢false (sym passes ∙ later at k below) in
    omega arith

-- and is brought to this place by an exchange
pub placed_by_swap : (k : List ℕ) (ks : List (List ℕ)) (i at : ℕ) → position (bytes_eq k) ks ≡ Some at → i ≤ at → (d : List ℕ) → get_or (swap ks i at) i d ≡ k
placed_by_swap k ks i at found le d =
    let facts = position-Some (bytes_eq k) ks at d found in
    let within : at < length ks = facts.0 in
    get_or-swap ks i at d (omega arith) within i ∙ ap (λ n. get_or ks n d) (exchange_first i at) ∙ sym (same_text k (get_or ks at d) facts.1)

pub kept_by_swap : (ks : List (List ℕ)) (i at : ℕ) → i ≤ at → at < length ks → (j : ℕ) (d : List ℕ) → j < i → get_or (swap ks i at) j d ≡ get_or ks j d
kept_by_swap ks i at le within j d below =
    get_or-swap ks i at d (omega arith) within j ∙ ap (λ n. get_or ks n d) (exchange_below i at j below le)

-- a list with the same items at its first places
pub take_same : (n : ℕ) (xs ys : List (List ℕ)) → n ≤ length xs → n ≡ length ys → ((k : ℕ) (d : List ℕ) → k < n → get_or xs k d ≡ get_or ys k d) → take n xs ≡ ys
take_same zero xs [] le e f = refl
take_same zero xs (y ∷ ys) le e f = absurd (omega arith)
take_same (suc n) xs [] le e f = absurd (omega arith)
take_same (suc n) [] (y ∷ ys) le e f = absurd (omega arith)
take_same (suc n) (x ∷ xs) (y ∷ ys) le e f =
    let rest = take_same n xs ys (omega arith) (omega arith) (λ k d l. f (suc k) d (omega arith)) in
    λ i. f 0 x (omega arith) i ∷ rest i

all_mono : (P Q : List ℕ → Type 0) → ((k : List ℕ) → P k → Q k) → (ks : List (List ℕ)) → AllByRecursion P ks → AllByRecursion Q ks
all_mono P Q f [] h = tt
all_mono P Q f (k ∷ ks) h = (f k h.0, all_mono P Q f ks h.1)

or_true : (b c : Bool) → c ≡ true → (b || c) ≡ true
or_true true c h = refl
or_true false c h = h

-- a list of keys has all its own
pub covers_itself : (ks : List (List ℕ)) → Covers ks ks
covers_itself [] = tt
covers_itself (k ∷ ks) = (
  ap (λ b. b || list_any (bytes_eq k) ks) (nat_list_eq_equiv.refl k),
  all_mono (λ q. list_any (bytes_eq q) ks ≡ true) (λ q. list_any (bytes_eq q) (k ∷ ks) ≡ true) (λ q. or_true (bytes_eq q k) (list_any (bytes_eq q) ks)) ks (covers_itself ks),
)

pub covers_along : (all other ks : List (List ℕ)) → ((q : List ℕ) → list_any (bytes_eq q) other ≡ list_any (bytes_eq q) all) → Covers other ks → Covers all ks
covers_along all other ks same = all_mono (λ q. list_any (bytes_eq q) other ≡ true) (λ q. list_any (bytes_eq q) all ≡ true) (λ q h. sym (same q) ∙ h) ks

-- a table that is there has the keys
pub table_covers : (t : Option (Box (List (List ℕ)) Global)) (ks ls : List (List ℕ)) → IfSome t (λ b. b.value ≡ ks) → Covers ks ls → IfSome t (λ b. Covers b.value ls)
table_covers None ks ls fits covers = tt
table_covers (Some b) ks ls fits covers = subst (λ l. Covers l ls) (sym fits) covers

pub all_at : (P : List ℕ → Type 0) (ks : List (List ℕ)) (i : ℕ) (d : List ℕ) → i < length ks → AllByRecursion P ks → P (get_or ks i d)
all_at P [] i d within h = absurd (omega arith)
all_at P (k ∷ ks) zero d within h = h.0
all_at P (k ∷ ks) (suc i) d within h = all_at P ks i d (omega arith) h.1
