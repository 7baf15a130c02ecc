-- The longest row of items: one item and the rest, or none.
use Rattle.std.proofs.Common.{◌≡◌, ℕ, zero, suc, ◌+◌, ◌-◌, ◌<◌, ◌≤◌, Bool, true, false, [], ◌∷◌, length, drop, get_or, refl, sym, arith}
use Rattle.std.specs.Prelude.{◌==◌, if◌then◌else◌}
use Rattle.std.specs.List.{prefix_len}
use Rattle.gql_lexer.specs.Class.{Text}
use Rattle.gql_lexer.specs.Lex.{run_from, run_len}
use Rattle.gql_lexer.proofs.Choices.{not_zero}

run_from-drop : (item : Text → ℕ) (n : ℕ) (at : Text) → n ≤ length at → run_from item n at ≡ n + run_from item 0 (drop n at)
run_from-drop item zero at h = sym (omega arith)
run_from-drop item (suc n) [] h = absurd (omega arith)
run_from-drop item (suc n) (b ∷ at) h = omega (arith, run_from-drop item n at (omega arith))

item_then-rest : (item : Text → ℕ) (b : ℕ) (at : Text) (n : ℕ) → 0 < n → n ≤ suc (length at)
    → (if n == 0 then 0 else 1 + run_from item (n - 1) at) ≡ n + run_from item 0 (drop n (b ∷ at))
item_then-rest item b at zero some h = absurd (omega arith)
item_then-rest item b at (suc n) some h =
    let e : suc n - 1 ≡ n = omega arith in
    rw (not_zero n, e) (omega (arith, run_from-drop item n at (omega arith)))

pub run_len-item : (item : Text → ℕ) (at : Text) → 0 < item at → item at ≤ length at → run_len item at ≡ item at + run_len item (drop (item at) at)
unfolding run_len
run_len-item item [] some h = absurd (omega arith)
run_len-item item (b ∷ at) some h = item_then-rest item b at (item (b ∷ at)) some h

some_then : (n m : ℕ) → 0 < n → 0 < (if n == 0 then 0 else 1 + m)
some_then zero m h = absurd (omega arith)
some_then (suc n) m h = rw (not_zero n) (omega arith)

pub run_len-some : (item : Text → ℕ) (at : Text) → 0 < length at → 0 < item at → 0 < run_len item at
unfolding run_len
run_len-some item [] h some = absurd (omega arith)
run_len-some item (b ∷ at) h some = some_then (item (b ∷ at)) (run_from item (item (b ∷ at) - 1) at) some

pub run_len-none : (item : Text → ℕ) (at : Text) → item at ≡ 0 → run_len item at ≡ 0
unfolding run_len
run_len-none item [] h = refl
run_len-none item (b ∷ at) h = rw h refl

stops_at : (item : Text → ℕ) (b : ℕ) (at : Text) → ((n : ℕ) → item (drop (run_from item n at) at) ≡ 0) → (n : ℕ) → item (b ∷ at) ≡ n
    → item (drop (if n == 0 then 0 else 1 + run_from item (n - 1) at) (b ∷ at)) ≡ 0
stops_at item b at more zero e = e
stops_at item b at more (suc n) e =
    let f : 1 + run_from item (suc n - 1) at ≡ suc (run_from item (suc n - 1) at) = omega arith in
    rw (not_zero n, f) (more (suc n - 1))

-- no item begins where the row ends
stops : (item : Text → ℕ) → ((s : Text) → item s ≤ length s) → (n : ℕ) (at : Text) → item (drop (run_from item n at) at) ≡ 0
stops item fits zero [] = omega (arith, fits [])
stops item fits (suc n) [] = omega (arith, fits [])
stops item fits (suc n) (b ∷ at) = let e : 1 + run_from item n at ≡ suc (run_from item n at) = omega arith in rw e (stops item fits n at)
stops item fits zero (b ∷ at) = stops_at item b at (λ n. stops item fits n at) (item (b ∷ at)) refl

pub run_len-stops : (item : Text → ℕ) → ((s : Text) → item s ≤ length s) → (at : Text) → item (drop (run_len item at) at) ≡ 0
unfolding run_len
run_len-stops item fits at = stops item fits 0 at

-- ---- a row that begins with items of one byte each, those that pass `p`

pub prefix_len-first : (p : ℕ → Bool) (at : Text) → 0 < length at → p (get_or at 0 0) ≡ true → prefix_len p at ≡ 1 + prefix_len p (drop 1 at)
prefix_len-first p [] some h = absurd (omega arith)
prefix_len-first p (b ∷ at) some h = rw h refl

pub run_len-byte : (item : Text → ℕ) (b : ℕ) (at : Text) → item (b ∷ at) ≡ 1 → run_len item (b ∷ at) ≡ 1 + run_len item at
run_len-byte item b at e = rw e at (run_len-item item (b ∷ at) (omega (arith, e)) (omega (arith, e)))

bytes_from : (item : Text → ℕ) (p : ℕ → Bool) → ((b : ℕ) (at : Text) → p b ≡ true → item (b ∷ at) ≡ 1) → (b : ℕ) (at : Text)
    → run_len item at ≡ prefix_len p at + run_len item (drop (prefix_len p at) at) → (q : Bool) → p b ≡ q
    → run_len item (b ∷ at) ≡ prefix_len p (b ∷ at) + run_len item (drop (prefix_len p (b ∷ at)) (b ∷ at))
bytes_from item p one b at more true e =
    let s : 1 + prefix_len p at ≡ suc (prefix_len p at) = omega arith in
    rw (e, s) (omega (arith, run_len-byte item b at (one b at e), more))
bytes_from item p one b at more false e = rw e (omega arith)

pub run_len-bytes : (item : Text → ℕ) (p : ℕ → Bool) → ((b : ℕ) (at : Text) → p b ≡ true → item (b ∷ at) ≡ 1) → (at : Text)
    → run_len item at ≡ prefix_len p at + run_len item (drop (prefix_len p at) at)
run_len-bytes item p one [] = omega arith
run_len-bytes item p one (b ∷ at) = bytes_from item p one b at (run_len-bytes item p one at) (p b) refl
