-- The starts of lines: one more byte of the text, and those up to an offset among all of them.
use Rattle.std.proofs.Common.{◌≡◌, ℕ, zero, suc, ◌+◌, ◌-◌, ◌<◌, ◌≤◌, ◌⊎◌, inl, inr, Bool, true, false, cond, leb, List, [], ◌∷◌, ◌++◌, map, length, get_or, refl, sym, ◌∙◌, ap, arith, length-append, add-zero, zero-add}
use Rattle.std.proofs.lemmas.List.{get_or_append_left, get_or-append_right, map-append, append-nil}
use Rattle.std.proofs.lemmas.List.Elements.{filter-append}
use Rattle.std.specs.List.{filter, range_with_len}
use Rattle.std.specs.List.Sorted.{IsPartitionedBy, IsPartitionPoint}
use Rattle.std.proofs.lemmas.Bool.{le-leb}
use Rattle.std.proofs.lemmas.Bool.Decides.{leb_tells}
use Rattle.gql_source.specs.Lines.{ends_line, line_starts, line_start}

-- n numbers, and m more
range-split : (a n m : ℕ) → range_with_len a (n + m) ≡ range_with_len a n ++ range_with_len (a + n) m
range-split a zero m = rw (zero-add m, add-zero a) refl
range-split a (suc n) m =
    let e : suc n + m ≡ suc (n + m) = omega arith in
    let f : a + suc n ≡ a + 1 + n = omega arith in
    rw (e, f) (ap (λ t. a ∷ t) (range-split (a + 1) n m))

abbrev after_ends : (ℕ → Bool) → ℕ → ℕ → List ℕ
after_ends ends a n = map (λ at. at + 1) (filter ends (range_with_len a n))

abbrev IsUpTo : ℕ → List ℕ → Type 0
IsUpTo bound l = (k d : ℕ) → k < length l → get_or l k d ≤ bound

abbrev IsAbove : ℕ → List ℕ → Type 0
IsAbove bound l = (k d : ℕ) → k < length l → bound < get_or l k d

up_to-cons : (x bound : ℕ) (l : List ℕ) → x ≤ bound → IsUpTo bound l → IsUpTo bound (x ∷ l)
up_to-cons x bound l here rest zero d h = here
up_to-cons x bound l here rest (suc k) d h = rest k d (omega arith)

above-cons : (x bound : ℕ) (l : List ℕ) → bound < x → IsAbove bound l → IsAbove bound (x ∷ l)
above-cons x bound l here rest zero d h = here
above-cons x bound l here rest (suc k) d h = rest k d (omega arith)

-- those of n places lie behind the first and not past the end
after_ends-up_to : (ends : ℕ → Bool) (a n : ℕ) → IsUpTo (a + n) (after_ends ends a n)
after_ends-up_to ends a zero = λ k d h. absurd (omega arith)
after_ends-up_to ends a (suc n) =
    let e : a + suc n ≡ a + 1 + n = omega arith in
    let more : IsUpTo (a + suc n) (after_ends ends (a + 1) n) = rw e (after_ends-up_to ends (a + 1) n) in
    elim (ends a) as (λ b. IsUpTo (a + suc n) (map (λ at. at + 1) (cond b (a ∷ filter ends (range_with_len (a + 1) n)) (filter ends (range_with_len (a + 1) n))))) [
      | true ↦ up_to-cons (a + 1) (a + suc n) (after_ends ends (a + 1) n) (omega arith) more
      | false ↦ more
    ]

after_ends-above : (ends : ℕ → Bool) (a n : ℕ) → IsAbove a (after_ends ends a n)
after_ends-above ends a zero = λ k d h. absurd (omega arith)
after_ends-above ends a (suc n) =
    let more : IsAbove a (after_ends ends (a + 1) n) = λ k d h. omega (arith, after_ends-above ends (a + 1) n k d h) in
    elim (ends a) as (λ b. IsAbove a (map (λ at. at + 1) (cond b (a ∷ filter ends (range_with_len (a + 1) n)) (filter ends (range_with_len (a + 1) n))))) [
      | true ↦ above-cons (a + 1) a (after_ends ends (a + 1) n) (omega arith) more
      | false ↦ more
    ]

-- the starts up to n + m are those up to n and others past n
pub line_starts-split : (text : List ℕ) (n m : ℕ) → line_starts text (n + m) ≡ line_starts text n ++ after_ends (ends_line text) n m
unfolding line_starts
line_starts-split text n m =
    let e : range_with_len 0 (n + m) ≡ range_with_len 0 n ++ range_with_len n m = range-split 0 n m ∙ ap (λ a. range_with_len 0 n ++ range_with_len a m) (zero-add n) in
    rw e (simp (filter-append, map-append))

below : (m n : ℕ) → (m < n) ⊎ (n ≤ m)
below m n = grind arith

differ : {b : Bool} → b ≡ false → b ≡ true → ⊥
differ p q = cc

not_leb : (a b : ℕ) → b < a → leb a b ≡ false
not_leb a b h = elim (leb_tells a b) [ inl w ↦ absurd (omega arith) | inr w ↦ w.0 ]

-- a list whose first part is at most t and whose second part is above it
module _ (t : ℕ) (xs ys : List ℕ) (low : IsUpTo t xs) (high : IsAbove t ys) where
  split-low : (k d : ℕ) → k < length xs → leb (get_or (xs ++ ys) k d) t ≡ true
  split-low k d h = rw (get_or_append_left xs ys d k h) (le-leb _ _ (low k d h))

  split-high : (k d : ℕ) → length xs ≤ k → k < length (xs ++ ys) → leb (get_or (xs ++ ys) k d) t ≡ false
  split-high k d h w =
      rw (get_or-append_right xs ys (length xs) k d refl h)
      (not_leb _ _ (high (k - length xs) d (omega (arith, length-append xs ys))))

  pub split-partitioned : IsPartitionedBy (λ y. leb y t) (xs ++ ys)
  split-partitioned i j d le lt passes =
      elim (below j (length xs)) [
        | inl h ↦ split-low i d (omega arith)
        | inr h ↦ absurd (differ (split-high j d h lt) passes)
      ]

  pub split-point : (i : ℕ) → i ≤ length (xs ++ ys) → IsPartitionPoint (λ y. leb y t ≡ true) (λ y. leb y t ≡ false) (xs ++ ys) i → i ≡ length xs
  split-point i le p =
      elim (below i (length xs)) [
        | inl h ↦ absurd (differ (p.1 i 0 (omega arith) (omega (arith, length-append xs ys))) (split-low i 0 h))
        | inr h ↦ elim (below (length xs) i) [
          | inl g ↦ absurd (differ (split-high (length xs) 0 (omega arith) (omega arith)) (p.0 (length xs) 0 (omega arith) g))
          | inr g ↦ omega arith
        ]
      ]

-- the byte at n adds the start of one more line if it ends one
pub line_starts-ends : (text : List ℕ) (n : ℕ) → ends_line text n ≡ true → line_starts text (n + 1) ≡ line_starts text n ++ (n + 1) ∷ []
unfolding line_starts
line_starts-ends text n ends =
    line_starts-split text n 1 ∙ ap (λ b. line_starts text n ++ map (λ at. at + 1) (cond b (n ∷ []) [])) ends

pub line_starts-goes_on : (text : List ℕ) (n : ℕ) → ends_line text n ≡ false → line_starts text (n + 1) ≡ line_starts text n
unfolding line_starts
line_starts-goes_on text n goes_on =
    line_starts-split text n 1 ∙ ap (λ b. line_starts text n ++ map (λ at. at + 1) (cond b (n ∷ []) [])) goes_on ∙ append-nil (line_starts text n)

starts-up_to : (text : List ℕ) (offset : ℕ) → IsUpTo offset (line_starts text offset)
unfolding line_starts
starts-up_to text offset =
    up_to-cons 0 offset _ (omega arith) (let e : 0 + offset ≡ offset = omega arith in rw e at (after_ends-up_to (ends_line text) 0 offset))

-- all starts of a text, at the offset
abbrev later : List ℕ → ℕ → ℕ → List ℕ
later text offset len = after_ends (ends_line text) offset (len - offset)

starts-of : (text : List ℕ) (offset len : ℕ) → offset ≤ len → line_starts text len ≡ line_starts text offset ++ later text offset len
starts-of text offset len h =
    let e : offset + (len - offset) ≡ len = omega arith in
    ap (line_starts text) (sym e) ∙ line_starts-split text offset (len - offset)

pub starts-partitioned : (text : List ℕ) (offset len : ℕ) → offset ≤ len → IsPartitionedBy (λ y. leb y offset) (line_starts text len)
starts-partitioned text offset len h =
    rw (starts-of text offset len h)
    (split-partitioned offset (line_starts text offset) (later text offset len) (starts-up_to text offset) (after_ends-above (ends_line text) offset (len - offset)))

pub starts-point : (text : List ℕ) (offset len i : ℕ) → offset ≤ len → i ≤ length (line_starts text len)
    → IsPartitionPoint (λ y. leb y offset ≡ true) (λ y. leb y offset ≡ false) (line_starts text len) i → i ≡ length (line_starts text offset)
starts-point text offset len i h le p =
    let e = starts-of text offset len h in
    split-point offset (line_starts text offset) (later text offset len) (starts-up_to text offset) (after_ends-above (ends_line text) offset (len - offset)) i (rw e at le) (rw e at p)

pub starts-some : (text : List ℕ) (offset : ℕ) → 0 < length (line_starts text offset)
unfolding line_starts
starts-some text offset = omega arith

pub starts-fewer : (text : List ℕ) (offset len : ℕ) → offset ≤ len → length (line_starts text offset) ≤ length (line_starts text len)
starts-fewer text offset len h =
    omega (arith, ap length (starts-of text offset len h), length-append (line_starts text offset) (later text offset len))

pub starts-start : (text : List ℕ) (offset len : ℕ) → offset ≤ len → get_or (line_starts text len) (length (line_starts text offset) - 1) 0 ≡ line_start text offset
unfolding line_starts
starts-start text offset len h =
    rw (starts-of text offset len h)
    (get_or_append_left (line_starts text offset) (later text offset len) 0 (length (line_starts text offset) - 1) (omega arith))

pub start-up_to : (text : List ℕ) (offset : ℕ) → line_start text offset ≤ offset
unfolding line_starts
start-up_to text offset = starts-up_to text offset (length (line_starts text offset) - 1) 0 (omega arith)
