-- The tokens of a pointer, one at a time, and what a token stands for, byte by byte.
use Rattle.std.proofs.Common.{◌≡◌, ◌≢◌, ℕ, zero, suc, ◌^◌, Bool, cond, nat_lt, position, lt-ltb, le-ltb, slice_get, slice_set, add-zero, decimal, ◌+◌, ◌<◌, ◌==◌, ◌&&◌, if◌then◌else◌, true, false, List, [], ◌∷◌, ◌++◌, length, get_or, Option, Some, None, option_and_then, refl, sym, ap, ◌∙◌, arith, append_assoc, append-nil, ne_eqb}
use Rattle.std.specs.Str.{bytes_eq}
use Rattle.std.specs.List.{position_or_len}
use Rattle.std.proofs.lemmas.List.Sums.{position_or_len_is}
use Rattle.std.proofs.lemmas.Option.{get_or_from_slice_get}
use Rattle.std.proofs.lemmas.Bool.{false_from_ne_true}
use Rattle.std.proofs.lemmas.Slice.Eq.{bytes_eq-Decides}
use Rattle.std.proofs.lemmas.Fmt.{decimal_injective}
use Rattle.jb_tree.specs.Pointer.{item_named, item_named_put, tokens_from, replaced, decoded, named, child, pointed}
use Rattle.jb_tree.specs.declared.value.Value.{Value}

abbrev pub Lacks : ℕ → List ℕ → Type 0
Lacks c xs = (i : ℕ) → i < length xs → get_or xs i 0 ≢ c

tokens_over : (token xs rest : List ℕ) → Lacks 47 xs → tokens_from token (xs ++ rest) ≡ tokens_from (token ++ xs) rest
unfolding tokens_from
tokens_over token [] rest h = rw append-nil
tokens_over token (x ∷ xs) rest h =
    rw (ne_eqb x 47 (h 0 (omega arith))) (tokens_over (token ++ x ∷ []) xs rest (λ i less. h (suc i) (omega arith)) ∙ rw append_assoc)

pub tokens_part : (xs rest : List ℕ) → Lacks 47 xs → tokens_from [] (xs ++ 47 ∷ rest) ≡ xs ∷ tokens_from [] rest
unfolding tokens_from
tokens_part xs rest h = tokens_over [] xs (47 ∷ rest) h

pub tokens_last : (xs : List ℕ) → Lacks 47 xs → tokens_from [] xs ≡ xs ∷ []
unfolding tokens_from
tokens_last xs h = ap (tokens_from []) (sym (append-nil xs)) ∙ tokens_over [] xs [] h

pub named_part : (xs rest : List ℕ) (v : Value) → Lacks 47 xs → named (tokens_from [] (xs ++ 47 ∷ rest)) v ≡ option_and_then (named (tokens_from [] rest)) (child xs v)
named_part xs rest v h = ap (λ ts. named ts v) (tokens_part xs rest h)

nothing_after : (r : Option Value) → option_and_then (λ w. Some w) r ≡ r
nothing_after None = refl
nothing_after (Some w) = refl

pub named_last : (xs : List ℕ) (v : Value) → Lacks 47 xs → named (tokens_from [] xs) v ≡ child xs v
named_last xs v h = ap (λ ts. named ts v) (tokens_last xs h) ∙ nothing_after (child xs v)

pub no_slash : (xs : List ℕ) (v : Value) → 0 < length xs → ((rest : List ℕ) → xs ≢ 47 ∷ rest) → pointed xs v ≡ None
no_slash [] v some h = absurd (omega arith)
no_slash (x ∷ xs) v some h = rw (ne_eqb x 47 (λ e. h xs (ap (λ y. y ∷ xs) e)))

nil_by_length : (xs : List ℕ) → length xs ≡ 0 → xs ≡ []
nil_by_length [] h = refl
nil_by_length (x ∷ xs) h = absurd (omega (arith, h))

-- a byte that is no `~` stays as it is
replaced_other : (d m x : ℕ) (xs : List ℕ) → x ≢ 126 → replaced d m (x ∷ xs) ≡ x ∷ replaced d m xs
unfolding replaced
replaced_other d m x [] ne = refl
replaced_other d m x (y ∷ ys) ne = rw (ne_eqb x 126 ne)

-- a `~` that the digit does not follow stays as it is
replaced_tilde : (d m y : ℕ) (ys : List ℕ) → y ≢ d → replaced d m (126 ∷ y ∷ ys) ≡ 126 ∷ replaced d m (y ∷ ys)
unfolding replaced
replaced_tilde d m y ys ne = rw (ne_eqb y d ne)

pub decoded_plain : (x : ℕ) (xs : List ℕ) → x ≢ 126 → decoded (x ∷ xs) ≡ x ∷ decoded xs
decoded_plain x xs ne = ap (replaced 48 126) (replaced_other 49 47 x xs ne) ∙ replaced_other 48 126 x (replaced 49 47 xs) ne

pub decoded_slash : (xs : List ℕ) → decoded (126 ∷ 49 ∷ xs) ≡ 47 ∷ decoded xs
unfolding replaced
decoded_slash xs = replaced_other 48 126 47 (replaced 49 47 xs) (λ e. omega (arith, e))

pub decoded_tilde : (xs : List ℕ) → decoded (126 ∷ 48 ∷ xs) ≡ 126 ∷ decoded xs
unfolding replaced
decoded_tilde xs = ap (λ l. replaced 48 126 (126 ∷ l)) (replaced_other 49 47 48 xs (λ e. omega (arith, e)))

first_kept : (y : ℕ) (ys : List ℕ) → y ≢ 48 → replaced 48 126 (126 ∷ replaced 49 47 (y ∷ ys)) ≡ 126 ∷ decoded (y ∷ ys)
unfolding replaced
first_kept y [] ne = rw (ne_eqb y 48 ne)
first_kept y (z ∷ zs) ne =
    elim (y == 126 && z == 49) as (λ b. replaced 48 126 (126 ∷ (if b then 47 ∷ replaced 49 47 zs else y ∷ replaced 49 47 (z ∷ zs))) ≡ 126 ∷ replaced 48 126 (if b then 47 ∷ replaced 49 47 zs else y ∷ replaced 49 47 (z ∷ zs))) [
      | true ↦ replaced_tilde 48 126 47 (replaced 49 47 zs) (λ e. omega (arith, e))
      | false ↦ replaced_tilde 48 126 y (replaced 49 47 (z ∷ zs)) ne
    ]

pub decoded_stray : (y : ℕ) (ys : List ℕ) → y ≢ 49 → y ≢ 48 → decoded (126 ∷ y ∷ ys) ≡ 126 ∷ decoded (y ∷ ys)
decoded_stray y ys ne_one ne_zero = ap (replaced 48 126) (replaced_tilde 49 47 y ys ne_one) ∙ first_kept y ys ne_zero

-- the item at a place that the token writes
pub item_found : (token : List ℕ) (place : ℕ) (items : List Value) (i : ℕ) → token ≡ decimal (place + i) → i < length items → place + length items < 2 ^ 64
    → item_named token place items ≡ slice_get items i
item_found token place [] i is within fits = absurd (omega arith)
item_found token place (x ∷ xs) zero is within fits =
    let here : token ≡ decimal place = is ∙ ap decimal (add-zero place) in
    rw ((bytes_eq-Decides token (decimal place)).1 here)
item_found token place (x ∷ xs) (suc i) is within fits =
    let other : bytes_eq token (decimal place) ≡ false = false_from_ne_true _ (λ e. let same : place + suc i ≡ place = decimal_injective _ _ (omega arith) (omega arith) (sym is ∙ (bytes_eq-Decides token (decimal place)).0 e) in omega (arith, same)) in
    let next : place + suc i ≡ (place + 1) + i = omega arith in
    rw other (item_found token (place + 1) xs i (is ∙ ap decimal next) (omega arith) (omega arith))

-- the same of what is put in its place
pub item_put_found : (token : List ℕ) (place : ℕ) (items : List Value) (i : ℕ) (w : Value) → token ≡ decimal (place + i) → i < length items → place + length items < 2 ^ 64
    → item_named_put token place items w ≡ slice_set items i w
item_put_found token place [] i w is within fits = absurd (omega arith)
item_put_found token place (x ∷ xs) zero w is within fits =
    let here : token ≡ decimal place = is ∙ ap decimal (add-zero place) in
    rw ((bytes_eq-Decides token (decimal place)).1 here)
item_put_found token place (x ∷ xs) (suc i) w is within fits =
    let other : bytes_eq token (decimal place) ≡ false = false_from_ne_true _ (λ e. let same : place + suc i ≡ place = decimal_injective _ _ (omega arith) (omega arith) (sym is ∙ (bytes_eq-Decides token (decimal place)).0 e) in omega (arith, same)) in
    let next : place + suc i ≡ (place + 1) + i = omega arith in
    rw other (ap (λ l. x ∷ l) (item_put_found token (place + 1) xs i w (is ∙ ap decimal next) (omega arith) (omega arith)))

-- no item where the token writes no place
pub item_missing : (token : List ℕ) (place : ℕ) (items : List Value) → ((i : ℕ) → i < length items → token ≢ decimal (place + i)) → item_named token place items ≡ None
item_missing token place [] none = refl
item_missing token place (x ∷ xs) none =
    let other : bytes_eq token (decimal place) ≡ false = false_from_ne_true _ (λ e. none 0 (omega arith) ((bytes_eq-Decides token (decimal place)).0 e ∙ ap decimal (sym (add-zero place)))) in
    rw other (item_missing token (place + 1) xs (λ i below is. none (suc i) (omega arith) (is ∙ ap decimal (let next : (place + 1) + i ≡ place + suc i = omega arith in next))))

-- a text without `~` stands for itself
pub decoded_same : (xs : List ℕ) → Lacks 126 xs → decoded xs ≡ xs
unfolding replaced
decoded_same [] h = refl
decoded_same (x ∷ xs) h = decoded_plain x xs (h 0 (omega arith)) ∙ ap (λ l. x ∷ l) (decoded_same xs (λ i less. h (suc i) (omega arith)))

-- the first byte that a token stands for, by the token's first bytes
module _ (token rest : List ℕ) (first : ℕ) (is : token ≡ first ∷ rest) where
  pub byte_plain : first ≢ 126 → decoded token ≡ first ∷ decoded rest
  byte_plain ne = ap decoded is ∙ decoded_plain first rest ne

  module _ (tilde : first ≡ 126) where
    begins : (s : List ℕ) → rest ≡ s → token ≡ 126 ∷ s
    begins s e = is ∙ (λ i. tilde i ∷ e i)

    pub byte_alone : length rest ≡ 0 → decoded token ≡ first ∷ decoded rest
    unfolding replaced
    byte_alone none = let empty = nil_by_length rest none in ap decoded (begins [] empty) ∙ (λ i. sym tilde i ∷ decoded (sym empty i))

    module _ (second : ℕ) (more : List ℕ) (next : rest ≡ second ∷ more) where
      pub byte_slash : second ≡ 49 → decoded token ≡ 47 ∷ decoded more
      byte_slash e = ap decoded (begins (49 ∷ more) (next ∙ ap (λ y. y ∷ more) e)) ∙ decoded_slash more

      pub byte_tilde : second ≡ 48 → decoded token ≡ 126 ∷ decoded more
      byte_tilde e = ap decoded (begins (48 ∷ more) (next ∙ ap (λ y. y ∷ more) e)) ∙ decoded_tilde more

      pub byte_stray : second ≢ 49 → second ≢ 48 → decoded token ≡ first ∷ decoded rest
      byte_stray ne_one ne_zero = ap decoded (begins (second ∷ more) next) ∙ decoded_stray second more ne_one ne_zero ∙ (λ i. sym tilde i ∷ decoded (sym next i))

-- a token that is read to its end stands for just the empty key
pub ends_together : (token key : List ℕ) → token ≡ [] → (length key == 0) ≡ bytes_eq (decoded token) key
unfolding replaced
ends_together token [] e = ap (λ t. bytes_eq (decoded t) []) (sym e)
ends_together token (x ∷ xs) e = ne_eqb (length (x ∷ xs)) 0 (λ h. omega (arith, h)) ∙ ap (λ t. bytes_eq (decoded t) (x ∷ xs)) (sym e)

-- one key tried
pub key_tried : (token text : List ℕ) (keys : List (List ℕ)) (i : ℕ) (key bytes d : List ℕ) (answer : Bool) → slice_get keys i ≡ Some key → text ≡ token → bytes ≡ key
    → answer ≡ bytes_eq (decoded text) bytes → bytes_eq (decoded token) (get_or keys i d) ≡ answer
key_tried token text keys i key bytes d answer at same_text same_bytes is =
    (λ j. bytes_eq (decoded (sym same_text j)) ((get_or_from_slice_get keys i key d at ∙ sym same_bytes) j)) ∙ sym is

module _ {X : Type 0} (p : X → Bool) (xs : List X) where
  -- the first place that passes
  pub position_here : (i : ℕ) (d : X) → i < length xs → ((k : ℕ) → k < i → p (get_or xs k d) ≡ false) → p (get_or xs i d) ≡ true → position p xs ≡ Some i
  position_here i d within before here =
      let at : position_or_len p xs ≡ i = position_or_len_is p xs i d (omega arith) before (λ _. here) in
      (λ j. cond (nat_lt (at j) (length xs)) (Some (at j)) None) ∙ ap (λ b. cond b (Some i) None) (lt-ltb i (length xs) within)

  pub position_nowhere : (d : X) → ((k : ℕ) → k < length xs → p (get_or xs k d) ≡ false) → position p xs ≡ None
  position_nowhere d none =
      let at : position_or_len p xs ≡ length xs = position_or_len_is p xs (length xs) d (omega arith) none (λ h. absurd (omega (arith, h))) in
      (λ j. cond (nat_lt (at j) (length xs)) (Some (at j)) None) ∙ ap (λ b. cond b (Some (length xs)) None) (le-ltb (length xs) (length xs) (omega arith))
