-- What sorting children in place, one after another, leaves.
use Rattle.std.proofs.Common.{◌≡◌, ℕ, zero, suc, ◌<◌, None, arith, Bool, true, false, List, [], ◌∷◌, map, length, slice_get, slice_set, Some, if◌then◌else◌, refl, sym, ap, ◌∙◌}
use Rattle.std.specs.Map.{values_of}
use Rattle.std_collections.specs.Layout.Former.{on_value}
use Rattle.indexmap.specs.IndexMap.{set_value_at}
use Rattle.jb_map.specs.ByKey.{is_below, put_by_key, by_key}
use Rattle.jb_map.specs.formers.pairs.Pairs.{by_key-map}
use Rattle.jb_map.proofs.TextOrder.{below_one_way}

module _ {X : Type 0} (f : X → X) where
  -- f of each of the first so many
  abbrev pub done_to : ℕ → List X → List X
  done_to zero xs = xs
  done_to (suc n) [] = []
  done_to (suc n) (x ∷ xs) = f x ∷ done_to n xs

  pub done_to-all : (xs : List X) → done_to (length xs) xs ≡ map f xs
  done_to-all [] = refl
  done_to-all (x ∷ xs) = ap (λ l. f x ∷ l) (done_to-all xs)

  pub done_to-get : (i : ℕ) (xs : List X) → slice_get (done_to i xs) i ≡ slice_get xs i
  done_to-get zero xs = refl
  done_to-get (suc i) [] = refl
  done_to-get (suc i) (x ∷ xs) = done_to-get i xs

  pub done_to-set : (i : ℕ) (xs : List X) (x y : X) → slice_get xs i ≡ Some x → y ≡ f x → slice_set (done_to i xs) i y ≡ done_to (suc i) xs
  done_to-set zero [] x y at is = cc
  done_to-set zero (z ∷ zs) x y at is = let same : x ≡ z = cc in ap (λ w. w ∷ zs) (is ∙ ap f same)
  done_to-set (suc i) [] x y at is = cc
  done_to-set (suc i) (z ∷ zs) x y at is = ap (λ l. f z ∷ l) (done_to-set i zs x y at is)

  pub kept-set : (i : ℕ) (xs : List X) (x y : X) → slice_get xs i ≡ Some x → f y ≡ f x → map f (slice_set xs i y) ≡ map f xs
  kept-set zero [] x y at is = cc
  kept-set zero (z ∷ zs) x y at is = let same : x ≡ z = cc in ap (λ w. w ∷ map f zs) (is ∙ ap f same)
  kept-set (suc i) [] x y at is = cc
  kept-set (suc i) (z ∷ zs) x y at is = ap (λ l. f z ∷ l) (kept-set i zs x y at is)

module _ {X : Type 0} (f : X → X) where
  abbrev Pair : Type 0
  Pair = List ℕ × X

  pub values-get : (i : ℕ) (es : List Pair) → slice_get (values_of (done_to (on_value f) i es)) i ≡ slice_get (values_of es) i
  values-get zero es = refl
  values-get (suc i) [] = refl
  values-get (suc i) (e ∷ es) = values-get i es

  pub pairs-set : (i : ℕ) (es : List Pair) (x y : X) → slice_get (values_of es) i ≡ Some x → y ≡ f x → set_value_at (done_to (on_value f) i es) i y ≡ done_to (on_value f) (suc i) es
  pairs-set zero [] x y at is = cc
  pairs-set zero (e ∷ es) x y at is = let same : x ≡ e.1 = cc in ap (λ w. (e.0, w) ∷ es) (is ∙ ap f same)
  pairs-set (suc i) [] x y at is = cc
  pairs-set (suc i) (e ∷ es) x y at is = ap (λ l. on_value f e ∷ l) (pairs-set i es x y at is)

  pub kept-pairs : (i : ℕ) (es : List Pair) (x y : X) → slice_get (values_of es) i ≡ Some x → f y ≡ f x → map (on_value f) (set_value_at es i y) ≡ map (on_value f) es
  kept-pairs zero [] x y at is = cc
  kept-pairs zero (e ∷ es) x y at is = let same : x ≡ e.1 = cc in ap (λ w. (e.0, w) ∷ map (on_value f) es) (is ∙ ap f same)
  kept-pairs (suc i) [] x y at is = cc
  kept-pairs (suc i) (e ∷ es) x y at is = ap (λ l. on_value f e ∷ l) (kept-pairs i es x y at is)

  -- ---- pairs in order stay in order

  abbrev NotAbove : List ℕ → List Pair → Type 0
  NotAbove k [] = Unit {0}
  NotAbove k (e ∷ es) = is_below e.0 k ≡ false

  abbrev Led : List Pair → Type 0
  Led [] = Unit {0}
  Led (e ∷ es) = NotAbove e.0 es × Led es

  not_above-put : (k : List ℕ) (e : Pair) (es : List Pair) → is_below e.0 k ≡ false → NotAbove k es → NotAbove k (put_by_key e es)
  not_above-put k e [] own head = own
  not_above-put k e (x ∷ xs) own head =
      elim (is_below x.0 e.0) as (λ b. NotAbove k (if b then x ∷ put_by_key e xs else e ∷ x ∷ xs)) [ true ↦ head | false ↦ own ]

  led-put : (e : Pair) (es : List Pair) → Led es → Led (put_by_key e es)
  led-put e [] led = (tt, tt)
  led-put e (x ∷ xs) led = led-choice e x xs (is_below x.0 e.0) refl led (led-put e xs led.1)
    where
      led-choice : (e x : Pair) (xs : List Pair) (b : Bool) → is_below x.0 e.0 ≡ b → Led (x ∷ xs) → Led (put_by_key e xs) → Led (if b then x ∷ put_by_key e xs else e ∷ x ∷ xs)
      led-choice e x xs true below led rest = (not_above-put x.0 e xs (below_one_way x.0 e.0 below) led.0, rest)
      led-choice e x xs false above led rest = (above, led)

  led-by_key : (es : List Pair) → Led (by_key es)
  led-by_key [] = tt
  led-by_key (e ∷ es) = led-put e (by_key es) (led-by_key es)

  put-first : (e : Pair) (es : List Pair) → NotAbove e.0 es → put_by_key e es ≡ e ∷ es
  put-first e [] first = refl
  put-first e (x ∷ xs) first = ap (λ b. if b then x ∷ put_by_key e xs else e ∷ x ∷ xs) first

  by_key-led : (es : List Pair) → Led es → by_key es ≡ es
  by_key-led [] led = refl
  by_key-led (e ∷ es) led = ap (put_by_key e) (by_key-led es led.1) ∙ put-first e es led.0

  -- sorting the pairs first changes nothing once they are sorted
  pub by_key-again : (es : List Pair) → by_key (map (on_value f) (by_key es)) ≡ by_key (map (on_value f) es)
  by_key-again es = ap by_key (sym (by_key-map f es)) ∙ by_key-led (by_key (map (on_value f) es)) (led-by_key (map (on_value f) es))

-- within a list there is something
pub get_within : {X : Type 0} (xs : List X) (i : ℕ) → i < length xs → slice_get xs i ≡ None → ⊥
get_within [] i within none = omega arith
get_within (x ∷ xs) zero within none = cc
get_within (x ∷ xs) (suc i) within none = get_within xs i (omega arith) none
