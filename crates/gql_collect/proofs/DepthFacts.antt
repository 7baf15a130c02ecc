-- The depth check that remembers accepts exactly where the expanded depth is small, and looks at each selection once.
use Rattle.std.proofs.Common.{arith, ◌≡◌, ℕ, zero, suc, ◌+◌, ◌<◌, ◌≤◌, max, List, [], ◌∷◌, length, set, replicate, ◌⊎◌, inl, inr, Option, Some, None, slice_get, refl, sym, ap, ◌∙◌, subst, lt_irrefl}
use Rattle.std.proofs.lemmas.Bool.{cases_lt}
use Rattle.gql_collect.specs.Nested.{Nested, nothing, field_then, spread_then, inline_then, Fragments, Place, body_of}
use Rattle.gql_collect.specs.bridge.Nested.{IsBelow, AreRanked}
use Rattle.gql_collect.specs.Expanded.{depth_with, fragment_depth, expanded_depth}
use Rattle.gql_collect.specs.Check.{total, total_fragments}
use Rattle.gql_collect.specs.bridge.Check.{Memo, Accepts, accept_all, accept_field, accept_again, accept_into, accept_inline, Refuses, refuse_field, refuse_in_field, refuse_after_field, refuse_again, refuse_after_again, refuse_into, refuse_after_into, refuse_inline, refuse_after_inline, if_unentered, unentered}

set-other : {A : Type 0} (m : List A) (f g : ℕ) (v : A) → (g ≡ f → ⊥) → slice_get (set m f v) g ≡ slice_get m g
set-other [] f g v ne = refl
set-other (b ∷ m) zero zero v ne = absurd (ne refl)
set-other (b ∷ m) zero (suc g) v ne = refl
set-other (b ∷ m) (suc f) zero v ne = refl
set-other (b ∷ m) (suc f) (suc g) v ne = set-other m f g v (λ same. ne (ap suc same))

set-known : (m : Memo) (f g v d : ℕ) → slice_get (set m f (Some v)) g ≡ Some (Some d) → ((g ≡ f) × (d ≡ v)) ⊎ ((g ≡ f → ⊥) × (slice_get m g ≡ Some (Some d)))
set-known [] f g v d e = cc
set-known (o ∷ m) zero zero v d e = inl (refl, cc)
set-known (o ∷ m) zero (suc g) v d e = inr (λ is. cc, e)
set-known (o ∷ m) (suc f) zero v d e = inr (λ is. cc, e)
set-known (o ∷ m) (suc f) (suc g) v d e =
    elim (set-known m f g v d e) [ inl same ↦ inl (ap suc same.0, same.1) | inr other ↦ inr (λ is. other.0 (omega (arith, is)), other.1) ]

-- Looks.

pub unentered-set : (fragments : Fragments) (m : Memo) (f v : ℕ) → slice_get m f ≡ Some None → unentered fragments (set m f (Some v)) + total (body_of fragments f) ≡ unentered fragments m
unentered-set [] m f v e = omega arith
unentered-set (fragment ∷ fragments) [] f v e = cc
unentered-set (fragment ∷ fragments) (o ∷ m) zero v e =
    let off : o ≡ None = cc in
    omega (arith, ap (λ (c : Option ℕ). if_unentered c (total fragment)) off)
unentered-set (fragment ∷ fragments) (o ∷ m) (suc f) v e = omega (arith, unentered-set fragments m f v e)

pub unentered-less : (fragments : Fragments) (m : Memo) (f v : ℕ) → unentered fragments (set m f (Some v)) ≤ unentered fragments m
unentered-less [] m f v = omega arith
unentered-less (fragment ∷ fragments) [] f v = omega arith
unentered-less (fragment ∷ fragments) (o ∷ m) zero v = omega arith
unentered-less (fragment ∷ fragments) (o ∷ m) (suc f) v = omega (arith, unentered-less fragments m f v)

pub accept-looks : {fragments : Fragments} {c : ℕ} {m n : Memo} {s : Nested} {d k : ℕ} → Accepts fragments c m s d n k → k + unentered fragments n ≤ total s + unentered fragments m
accept-looks (accept_all c m) = omega arith
accept-looks (accept_field weight place low v w) = omega (arith, accept-looks v, accept-looks w)
accept-looks (accept_again f place d known low w) = omega (arith, accept-looks w)
accept-looks {fragments} {m = m} (accept_into {between = between} {d = d} f place fresh v w) =
    omega (arith, accept-looks v, accept-looks w, unentered-set fragments m f 0 fresh, unentered-less fragments between f d)
accept-looks (accept_inline v w) = omega (arith, accept-looks v, accept-looks w)

pub refuse-looks : {fragments : Fragments} {c : ℕ} {m : Memo} {s : Nested} {at : Place} {k : ℕ} → Refuses fragments c m s at k → k ≤ total s + unentered fragments m
refuse-looks (refuse_field weight place high) = omega arith
refuse-looks (refuse_in_field weight place low w) = omega (arith, refuse-looks w)
refuse-looks (refuse_after_field weight place low v w) = omega (arith, accept-looks v, refuse-looks w)
refuse-looks (refuse_again f place d known high) = omega arith
refuse-looks (refuse_after_again f place d known low w) = omega (arith, refuse-looks w)
refuse-looks {fragments} {m = m} (refuse_into f place fresh w) = omega (arith, refuse-looks w, unentered-set fragments m f 0 fresh)
refuse-looks {fragments} {m = m} (refuse_after_into {between = between} {d = d} f place fresh v w) =
    omega (arith, accept-looks v, refuse-looks w, unentered-set fragments m f 0 fresh, unentered-less fragments between f d)
refuse-looks (refuse_inline w) = omega (arith, refuse-looks w)
refuse-looks (refuse_after_inline v w) = omega (arith, accept-looks v, refuse-looks w)

-- An accepted chain stays low.

pub accept-low : {fragments : Fragments} {c : ℕ} {m n : Memo} {s : Nested} {d k : ℕ} → Accepts fragments c m s d n k → c < 3 → c + d < 3
accept-low (accept_all c m) low = omega arith
accept-low (accept_field weight place within v w) low = omega (arith, accept-low v within, accept-low w low)
accept-low (accept_again f place d known within w) low = omega (arith, within, accept-low w low)
accept-low (accept_into f place fresh v w) low = omega (arith, accept-low v low, accept-low w low)
accept-low (accept_inline v w) low = omega (arith, accept-low v low, accept-low w low)

-- Depths.

depth-same : (rank a b : ℕ → ℕ) (r : ℕ) (s : Nested) → IsBelow rank r s → ((g : ℕ) → rank g < r → a g ≡ b g) → depth_with a s ≡ depth_with b s
depth-same rank a b r nothing below same = refl
depth-same rank a b r (field_then weight place within rest) below same =
    ap (λ n. max (weight + n) (depth_with a rest)) (depth-same rank a b r within below.0 same)
    ∙ ap (max (weight + depth_with b within)) (depth-same rank a b r rest below.1 same)
depth-same rank a b r (spread_then f place rest) below same =
    ap (λ n. max n (depth_with a rest)) (same f below.0) ∙ ap (max (b f)) (depth-same rank a b r rest below.1 same)
depth-same rank a b r (inline_then body rest) below same =
    ap (λ n. max n (depth_with a rest)) (depth-same rank a b r body below.0 same) ∙ ap (max (depth_with b body)) (depth-same rank a b r rest below.1 same)

module _ (fragments : Fragments) (rank : ℕ → ℕ) (ranked : AreRanked fragments rank) where
  depth-more : (n f : ℕ) → rank f < n → fragment_depth fragments n f ≡ fragment_depth fragments (suc n) f
  depth-more zero f lt = absurd (omega arith)
  depth-more (suc n) f lt =
      depth-same rank (fragment_depth fragments n) (fragment_depth fragments (suc n)) (rank f) (body_of fragments f) (ranked.bodies f) (λ g less. depth-more n g (omega (arith, less, lt)))

  pub depth-fixed : (f : ℕ) → fragment_depth fragments (suc (length fragments)) f ≡ depth_with (fragment_depth fragments (suc (length fragments))) (body_of fragments f)
  depth-fixed f =
      depth-same rank (fragment_depth fragments (length fragments)) (fragment_depth fragments (suc (length fragments))) (rank f) (body_of fragments f) (ranked.bodies f)
      (λ g less. depth-more (length fragments) g (omega (arith, less, ranked.bounded f)))

module _ (fragments : Fragments) (rank : ℕ → ℕ) (ranked : AreRanked fragments rank) (D : ℕ → ℕ) (fixed : (f : ℕ) → D f ≡ depth_with D (body_of fragments f)) where
  -- what is remembered of a fragment of small rank is its depth
  abbrev pub Right : Memo → ℕ → Type 0
  Right m r = (f d : ℕ) → slice_get m f ≡ Some (Some d) → rank f < r → d ≡ D f

  pub record Checked (m : Memo) (r d depth : ℕ) (n : Memo) : Type 0 where
    pub is : d ≡ depth
    pub right : Right n r
    pub untouched : (f : ℕ) → r ≤ rank f → slice_get n f ≡ slice_get m f

  pub right-inside : (m : Memo) (r f : ℕ) → rank f < r → Right m r → Right (set m f (Some 0)) (rank f)
  right-inside m r f below right g d known less =
      elim (set-known m f g 0 d known) [
        | inl same ↦ absurd (lt_irrefl (rank f) (subst (λ h. rank h < rank f) same.0 less))
        | inr other ↦ right g d other.1 (omega (arith, less, below))
      ]

  pub right-outside : (m between : Memo) (r f d : ℕ) → Right m r → d ≡ D f → Right between (rank f)
      → ((g : ℕ) → rank f ≤ rank g → slice_get between g ≡ slice_get (set m f (Some 0)) g) → Right (set between f (Some d)) r
  right-outside m between r f d right is inside untouched g e known less =
      elim (set-known between f g d e known) [
        | inl same ↦ same.1 ∙ is ∙ sym (ap D same.0)
        | inr other ↦ by other.0 other.1 (cases_lt (rank g) (rank f))
      ]
    where
      by : (g ≡ f → ⊥) → slice_get between g ≡ Some (Some e) → ((rank g < rank f) ⊎ (rank f ≤ rank g)) → e ≡ D g
      by ne there (inl small) = inside g e there small
      by ne there (inr large) = right g e (sym (set-other m f g (Some 0) ne) ∙ sym (untouched g large) ∙ there) less

  pub checked : {c : ℕ} {m n : Memo} {s : Nested} {d k : ℕ} → Accepts fragments c m s d n k → (r : ℕ) → IsBelow rank r s → Right m r → Checked m r d (depth_with D s) n
  checked (accept_all c m) r below right = record { is = refl; right = right; untouched = λ f large. refl }
  checked (accept_field weight place low v w) r below right =
      let first = checked v r below.0 right in
      let second = checked w r below.1 first.right in
      record { is = omega (arith, first.is, second.is); right = second.right; untouched = λ f large. second.untouched f large ∙ first.untouched f large }
  checked (accept_again f place d known low w) r below right =
      let second = checked w r below.1 right in
      record { is = omega (arith, right f d known below.0, second.is); right = second.right; untouched = second.untouched }
  checked {m = m} (accept_into {between = between} {d = d} f place fresh v w) r below right =
      let first = checked v (rank f) (ranked.bodies f) (right-inside m r f below.0 right) in
      let is : d ≡ D f = first.is ∙ sym (fixed f) in
      let second = checked w r below.1 (right-outside m between r f d right is first.right first.untouched) in
      record {
        is = omega (arith, is, second.is);
        right = second.right;
        untouched = λ g large.
            let ne : g ≡ f → ⊥ = λ same. lt_irrefl (rank f) (omega (arith, ap rank same, large, below.0)) in
            second.untouched g large ∙ set-other between f g (Some d) ne ∙ first.untouched g (omega (arith, large, below.0)) ∙ set-other m f g (Some 0) ne;
      }
  checked (accept_inline v w) r below right =
      let first = checked v r below.0 right in
      let second = checked w r below.1 first.right in
      record { is = omega (arith, first.is, second.is); right = second.right; untouched = λ f large. second.untouched f large ∙ first.untouched f large }

  pub refused-high : {c : ℕ} {m : Memo} {s : Nested} {at : Place} {k : ℕ} → Refuses fragments c m s at k → (r : ℕ) → IsBelow rank r s → Right m r → 3 ≤ c + depth_with D s
  refused-high (refuse_field weight place high) r below right = omega (arith, high)
  refused-high (refuse_in_field weight place low w) r below right = omega (arith, refused-high w r below.0 right)
  refused-high (refuse_after_field weight place low v w) r below right = omega (arith, refused-high w r below.1 (checked v r below.0 right).right)
  refused-high (refuse_again f place d known high) r below right = omega (arith, high, right f d known below.0)
  refused-high (refuse_after_again f place d known low w) r below right = omega (arith, refused-high w r below.1 right)
  refused-high {m = m} (refuse_into f place fresh w) r below right =
      omega (arith, refused-high w (rank f) (ranked.bodies f) (right-inside m r f below.0 right), fixed f)
  refused-high {m = m} (refuse_after_into {between = between} {d = d} f place fresh v w) r below right =
      let first = checked v (rank f) (ranked.bodies f) (right-inside m r f below.0 right) in
      omega (arith, refused-high w r below.1 (right-outside m between r f d right (first.is ∙ sym (fixed f)) first.right first.untouched))
  refused-high (refuse_inline w) r below right = omega (arith, refused-high w r below.0 right)
  refused-high (refuse_after_inline v w) r below right = omega (arith, refused-high w r below.1 (checked v r below.0 right).right)

-- From an empty memo.

pub at-none : (n f d : ℕ) → slice_get (replicate n None) f ≡ Some (Some d) → ⊥
at-none zero f d e = cc
at-none (suc n) zero d e = cc
at-none (suc n) (suc f) d e = at-none n f d e

pub below_all : (rank : ℕ → ℕ) (r : ℕ) → ((f : ℕ) → rank f < r) → (s : Nested) → IsBelow rank r s
below_all rank r all nothing = tt
below_all rank r all (field_then weight place within rest) = (below_all rank r all within, below_all rank r all rest)
below_all rank r all (spread_then f place rest) = (all f, below_all rank r all rest)
below_all rank r all (inline_then body rest) = (below_all rank r all body, below_all rank r all rest)

unentered-start : (fragments : Fragments) → unentered fragments (replicate (length fragments) None) ≡ total_fragments fragments
unentered-start [] = refl
unentered-start (fragment ∷ fragments) = ap (λ n. total fragment + n) (unentered-start fragments)

module _ (fragments : Fragments) (rank : ℕ → ℕ) (ranked : AreRanked fragments rank) where
  pub accepts-low : {s : Nested} {d k : ℕ} {n : Memo} → Accepts fragments 0 (replicate (length fragments) None) s d n k → expanded_depth fragments s < 3
  accepts-low {s} w =
      let right = checked fragments rank ranked (fragment_depth fragments (suc (length fragments))) (depth-fixed fragments rank ranked) w (suc (length fragments))
      (below_all rank (suc (length fragments)) (λ f. omega (arith, ranked.bounded f)) s) (λ f d e less. absurd (at-none (length fragments) f d e)) in
      omega (arith, right.is, accept-low w (omega arith))

  pub refuses-high : {s : Nested} {at : Place} {k : ℕ} → Refuses fragments 0 (replicate (length fragments) None) s at k → 3 ≤ expanded_depth fragments s
  refuses-high {s} w =
      omega (
        arith,
        refused-high fragments rank ranked (fragment_depth fragments (suc (length fragments))) (depth-fixed fragments rank ranked) w (suc (length fragments))
            (below_all rank (suc (length fragments)) (λ f. omega (arith, ranked.bounded f)) s) (λ f d e less. absurd (at-none (length fragments) f d e)),
      )

pub accepts-cost : {fragments : Fragments} {s : Nested} {d k : ℕ} {n : Memo} → Accepts fragments 0 (replicate (length fragments) None) s d n k → k ≤ total s + total_fragments fragments
accepts-cost {fragments} w = omega (arith, accept-looks w, unentered-start fragments)

pub refuses-cost : {fragments : Fragments} {s : Nested} {at : Place} {k : ℕ} → Refuses fragments 0 (replicate (length fragments) None) s at k → k ≤ total s + total_fragments fragments
refuses-cost {fragments} w = omega (arith, refuse-looks w, unentered-start fragments)
