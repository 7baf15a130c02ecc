-- What a walk that keeps some of the pairs leaves.
use Rattle.std.proofs.Common.{◌≡◌, ℕ, zero, suc, ◌+◌, ◌<◌, ◌≤◌, Bool, true, false, cond, List, [], ◌∷◌, ◌++◌, length, get_or, take, drop, swap, zip, slice_set, refl, sym, ap, ◌∙◌, subst, arith, append_assoc, append-nil}
use lib.Seq.{drop-cons, drop-set-lt}
use Rattle.std.specs.List.{AllByRecursion, IsDistinct}
use Rattle.std.specs.Map.{keys_of}
use Rattle.std.specs.Str.{bytes_eq}
use Rattle.std.proofs.lemmas.Slice.Zip.{get_or-zip}
use Rattle.std_collections.proofs.Zip.{keys_of-zip, length-zip_even}
use Rattle.jb_map.proofs.ColumnLemmas.{zip-swap}
use Rattle.jb_map.specs.Retained.{Retains}
use Rattle.jb_map.proofs.Positions.{same_at}

module _ {X : Type 0} where
  front : (xs : List X) (k i : ℕ) (d : X) → k ≤ i → i < length xs → take (suc k) (slice_set (slice_set xs k (get_or xs i d)) i (get_or xs k d)) ≡ take k xs ++ get_or xs i d ∷ []
  front [] k i d le lt = absurd (omega arith)
  front (x ∷ xs) zero zero d le lt = refl
  front (x ∷ xs) zero (suc i) d le lt = refl
  front (x ∷ xs) (suc k) zero d le lt = absurd (omega arith)
  front (x ∷ xs) (suc k) (suc i) d le lt = ap (λ l. x ∷ l) (front xs k i d (omega arith) (omega arith))

  -- an item that was exchanged with one that is not behind it
  pub moved_front : (xs : List X) (k i : ℕ) (x : X) → k ≤ i → i < length xs → x ≡ get_or xs i x → (ys : List X) → take (k + 1) (swap xs k i) ++ ys ≡ take k xs ++ x ∷ ys
  moved_front [] k i x le lt e ys = absurd (omega arith)
  moved_front (d ∷ xs) k i x le lt e ys =
      let s : k + 1 ≡ suc k = omega arith in
      ap (λ n. take n (swap (d ∷ xs) k i) ++ ys) s ∙ ap (λ l. l ++ ys) (front (d ∷ xs) k i d le lt ∙ ap (λ y. take k (d ∷ xs) ++ y ∷ []) (sym (same_at (d ∷ xs) i x d lt e)))
      ∙ append_assoc (take k (d ∷ xs)) (x ∷ []) ys

  pub moved_back : (xs : List X) (k i : ℕ) → k ≤ i → drop (i + 1) (swap xs k i) ≡ drop (i + 1) xs
  moved_back [] k i le = refl
  moved_back (d ∷ xs) k i le = drop-set-lt (i + 1) _ i _ (omega arith) ∙ drop-set-lt (i + 1) (d ∷ xs) k _ (omega arith)

  pub begins : (xs : List X) (i : ℕ) (x : X) → i < length xs → x ≡ get_or xs i x → drop i xs ≡ x ∷ drop (i + 1) xs
  begins xs i x h e =
      let s : suc i ≡ i + 1 = omega arith in
      drop-cons xs i x h ∙ (λ j. sym e j ∷ drop (s j) xs)

  pub drop_all : (xs : List X) (i : ℕ) → length xs ≤ i → drop i xs ≡ []
  drop_all [] zero h = refl
  drop_all [] (suc i) h = refl
  drop_all (x ∷ xs) zero h = absurd (omega arith)
  drop_all (x ∷ xs) (suc i) h = drop_all xs i (omega arith)

module _ {V : Type 0} (T : List ℕ → V → Bool → Type 0) where
  -- what holds of each key holds of each that is kept
  pub kept_keys : (P : List ℕ → Type 0) (es kept : List (List ℕ × V)) → Retains T es kept → AllByRecursion P (keys_of es) → AllByRecursion P (keys_of kept)
  kept_keys P [] kept h all = subst (λ l. AllByRecursion P (keys_of l)) (sym h) tt
  kept_keys P (e ∷ es) kept h all = subst (λ l. AllByRecursion P (keys_of l)) (sym h.4) (by_test h.0 (kept_keys P es h.1 h.3 all.1))
    where
      by_test : (b : Bool) → AllByRecursion P (keys_of h.1) → AllByRecursion P (keys_of (cond b (e ∷ h.1) h.1))
      by_test true r = (all.0, r)
      by_test false r = r

  pub kept_distinct : (R : List ℕ → List ℕ → Bool) (es kept : List (List ℕ × V)) → Retains T es kept → IsDistinct R (keys_of es) → IsDistinct R (keys_of kept)
  unfolding IsDistinct
  kept_distinct R [] kept h d = subst (λ l. IsDistinct R (keys_of l)) (sym h) tt
  kept_distinct R (e ∷ es) kept h d =
      subst (λ l. IsDistinct R (keys_of l)) (sym h.4) (by_test h.0 (kept_keys (λ q. R e.0 q ≡ false) es h.1 h.3 d.0) (kept_distinct R es h.1 h.3 d.1))
    where
      by_test : (b : Bool) → AllByRecursion (λ q. R e.0 q ≡ false) (keys_of h.1) → IsDistinct R (keys_of h.1) → IsDistinct R (keys_of (cond b (e ∷ h.1) h.1))
      by_test true a r = (a, r)
      by_test false a r = r

  -- the same of keys and values in columns
  module _ (ks ls : List (List ℕ)) (vs ws : List V) (even : length vs ≡ length ks) (even' : length ws ≡ length ls) (kept : Retains T (zip ks vs) (zip ls ws)) where
    pub column_kept : (P : List ℕ → Type 0) → AllByRecursion P ks → AllByRecursion P ls
    column_kept P all = subst (AllByRecursion P) (keys_of-zip ls ws even') (kept_keys P (zip ks vs) (zip ls ws) kept (subst (AllByRecursion P) (sym (keys_of-zip ks vs even)) all))

    pub column_distinct : IsDistinct bytes_eq ks → IsDistinct bytes_eq ls
    column_distinct d = subst (IsDistinct bytes_eq) (keys_of-zip ls ws even') (kept_distinct bytes_eq (zip ks vs) (zip ls ws) kept (subst (IsDistinct bytes_eq) (sym (keys_of-zip ks vs even)) d))

  -- of the pairs at the start those before the place i were tested, and those of them that stay are the first n now
  abbrev pub Sifts : List (List ℕ × V) → List (List ℕ × V) → ℕ → ℕ → Type 0
  Sifts start now n i = (rest : List (List ℕ × V)) → Retains T (drop i now) rest → Retains T start (take n now ++ rest)

  module _ (start now : List (List ℕ × V)) (n i : ℕ) (e : List ℕ × V) (within : i < length now) (at : e ≡ get_or now i e) (so_far : Sifts start now n i) where
    pub passed : T e.0 e.1 false → Sifts start now n (i + 1)
    passed says rest h = so_far rest (subst (λ l. Retains T l rest) (sym (begins now i e within at)) (false, rest, says, h, refl))

    pub kept : T e.0 e.1 true → n ≤ i → Sifts start (swap now n i) (n + 1) (i + 1)
    kept says le rest h =
        let on = subst (λ l. Retains T l rest) (moved_back now n i le) h in
        subst (Retains T start) (sym (moved_front now n i e le within at rest))
        (so_far (e ∷ rest) (subst (λ l. Retains T l (e ∷ rest)) (sym (begins now i e within at)) (true, rest, says, on, refl)))

  pub sifted : (start now : List (List ℕ × V)) (n i : ℕ) → length now ≤ i → Sifts start now n i → Retains T start (take n now)
  sifted start now n i all h = subst (Retains T start) (append-nil (take n now)) (h [] (subst (λ l. Retains T l []) (sym (drop_all now i all)) refl))

  module _ (start : List (List ℕ × V)) (ks : List (List ℕ)) (vs : List V) (n i : ℕ) (k : List ℕ) (v : V) (even : length vs ≡ length ks) (within : i < length ks)
      (key : k ≡ get_or ks i k) (value : v ≡ get_or vs i v) (so_far : Sifts start (zip ks vs) n i) where
    here : i < length (zip ks vs)
    here = omega (arith, length-zip_even ks vs even)

    pair : (k, v) ≡ get_or (zip ks vs) i (k, v)
    pair = (λ j. (key j, value j)) ∙ sym (get_or-zip ks vs i (k, v) within (omega arith))

    pub columns_passed : T k v false → Sifts start (zip ks vs) n (i + 1)
    columns_passed says = passed start (zip ks vs) n i (k, v) here pair so_far says

    pub columns_moved : T k v true → n ≤ i → Sifts start (zip (swap ks n i) (swap vs n i)) (n + 1) (i + 1)
    columns_moved says le = subst (λ l. Sifts start l (n + 1) (i + 1)) (sym (zip-swap ks vs n i even)) (kept start (zip ks vs) n i (k, v) here pair so_far says le)
