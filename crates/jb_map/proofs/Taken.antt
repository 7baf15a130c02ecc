-- Pairs taken one after another in the order of their keys.
use Rattle.std.proofs.Common.{◌≡◌, ℕ, Bool, true, false, cond, Some, None, Option, List, [], ◌∷◌, ◌++◌, refl, sym, ap, ◌∙◌, subst, ◌&&◌, fold, slice_get, append_assoc}
use mathlib.Core.Bool.{true≢false}
use Rattle.std.specs.Str.{bytes_eq}
use Rattle.std.specs.List.{AllByRecursion, filter}
use Rattle.std.specs.Map.{keys_of, lookup}
use Rattle.jb_map.specs.ByKey.{is_below, by_key}
use Rattle.jb_map.specs.bridge.NextByKey.{is_after, lesser_key, next_key}
use Rattle.jb_map.proofs.TextOrder.{below_trans, below_one_way, not_below_itself, same_text}
use Rattle.std.specs.Map.{values_of}
use Rattle.std.specs.List.{IsDistinct}
use Rattle.std.specs.Hash.{HashWrites, fed_then}
use Rattle.std.specs.Cmp.Lexicographic.{nat_list_eq_equiv}
use Rattle.std.proofs.lemmas.List.Sums.{fold-append}
use Rattle.std_collections.proofs.HashMapEq.{own_value}
use Rattle.jb_map.proofs.Entries.{pair_get, within_by_get}
use Rattle.jb_map.proofs.Ordered.{AllKeys, AllKeys-mono, Above, Ascending, skip_first, AllKeys-by_key, Ascending-by_key, lookup-by_key}

-- the pairs whose keys come after the last one taken
abbrev pub after : {X : Type 0} → Option (List ℕ) → List (List ℕ × X) → List (List ℕ × X)
after last es = filter (λ e. is_after last e.0) es

-- of the keys ks that come after the last one, the least is this one
abbrev pub IsLeast : Option (List ℕ) → List (List ℕ) → Option (List ℕ) → Type 0
IsLeast last ks None = AllByRecursion (λ q. is_after last q ≡ false) ks
IsLeast last ks (Some m) = (is_after last m ≡ true) × AllByRecursion (λ q. is_after last q ≡ true → is_below q m ≡ false) ks

all_push : (P : List ℕ → Type 0) (ks : List (List ℕ)) (k : List ℕ) → AllByRecursion P ks → P k → AllByRecursion P (ks ++ k ∷ [])
all_push P [] k h p = (p, tt)
all_push P (x ∷ ks) k h p = (h.0, all_push P ks k h.1 p)

all_mono : (P Q : List ℕ → Type 0) → ((k : List ℕ) → P k → Q k) → (ks : List (List ℕ)) → AllByRecursion P ks → AllByRecursion Q ks
all_mono P Q f [] h = tt
all_mono P Q f (k ∷ ks) h = (f k h.0, all_mono P Q f ks h.1)

false_from : (b : Bool) → (b ≡ true → ⊥) → b ≡ false
false_from true f = absurd (f refl)
false_from false f = refl

-- one more key seen
least_step : (last : Option (List ℕ)) (ks : List (List ℕ)) (least : Option (List ℕ)) (k : List ℕ) → IsLeast last ks least → IsLeast last (ks ++ k ∷ []) (lesser_key last least k)
least_step last ks None k h = by_test (is_after last k) refl
  where
    by_test : (t : Bool) → is_after last k ≡ t → IsLeast last (ks ++ k ∷ []) (cond (t && true) (Some k) None)
    by_test false is = all_push (λ q. is_after last q ≡ false) ks k h is
    by_test true is = (
      is,
      all_push (λ q. is_after last q ≡ true → is_below q k ≡ false) ks k
          (all_mono (λ q. is_after last q ≡ false) (λ q. is_after last q ≡ true → is_below q k ≡ false) (λ q n y. absurd (true≢false (sym y ∙ n))) ks h)
          (λ _. false_from (is_below k k) (not_below_itself k)),
    )
least_step last ks (Some m) k h = by_tests (is_after last k) refl (is_below k m) refl
  where
    by_tests : (t : Bool) → is_after last k ≡ t → (u : Bool) → is_below k m ≡ u → IsLeast last (ks ++ k ∷ []) (cond (t && u) (Some k) (Some m))
    by_tests false is u below = (h.0, all_push (λ q. is_after last q ≡ true → is_below q m ≡ false) ks k h.1 (λ y. absurd (true≢false (sym y ∙ is))))
    by_tests true is false below = (h.0, all_push (λ q. is_after last q ≡ true → is_below q m ≡ false) ks k h.1 (λ _. below))
    by_tests true is true below = (
      is,
      all_push (λ q. is_after last q ≡ true → is_below q k ≡ false) ks k
          (all_mono (λ q. is_after last q ≡ true → is_below q m ≡ false) (λ q. is_after last q ≡ true → is_below q k ≡ false)
          (λ q f y. false_from (is_below q k) (λ lower. true≢false (sym (below_trans q k m lower below) ∙ f y))) ks h.1)
          (λ _. false_from (is_below k k) (not_below_itself k)),
    )

least_of : (last : Option (List ℕ)) (seen ks : List (List ℕ)) (least : Option (List ℕ)) → IsLeast last seen least → IsLeast last (seen ++ ks) (fold (lesser_key last) least ks)
least_of last seen [] least h = subst (λ l. IsLeast last l least) (sym (append_nil seen)) h
  where
    append_nil : (l : List (List ℕ)) → l ++ [] ≡ l
    append_nil [] = refl
    append_nil (x ∷ l) = ap (λ r. x ∷ r) (append_nil l)
least_of last seen (k ∷ ks) least h =
    subst (λ l. IsLeast last l (fold (lesser_key last) (lesser_key last least k) ks)) (append_assoc seen (k ∷ []) ks)
    (least_of last (seen ++ k ∷ []) ks (lesser_key last least k) (least_step last seen least k h))

pub next_is_least : (last : Option (List ℕ)) (ks : List (List ℕ)) → IsLeast last ks (next_key last ks)
next_is_least last ks = least_of last [] ks None tt

after_above : (last : Option (List ℕ)) (a b : List ℕ) → is_after last a ≡ true → is_below a b ≡ true → is_after last b ≡ true
after_above None a b h g = refl
after_above (Some k) a b h g = below_trans k a b h g

module _ {X : Type 0} where
  all_after : (last : Option (List ℕ)) (es : List (List ℕ × X)) → AllKeys (λ q. is_after last q ≡ true) es → after last es ≡ es
  all_after last [] h = refl
  all_after last (e ∷ es) h = (λ i. cond (h.0 i) (e ∷ after last es) (after last es)) ∙ ap (λ l. e ∷ l) (all_after last es h.1)

  pub none_after : (last : Option (List ℕ)) (es : List (List ℕ × X)) → AllKeys (λ q. is_after last q ≡ false) es → after last es ≡ []
  none_after last [] h = refl
  none_after last (e ∷ es) h = (λ i. cond (h.0 i) (e ∷ after last es) (after last es)) ∙ none_after last es h.1

  -- a key that is found above a bound is above it
  found_above : (k m : List ℕ) (v : X) (es : List (List ℕ × X)) → Above k es → lookup (bytes_eq m) es ≡ Some v → is_below k m ≡ true
  found_above k m v [] a h = cc
  found_above k m v (e ∷ es) a h = by_test (bytes_eq m e.0) refl (found_above k m v es a.1)
    where
      by_test : (t : Bool) → bytes_eq m e.0 ≡ t → (lookup (bytes_eq m) es ≡ Some v → is_below k m ≡ true) → is_below k m ≡ true
      by_test true is later = ap (is_below k) (same_text m e.0 is) ∙ a.0
      by_test false is later = later (sym (skip_first m e es is) ∙ h)

  some_same : (v w : X) → Some v ≡ Some w → v ≡ w
  some_same v w h = cc

  -- the least key after the last one is that of the first pair left
  pub take_first : (last : Option (List ℕ)) (m : List ℕ) (v : X) (es : List (List ℕ × X)) → Ascending es → is_after last m ≡ true
      → AllKeys (λ q. is_after last q ≡ true → is_below q m ≡ false) es → lookup (bytes_eq m) es ≡ Some v → after last es ≡ (m, v) ∷ after (Some m) es
  take_first last m v [] a p least h = cc
  take_first last m v (e ∷ es) a p least h = by_test (bytes_eq m e.0) refl (take_first last m v es a.1 p least.1)
    where
      by_test : (t : Bool) → bytes_eq m e.0 ≡ t → (lookup (bytes_eq m) es ≡ Some v → after last es ≡ (m, v) ∷ after (Some m) es) → after last (e ∷ es) ≡ (m, v) ∷ after (Some m) (e ∷ es)
      by_test true is others =
          let key = same_text m e.0 is in
          let value : e.1 ≡ v = some_same e.1 v (sym (ap (λ b. cond b (Some e.1) (lookup (bytes_eq m) es)) is) ∙ h) in
          let passes : is_after last e.0 ≡ true = subst (λ k. is_after last k ≡ true) key p in
          let rest = all_after last es (AllKeys-mono (λ q. is_below e.0 q ≡ true) (λ q. is_after last q ≡ true) (λ q. after_above last e.0 q passes) es a.0) in
          let rest' = all_after (Some e.0) es a.0 in
          let itself : is_below m e.0 ≡ false = ap (λ k. is_below k e.0) key ∙ false_from (is_below e.0 e.0) (not_below_itself e.0) in
          (λ i. cond (passes i) (e ∷ after last es) (after last es)) ∙ ap (λ l. e ∷ l) (rest ∙ sym rest')
          ∙ (λ i. (sym key i, value i) ∷ after (Some (sym key i)) es)
          ∙ ap (λ l. (m, v) ∷ l) (λ i. cond (sym itself i) (e ∷ after (Some m) es) (after (Some m) es))
      by_test false is others =
          let later = sym (skip_first m e es is) ∙ h in
          let first : is_below e.0 m ≡ true = found_above e.0 m v es a.0 later in
          let fails : is_after last e.0 ≡ false = false_from (is_after last e.0) (λ y. true≢false (sym first ∙ least.0 y)) in
          (λ i. cond (fails i) (e ∷ after last es) (after last es)) ∙ others later
          ∙ ap (λ l. (m, v) ∷ l) (λ i. cond (sym (below_one_way e.0 m first) i) (e ∷ after (Some m) es) (after (Some m) es))

  pub after_none : (es : List (List ℕ × X)) → after None es ≡ es
  after_none es = all_after None es (every es)
    where
      every : (l : List (List ℕ × X)) → AllKeys (λ q. true ≡ true) l
      every [] = tt
      every (x ∷ l) = (refl, every l)

  -- the pair at the place of the next key is the first of those left
  pub next_taken : (es : List (List ℕ × X)) (last : Option (List ℕ)) (i : ℕ) (m : List ℕ) (v : X) → IsDistinct bytes_eq (keys_of es) → slice_get (keys_of es) i ≡ Some m → slice_get (values_of es) i ≡ Some v
      → slice_get (keys_of es) i ≡ next_key last (keys_of es) → after last (by_key es) ≡ (m, v) ∷ after (Some m) (by_key es)
  next_taken es last i m v distinct key value next =
      let least = subst (IsLeast last (keys_of es)) (sym next ∙ key) (next_is_least last (keys_of es)) in
      let at = pair_get es i m v key value in
      let found = own_value bytes_eq nat_list_eq_equiv es i m v at distinct (within_by_get es i (m, v) at) in
      take_first last m v (by_key es) (Ascending-by_key es distinct) least.0 (AllKeys-by_key (λ q. is_after last q ≡ true → is_below q m ≡ false) es least.1) (lookup-by_key m es ∙ found)

  -- where no key is next, none are left
  pub none_taken : (es : List (List ℕ × X)) (last : Option (List ℕ)) → None ≡ next_key last (keys_of es) → after last (by_key es) ≡ []
  none_taken es last none =
      none_after last (by_key es) (AllKeys-by_key (λ q. is_after last q ≡ false) es (subst (IsLeast last (keys_of es)) (sym none) (next_is_least last (keys_of es))))

-- one text and one value fed, before the rest
pub feed_pair : {S : Type 0} (write : S → List ℕ → S) (s t u : S) (text value rest : HashWrites) → t ≡ fold write s text → u ≡ fold write t value
    → fold write u rest ≡ fold write s ((text ++ value) ++ rest)
feed_pair write s t u text value rest p q = ap (λ x. fold write x rest) (fed_then write s t u text value p q) ∙ sym (fold-append write s (text ++ value) rest)
