-- A walk through selections, part by part.
use Rattle.std.proofs.Common.{arith, ◌≡◌, ℕ, zero, suc, ◌+◌, ◌<◌, ◌≤◌, List, [], ◌∷◌, drop, length, get_or, set, replicate, Option, Some, None, slice_get, refl, sym, ap, ◌∙◌, subst, inl, inr}
use Rattle.std.specs.Option.{option_map_or}
use Rattle.std.specs.Prelude.{◌⊎◌}
use Rattle.std.proofs.lemmas.List.{length-replicate}
use Rattle.gql_document_types.proofs.Counts.{drop-item, count-inside, item-less}
use Rattle.gql_document_types.specs.Contents.{HaveContents}
use Rattle.gql_document_types.specs.Count.{count}
use Rattle.gql_document_types.specs.bridge.Counted.{count_at}
use Rattle.gql_document_types.specs.Expanded.{expanded}
use Rattle.gql_document_types.specs.declared.fragment.Fragment.{Fragment}
use Rattle.gql_document_types.specs.declared.selection.Selection.{Selection}
use Rattle.gql_cost.specs.Sum.{sum, sum_one, fragment_most}
use Rattle.gql_cost.specs.bridge.Walked.{IsCapped, waits, waiting, fragments_count, AreRight, Walked, sum_at, WalkedAll, WalkedOne}
use Rattle.gql_cost.proofs.Caps.{capped-sum}

-- ---- lists that are written

pub set-other : {A : Type 0} (xs : List A) (f g : ℕ) (v : A) → ¬ (f ≡ g) → slice_get (set xs f v) g ≡ slice_get xs g
set-other [] f g v different = refl
set-other (x ∷ xs) zero zero v different = absurd (different refl)
set-other (x ∷ xs) zero (suc g) v different = refl
set-other (x ∷ xs) (suc f) zero v different = refl
set-other (x ∷ xs) (suc f) (suc g) v different = set-other xs f g v (λ e. different (ap suc e))

pub set-cases : {A : Type 0} (xs : List A) (f g : ℕ) (v y : A) → slice_get (set xs f v) g ≡ Some y → ((f ≡ g) × (v ≡ y)) ⊎ (slice_get xs g ≡ Some y)
set-cases [] f g v y is = inr is
set-cases (x ∷ xs) zero zero v y is = inl (refl, (let e : Some v ≡ Some y = is in cc))
set-cases (x ∷ xs) zero (suc g) v y is = inr is
set-cases (x ∷ xs) (suc f) zero v y is = inr is
set-cases (x ∷ xs) (suc f) (suc g) v y is = by (set-cases xs f g v y is)
  where
    by : ((f ≡ g) × (v ≡ y)) ⊎ (slice_get xs g ≡ Some y) → ((suc f ≡ suc g) × (v ≡ y)) ⊎ (slice_get xs g ≡ Some y)
    by (inl same) = inl (ap suc same.0, same.1)
    by (inr other) = inr other

pub set-length : {A : Type 0} (xs : List A) (f : ℕ) (v : A) → length (set xs f v) ≡ length xs
set-length [] f v = refl
set-length (x ∷ xs) zero v = refl
set-length (x ∷ xs) (suc f) v = ap suc (set-length xs f v)

-- ---- what waits

pub waiting-set : (all : List Fragment) (memo : List (Option ℕ)) (f n : ℕ) (it : Fragment) → slice_get all f ≡ Some it → slice_get memo f ≡ Some None
    → count it.selection_set.selections + waiting all (set memo f (Some n)) ≡ waiting all memo
waiting-set [] memo f n it there none = cc
waiting-set (x ∷ all) [] f n it there none = cc
waiting-set (x ∷ all) (o ∷ memo) zero n it there none =
    let is : o ≡ None = cc in
    let same : x ≡ it = cc in
    omega (arith, ap (λ (p : Option ℕ). waits p x) is, ap (λ (y : Fragment). count y.selection_set.selections) same)
waiting-set (x ∷ all) (o ∷ memo) (suc f) n it there none = omega (arith, waiting-set all memo f n it there none)

pub waiting-start : (all : List Fragment) (memo : List (Option ℕ)) → waiting all memo ≤ fragments_count all
waiting-start [] memo = omega arith
waiting-start (it ∷ all) [] = omega arith
waiting-start (it ∷ all) (None ∷ memo) = omega (arith, waiting-start all memo)
waiting-start (it ∷ all) (Some n ∷ memo) = omega (arith, waiting-start all memo)

at-none : (n f m : ℕ) → slice_get (replicate n None) f ≡ Some (Some m) → ⊥
at-none zero f m e = cc
at-none (suc n) zero m e = cc
at-none (suc n) (suc f) m e = at-none n f m e

module _ (items most : ℕ) (all : List Fragment) where
  pub right-start : (memo : List (Option ℕ)) (n : ℕ) → memo ≡ replicate n None → n ≡ length all → AreRight items most all memo
  right-start memo n is long = record {
    sized = ap length is ∙ length-replicate n None ∙ long;
    right = λ f m known. absurd (at-none n f m (subst (λ l. slice_get l f ≡ Some (Some m)) is known));
  }

  -- ---- a set, selection by selection

  pub record IsWalkedSoFar (whole left : List Selection) (memo : List (Option ℕ)) (steps n : ℕ) (memo' : List (Option ℕ)) (steps' : ℕ) : Type 0 where
    pub done : ℕ
    pub right : AreRight items most all memo'
    pub kept : (f : ℕ) → count (expanded all whole) ≤ count_at all f → slice_get memo' f ≡ slice_get memo f
    pub is : IsCapped most done n
    pub sums : done + sum items all left ≡ sum items all whole
    pub looks : steps' + waiting all memo' + count left ≤ steps + count whole + waiting all memo
    pub rises : steps ≤ steps'

  module _ (whole items_ : List Selection) (i : ℕ) (s : Selection) (same : items_ ≡ whole) (within : i < length items_) (is : s ≡ get_or items_ i s) where
    pub walk-next : (memo : List (Option ℕ)) (steps n : ℕ) (memo' : List (Option ℕ)) (steps' more next : ℕ) (memo'' : List (Option ℕ)) (steps'' : ℕ)
        → IsWalkedSoFar whole (drop i items_) memo steps n memo' steps'
        → WalkedOne items most all s memo' steps' more memo'' steps''
        → IsCapped most (n + more) next
        → IsWalkedSoFar whole (drop (i + 1) items_) memo steps next memo'' steps''
    walk-next memo steps n memo' steps' more next memo'' steps'' so_far one both =
        let parts : drop i items_ ≡ s ∷ drop (i + 1) items_ = drop-item items_ i s within is in
        record {
          done = so_far.done + sum_one items (fragment_most items all) s;
          right = one.right;
          kept = λ f far. one.kept f (omega (arith, far, item-less all whole items_ i s same within is)) ∙ so_far.kept f far;
          is = capped-sum most so_far.done (sum_one items (fragment_most items all) s) n more next so_far.is one.is both;
          sums = omega (arith, so_far.sums, ap (λ l. sum items all l) parts);
          looks = omega (arith, so_far.looks, one.looks, ap (λ l. count l) parts);
          rises = omega (arith, so_far.rises, one.rises);
        }

  -- ---- one fragment

  pub fragment-walked : HaveContents all → (f : ℕ) (it : Fragment) → slice_get all f ≡ Some it
      → (memo : List (Option ℕ)) (steps n : ℕ) (memo' : List (Option ℕ)) (steps' : ℕ) → f < length memo → slice_get memo f ≡ Some None
      → WalkedAll items most all it.selection_set.selections memo steps n memo' steps'
      → Walked items most all (suc (count_at all f)) 0 (sum_at items most all f) memo steps n (set memo' f (Some n)) steps'
  fragment-walked have f it there memo steps n memo' steps' within new walked =
      let inside : count_at all f ≡ count (expanded all it.selection_set.selections) = count-inside all have f it there in
      let still : slice_get memo' f ≡ Some None = walked.kept f (omega (arith, inside)) ∙ new in
      let sums : sum_at items most all f ≡ sum items all it.selection_set.selections =
      ap (λ o. option_map_or (λ (x : Fragment). sum items all x.selection_set.selections) o 0) there in
      let total : IsCapped most (sum_at items most all f) n = subst (λ k. IsCapped most k n) (sym sums) walked.is in
      record {
        right = record {
          sized = set-length memo' f (Some n) ∙ walked.right.sized;
          right = λ g m known. by g m (set-cases memo' f g (Some n) (Some m) known);
        };
        kept = λ g far. set-other memo' f g (Some n) (λ e. absurd (omega (arith, far, ap (λ h. count_at all h) e))) ∙ walked.kept g (omega (arith, far, inside));
        is = total;
        looks = omega (arith, walked.looks, waiting-set all memo' f n it there still);
        rises = walked.rises;
      }
    where
      by : (g m : ℕ) → ((f ≡ g) × (Some n ≡ Some m)) ⊎ (slice_get memo' g ≡ Some (Some m)) → IsCapped most (sum_at items most all g) m
      by g m (inl same) =
          let alike : n ≡ m = (let e : Some n ≡ Some m = same.1 in cc) in
          subst (λ h. IsCapped most (sum_at items most all h) m) same.0
          (subst (λ k. IsCapped most (sum_at items most all f) k) alike
          (subst (λ k. IsCapped most k n)
          (sym (ap (λ o. option_map_or (λ (x : Fragment). sum items all x.selection_set.selections) o 0) there)) walked.is))
      by g m (inr known) = walked.right.right g m known

-- ---- the cost

-- a number below the most is what is capped
pub below-most : (most n total : ℕ) → IsCapped most total n → n < most → n ≡ total
below-most most n total it low = by it.is
  where
    by : (n ≡ total) ⊎ (n ≡ most) → n ≡ total
    by (inl is) = is
    by (inr is) = absurd (omega (arith, is, low))
