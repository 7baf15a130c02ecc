-- What each function of counting owes, over plain values.
use Rattle.std.proofs.Common.{arith, ◌≡◌, ℕ, zero, suc, ◌+◌, ◌<◌, ◌≤◌, Bool, List, drop, length, get_or, set, replicate, Option, Some, None, is_some, leb, slice_get, sym, ap, ◌∙◌, subst}
use Rattle.std.proofs.lemmas.Bool.{le-leb, lt-leb}
use Rattle.std.proofs.lemmas.List.{length-replicate}
use Rattle.std.proofs.lemmas.Option.{slice_get-get_or}
use Rattle.std.proofs.Math.ListN.{drop_of_length-le}
use Rattle.gql_document_types.specs.declared.fragment.Fragment.{Fragment}
use Rattle.gql_document_types.specs.declared.selection.Selection.{Selection}
use Rattle.gql_document_types.specs.Contents.{HaveContents}
use Rattle.gql_document_types.specs.Count.{count}
use Rattle.gql_document_types.specs.bridge.Counted.{IsCounted, AreRight, one_count, count_at}
use Rattle.gql_document_types.specs.Expanded.{expanded}
use Rattle.gql_document_types.proofs.Counts.{count-inside, count-item}

-- the same number in another form
pub counted-as : (limit m n : ℕ) (o : Option ℕ) → m ≡ n → IsCounted limit m o → IsCounted limit n o
counted-as limit m n o same counted = subst (λ k. IsCounted limit k o) same counted

module _ (all : List Fragment) (limit : ℕ) where
  -- how far the counting of a set has come
  pub record IsCountedSoFar (whole left : List Selection) (total : ℕ) (memo : List (Option ℕ)) : Type 0 where
    pub right : AreRight all limit memo
    pub low : total ≤ limit
    pub sum : total + count (expanded all left) ≡ count (expanded all whole)

  module _ (whole items : List Selection) (i total : ℕ) (memo : List (Option ℕ)) (so_far : IsCountedSoFar whole (drop i items) total memo) where
    pub count-end : length items ≤ i → IsCounted limit (count (expanded all whole)) (Some total)
    count-end past =
        let is : total ≡ count (expanded all whole) = omega (arith, so_far.sum, ap (λ l. count (expanded all l)) (drop_of_length-le items past)) in
        (is, omega (arith, is, so_far.low))

    module _ (s : Selection) (within : i < length items) (is : s ≡ get_or items i s) where
      pub count-next : (n next : ℕ) (memo' : List (Option ℕ)) → IsCounted limit (one_count all s) (Some n) → IsCounted limit (total + n) (Some next)
          → AreRight all limit memo' → IsCountedSoFar whole (drop (i + 1) items) next memo'
      count-next n next memo' one both right = record {
        right = right;
        low = omega (arith, both.0, both.1);
        sum = omega (arith, one.0, both.0, so_far.sum, count-item all items i s within is);
      }

      pub count-one-past : limit < one_count all s → limit < count (expanded all whole)
      count-one-past past = omega (arith, past, so_far.sum, count-item all items i s within is)

      pub count-sum-past : (n : ℕ) → IsCounted limit (one_count all s) (Some n) → limit < total + n → limit < count (expanded all whole)
      count-sum-past n one past = omega (arith, past, one.0, so_far.sum, count-item all items i s within is)

  -- what is remembered

  pub memo-is : (memo : List (Option ℕ)) (f : ℕ) (o : Option ℕ) → f < length memo → get_or memo f None ≡ o → slice_get memo f ≡ Some o
  memo-is memo f o within is = slice_get-get_or memo f None within ∙ ap (λ x. Some x) is

  pub remembered : (memo : List (Option ℕ)) (f n : ℕ) → AreRight all limit memo → f < length all → get_or memo f None ≡ Some n → IsCounted limit (count_at all f) (Some n)
  remembered memo f n right within is = right.right f n (memo-is memo f (Some n) (omega (arith, within, right.sized)) is)

  at-none : (n f m : ℕ) → slice_get (replicate n None) f ≡ Some (Some m) → ⊥
  at-none zero f m e = cc
  at-none (suc n) zero m e = cc
  at-none (suc n) (suc f) m e = at-none n f m e

  pub right-start : (memo : List (Option ℕ)) (n : ℕ) → memo ≡ replicate n None → n ≡ length all → AreRight all limit memo
  right-start memo n is long = record {
    sized = ap length is ∙ length-replicate n None ∙ long;
    right = λ f m known. absurd (at-none n f m (subst (λ l. slice_get l f ≡ Some (Some m)) is known));
  }

  -- what is inside the fragment of a number
  module _ (have : HaveContents all) (f : ℕ) (it : Fragment) (there : slice_get all f ≡ Some it) (body : List Selection) (is : body ≡ it.selection_set.selections) where
    pub body-count : count (expanded all body) ≡ count_at all f
    body-count = ap (λ l. count (expanded all l)) is ∙ sym (count-inside all have f it there)

-- whether a count was found
pub fits-told : (limit n : ℕ) (o : Option ℕ) (fits : Bool) → IsCounted limit n o → fits ≡ is_some o → fits ≡ leb n limit
fits-told limit n (Some m) fits counted is = is ∙ sym (le-leb n limit counted.1)
fits-told limit n None fits past is = is ∙ sym (lt-leb n limit past)

-- a refusal of `?`
pub none-counted : (limit n : ℕ) (o : Option ℕ) → o ≡ None → limit < n → IsCounted limit n o
none-counted limit n o is past = subst (IsCounted limit n) (sym is) past
