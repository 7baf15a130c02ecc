-- How far a depth check has come, and a step of it.
use Rattle.std.proofs.Common.{arith, ◌≡◌, ℕ, suc, ◌+◌, ◌<◌, ◌≤◌, max, Some, None, set, slice_get, refl, sym, subst}
use Rattle.gql_collect.specs.Nested.{Nested, nothing, Fragments, Place, body_of}
use Rattle.gql_collect.specs.bridge.Check.{Memo, Accepts, accept_all, accept_field, accept_again, accept_into, accept_inline, Refuses, refuse_field, refuse_in_field, refuse_after_field, refuse_again, refuse_after_again, refuse_into, refuse_after_into, refuse_inline, refuse_after_inline, unentered}
use Rattle.gql_collect.specs.View.{One, one_field, one_spread, one_inline, then_more}
use Rattle.gql_collect.specs.bridge.Checked.{Accepted, Refused, AcceptedOne, RefusedOne}
use Rattle.gql_collect.proofs.DepthFacts.{unentered-less}

accepts_at : {fragments : Fragments} {c : ℕ} {m n : Memo} {s : Nested} (d e j k : ℕ) → d ≡ e → j ≡ k → Accepts fragments c m s d n j → Accepts fragments c m s e n k
accepts_at {fragments} {c} {m} {n} {s} d e j k p q w = subst (λ i. Accepts fragments c m s e n i) q (subst (λ i. Accepts fragments c m s i n j) p w)

refuses_at : {fragments : Fragments} {c : ℕ} {m : Memo} {s : Nested} {at : Place} (j k : ℕ) → j ≡ k → Refuses fragments c m s at j → Refuses fragments c m s at k
refuses_at {fragments} {c} {m} {s} {at} j k q w = subst (λ i. Refuses fragments c m s at i) q w

-- the depth so far, before what the rest of the set makes
pub record IsCheckedSoFar (fragments : Fragments) (c : ℕ) (s : Nested) (m : Memo) (t : ℕ) (left : Nested) (d : ℕ) (n : Memo) (u : ℕ) : Type 0 where
  pub taken : ℕ
  pub looks : u ≡ t + taken
  pub fewer : unentered fragments n ≤ unentered fragments m
  pub low : c + d < 3
  pub accepts : (e k : ℕ) (o : Memo) → Accepts fragments c n left e o k → Accepts fragments c m s (max d e) o (taken + k)
  pub refuses : (at : Place) (k : ℕ) → Refuses fragments c n left at k → Refuses fragments c m s at (taken + k)

module _ (fragments : Fragments) (c : ℕ) where
  pub check-one : (s : Nested) (m : Memo) (t : ℕ) (one : One) (rest : Nested) (d : ℕ) (n : Memo) (u e : ℕ) (o : Memo) (v : ℕ)
      → IsCheckedSoFar fragments c s m t (then_more one rest) d n u → AcceptedOne fragments c one n u e o v → IsCheckedSoFar fragments c s m t rest (max d e) o v
  check-one s m t one rest d n u e o v so_far found = record {
    taken = so_far.taken + found.taken;
    looks = omega (arith, found.looks, so_far.looks);
    fewer = omega (arith, found.fewer, so_far.fewer);
    low = omega (arith, found.low, so_far.low);
    accepts = λ x k p w. accepts_at (max d (max e x)) (max (max d e) x) (so_far.taken + (found.taken + k)) ((so_far.taken + found.taken) + k) (omega arith) (omega arith)
        (so_far.accepts (max e x) (found.taken + k) p (found.accepts rest x k p w));
    refuses = λ at k w. refuses_at (so_far.taken + (found.taken + k)) ((so_far.taken + found.taken) + k) (omega arith)
        (so_far.refuses at (found.taken + k) (found.refuses rest at k w));
  }

  pub check-end : (s : Nested) (m : Memo) (t d : ℕ) (n : Memo) (u : ℕ) → IsCheckedSoFar fragments c s m t nothing d n u → Accepted fragments c s m t d n u
  check-end s m t d n u so_far = record {
    taken = so_far.taken;
    looks = so_far.looks;
    fewer = so_far.fewer;
    low = so_far.low;
    accepts = accepts_at (max d 0) d (so_far.taken + 0) so_far.taken (omega arith) (omega arith) (so_far.accepts 0 0 n (accept_all c n));
  }

  pub check-refused : (s : Nested) (m : Memo) (t : ℕ) (one : One) (rest : Nested) (d : ℕ) (n : Memo) (u : ℕ) (at : Place) (v : ℕ)
      → IsCheckedSoFar fragments c s m t (then_more one rest) d n u → RefusedOne fragments c one n u at v → Refused fragments c s m t at v
  check-refused s m t one rest d n u at v so_far found = record {
    taken = so_far.taken + found.taken;
    looks = omega (arith, found.looks, so_far.looks);
    refuses = so_far.refuses at found.taken (found.refuses rest);
  }

  pub field-accepted : (weight : ℕ) (place : Place) (within : Nested) (m : Memo) (t d : ℕ) (n : Memo) (u : ℕ) → c + weight < 3 → Accepted fragments (c + weight) within m (t + 1) d n u
      → AcceptedOne fragments c (one_field weight place within) m t (weight + d) n u
  field-accepted weight place within m t d n u low found = record {
    taken = 1 + found.taken;
    looks = omega (arith, found.looks);
    fewer = found.fewer;
    low = omega (arith, found.low);
    accepts = λ rest e k o w. accepts_at (max (weight + d) e) (max (weight + d) e) (suc (found.taken + k)) ((1 + found.taken) + k) refl (omega arith)
        (accept_field weight place low found.accepts w);
    refuses = λ rest at k w. refuses_at (suc (found.taken + k)) ((1 + found.taken) + k) (omega arith) (refuse_after_field weight place low found.accepts w);
  }

  pub field-third : (weight : ℕ) (place : Place) (within : Nested) (m : Memo) (t : ℕ) → 3 ≤ c + weight → RefusedOne fragments c (one_field weight place within) m t place (t + 1)
  field-third weight place within m t high = record { taken = 1; looks = refl; refuses = λ rest. refuse_field weight place high }

  pub field-refused : (weight : ℕ) (place : Place) (within : Nested) (m : Memo) (t : ℕ) (at : Place) (u : ℕ) → c + weight < 3 → Refused fragments (c + weight) within m (t + 1) at u → RefusedOne fragments c (one_field weight place within) m t at u
  field-refused weight place within m t at u low found = record {
    taken = 1 + found.taken;
    looks = omega (arith, found.looks);
    refuses = λ rest. refuses_at (suc found.taken) (1 + found.taken) (omega arith) (refuse_in_field weight place low found.refuses);
  }

  pub spread-again : (f : ℕ) (place : Place) (d : ℕ) (m : Memo) (t : ℕ) → slice_get m f ≡ Some (Some d) → c + d < 3 → AcceptedOne fragments c (one_spread f place) m t d m (t + 1)
  spread-again f place d m t known low = record {
    taken = 1;
    looks = refl;
    fewer = omega arith;
    low = low;
    accepts = λ rest e k o w. accepts_at (max d e) (max d e) (suc k) (1 + k) refl (omega arith) (accept_again f place d known low w);
    refuses = λ rest at k w. refuses_at (suc k) (1 + k) (omega arith) (refuse_after_again f place d known low w);
  }

  pub spread-third : (f : ℕ) (place : Place) (d : ℕ) (m : Memo) (t : ℕ) → slice_get m f ≡ Some (Some d) → 3 ≤ c + d → RefusedOne fragments c (one_spread f place) m t place (t + 1)
  spread-third f place d m t known high = record { taken = 1; looks = refl; refuses = λ rest. refuse_again f place d known high }

  pub spread-accepted : (f : ℕ) (place : Place) (m : Memo) (t : ℕ) (body : Nested) (d : ℕ) (between : Memo) (u : ℕ) → slice_get m f ≡ Some None → body_of fragments f ≡ body
      → Accepted fragments c body (set m f (Some 0)) (t + 1) d between u → AcceptedOne fragments c (one_spread f place) m t d (set between f (Some d)) u
  spread-accepted f place m t body d between u fresh is found =
      let inside : Accepts fragments c (set m f (Some 0)) (body_of fragments f) d between found.taken = subst (λ b. Accepts fragments c (set m f (Some 0)) b d between found.taken) (sym is) found.accepts in
      record {
        taken = 1 + found.taken;
        looks = omega (arith, found.looks);
        fewer = omega (arith, found.fewer, unentered-less fragments between f d, unentered-less fragments m f 0);
        low = found.low;
        accepts = λ rest e k o w. accepts_at (max d e) (max d e) (suc (found.taken + k)) ((1 + found.taken) + k) refl (omega arith) (accept_into f place fresh inside w);
        refuses = λ rest at k w. refuses_at (suc (found.taken + k)) ((1 + found.taken) + k) (omega arith) (refuse_after_into f place fresh inside w);
      }

  pub spread-refused : (f : ℕ) (place : Place) (m : Memo) (t : ℕ) (body : Nested) (at : Place) (u : ℕ) → slice_get m f ≡ Some None → body_of fragments f ≡ body
      → Refused fragments c body (set m f (Some 0)) (t + 1) at u → RefusedOne fragments c (one_spread f place) m t at u
  spread-refused f place m t body at u fresh is found = record {
    taken = 1 + found.taken;
    looks = omega (arith, found.looks);
    refuses = λ rest. refuses_at (suc found.taken) (1 + found.taken) (omega arith)
        (refuse_into f place fresh (subst (λ b. Refuses fragments c (set m f (Some 0)) b at found.taken) (sym is) found.refuses));
  }

  pub inline-accepted : (body : Nested) (m : Memo) (t d : ℕ) (n : Memo) (u : ℕ) → Accepted fragments c body m (t + 1) d n u
      → AcceptedOne fragments c (one_inline body) m t d n u
  inline-accepted body m t d n u found = record {
    taken = 1 + found.taken;
    looks = omega (arith, found.looks);
    fewer = found.fewer;
    low = found.low;
    accepts = λ rest e k o w. accepts_at (max d e) (max d e) (suc (found.taken + k)) ((1 + found.taken) + k) refl (omega arith) (accept_inline found.accepts w);
    refuses = λ rest at k w. refuses_at (suc (found.taken + k)) ((1 + found.taken) + k) (omega arith) (refuse_after_inline found.accepts w);
  }

  pub inline-refused : (body : Nested) (m : Memo) (t : ℕ) (at : Place) (u : ℕ) → Refused fragments c body m (t + 1) at u → RefusedOne fragments c (one_inline body) m t at u
  inline-refused body m t at u found = record {
    taken = 1 + found.taken;
    looks = omega (arith, found.looks);
    refuses = λ rest. refuses_at (suc found.taken) (1 + found.taken) (omega arith) (refuse_inline found.refuses);
  }
