-- One part more.
use Rattle.std.proofs.Common.{◌≡◌, ◌≢◌, ◌⊎◌, inl, inr, ℕ, zero, suc, ◌+◌, ◌<◌, Option, Some, List, [], ◌∷◌, length, get_or, refl, sym, ap, ◌∙◌, subst, arith}
use Rattle.std.specs.List.{Contains, slice_get}
use Rattle.std.proofs.lemmas.Option.{slice_get_within, slice_get-get_or}
use Rattle.gql_graph.specs.Cycles.{Reaches, at_once}
use Rattle.gql_graph.specs.bridge.Cycles.{IsMutual, IsReverse, IsPartitioned, HasPart}
use Rattle.gql_graph.specs.bridge.Flooding.{all_marked}
use Rattle.gql_graph.specs.Graph.{Graph}
use Rattle.gql_graph.specs.bridge.Graph.{IsReachedOver, IsFlooded}
use Rattle.gql_graph.proofs.Flooded.{Contains-cons_cases, none_contained, walk_end}
use Rattle.gql_graph.proofs.Marks.{all_marked_other, all_marked_at}
use Rattle.gql_graph.proofs.Walks.{reaches_trans, mutual_sym, mutual_trans, forget, lift, inside, backward, forward}

two_marks : (x y : ℕ) (o : Option ℕ) → o ≡ Some x → o ≡ Some y → x ≡ y
two_marks x y o is at = let h : Some x ≡ Some y = sym is ∙ at in cc

only_start : (v s : ℕ) → Contains (v ∷ []) s → v ≡ s
only_start v s c = elim (Contains-cons_cases v [] s c) [ inl e ↦ e | inr none ↦ absurd (none_contained s none) ]

module _ (g r : Graph) (rev : IsReverse g r) (old one two new told_one told_two : List ℕ) (v : ℕ) (whole : IsPartitioned g old) (free : slice_get old v ≡ Some 0)
    (first : IsFlooded g old one (v ∷ []) 0 1 told_one) (second : IsFlooded r one two (v ∷ []) 1 (v + 2) told_two) (last : new ≡ all_marked 1 0 two told_one) where
  node : v < length g
  node = omega (arith, slice_get_within old v 0 free, whole.as_many)

  start : Contains (v ∷ []) v
  start = (0, omega arith, refl)

  -- what is in the part of v was free
  was_free : (x : ℕ) → IsMutual g v x → slice_get old x ≡ Some 0
  was_free x pair = by_mark (get_or old x 0) (slice_get-get_or old x 0 (omega (arith, inside g pair.1 node, whole.as_many)))
    where
      by_mark : (y : ℕ) → slice_get old x ≡ Some y → slice_get old x ≡ Some 0
      by_mark zero is = is
      by_mark (suc zero) is = absurd (whole.known x is)
      by_mark (suc (suc k)) is =
          let more : suc (suc k) ≡ k + 2 = omega arith in
          let again : slice_get old v ≡ Some (k + 2) = whole.whole x v k (is ∙ ap Some more) (mutual_sym g v x pair) in
          absurd (let h : 0 ≡ k + 2 = two_marks 0 (k + 2) (slice_get old v) free again in omega (arith, h))

  in_first : (x : ℕ) → IsMutual g v x → slice_get one x ≡ Some 1
  in_first x pair = first.reached x (v, start, lift g old 0 (λ y to from. was_free y (to, reaches_trans g from pair.1)) pair.0)

  in_second : (x : ℕ) → IsMutual g v x → slice_get two x ≡ Some (v + 2)
  in_second x pair =
      second.reached x (v, start, lift r one 1 (λ y to from. in_first y (reaches_trans g pair.0 (forward g r rev from), forward g r rev to)) (backward g r rev node pair.1))

  -- what the flood along the edges reached
  reached_first : (x : ℕ) → IsReachedOver g old 0 (v ∷ []) x → Reaches g v x
  reached_first x reach = subst (λ s. Reaches g s x) (sym (only_start v reach.0 reach.1)) (forget g old 0 reach.2)

  -- the mark of a node that the second flood reached
  reached_second : (x : ℕ) → IsReachedOver r one 1 (v ∷ []) x → IsMutual g v x
  reached_second x reach =
      let back : Reaches g x v = forward g r rev (subst (λ s. Reaches r s x) (sym (only_start v reach.0 reach.1)) (forget r one 1 reach.2)) in
      let is : slice_get one x ≡ Some 1 = walk_end r one 1 reach.2 in
      elim (first.only x) [
        | inl e ↦ absurd (whole.known x (sym e ∙ is))
        | inr p ↦ (reached_first x p.0, back)
      ]

  stays : (x k : ℕ) → slice_get two x ≡ Some (k + 2) → slice_get new x ≡ Some (k + 2)
  stays x k is = ap (λ s. slice_get s x) last ∙ all_marked_other 1 0 (λ e. omega (arith, e)) told_one two x (λ one. let h : k + 2 ≡ 1 = two_marks (k + 2) 1 (slice_get two x) is one in omega (arith, h)) ∙ is

  in_new : (x : ℕ) → IsMutual g v x → slice_get new x ≡ Some (v + 2)
  in_new x pair = stays x v (in_second x pair)

  -- what has a part keeps it
  pub kept : (x k : ℕ) → slice_get old x ≡ Some (k + 2) → slice_get new x ≡ Some (k + 2)
  kept x k is =
      let at_one : slice_get one x ≡ Some (k + 2) = elim (first.only x) [
        | inl e ↦ e ∙ is
        | inr p ↦ absurd (let h : k + 2 ≡ 0 = two_marks (k + 2) 0 (slice_get old x) is (walk_end g old 0 p.0.2) in omega (arith, h))
      ] in
      stays x k (elim (second.only x) [
        | inl e ↦ e ∙ at_one
        | inr p ↦ absurd (let h : k + 2 ≡ 1 = two_marks (k + 2) 1 (slice_get one x) at_one (walk_end r one 1 p.0.2) in omega (arith, h))
      ])

  -- where a mark comes from: the new part, an old mark, or none
  pub data Origin (x : ℕ) : Type 0 where
    fresh : IsMutual g v x → slice_get new x ≡ Some (v + 2) → Origin x
    before : slice_get new x ≡ slice_get old x → Origin x
    cleared : slice_get new x ≡ Some 0 → Origin x

  origin : (x : ℕ) → Origin x
  origin x = elim (second.only x) [
    | inr p ↦ fresh (reached_second x p.0) (stays x v p.2)
    | inl e ↦ elim (first.only x) [
      | inl f ↦ before (ap (λ s. slice_get s x) last ∙ all_marked_other 1 0 (λ e. omega (arith, e)) told_one two x (λ one. whole.known x (sym f ∙ sym e ∙ one)) ∙ e ∙ f)
      | inr p ↦ cleared (ap (λ s. slice_get s x) last ∙ all_marked_at 1 0 (λ e. omega (arith, e)) told_one two x p.1 (e ∙ p.2))
    ]
  ]

  -- a node with a part's number is in the new part, or had it
  from : (x k : ℕ) → slice_get new x ≡ Some (k + 2) → ((k ≡ v) × IsMutual g v x) ⊎ (slice_get old x ≡ Some (k + 2))
  from x k is = by_origin (origin x)
    where
      by_origin : Origin x → ((k ≡ v) × IsMutual g v x) ⊎ (slice_get old x ≡ Some (k + 2))
      by_origin (fresh pair at) = inl (let h : k + 2 ≡ v + 2 = two_marks (k + 2) (v + 2) (slice_get new x) is at in omega (arith, h), pair)
      by_origin (before e) = inr (sym e ∙ is)
      by_origin (cleared at) = absurd (let h : k + 2 ≡ 0 = two_marks (k + 2) 0 (slice_get new x) is at in omega (arith, h))

  -- no old part has the number of the new one
  not_yet : (x k : ℕ) → k ≡ v → slice_get old x ≡ Some (k + 2) → ⊥
  not_yet x k e is =
      let led : slice_get old k ≡ Some (k + 2) = whole.led x k is in
      let h : k + 2 ≡ 0 = two_marks (k + 2) 0 (slice_get old k) led (ap (slice_get old) e ∙ free) in
      omega (arith, h)

  pub one_more : length new ≡ length old → IsPartitioned g new
  one_more as_many = record {
    as_many = as_many ∙ whole.as_many;
    same = λ u w k at_u at_w. elim (from u k at_u) [
      | inl p ↦ elim (from w k at_w) [ inl q ↦ mutual_trans g u v w (mutual_sym g v u p.1) q.1 | inr q ↦ absurd (not_yet w k p.0 q) ]
      | inr p ↦ elim (from w k at_w) [ inl q ↦ absurd (not_yet u k q.0 p) | inr q ↦ whole.same u w k p q ]
    ];
    whole = λ u w k at_u pair. elim (from u k at_u) [
      | inl p ↦ subst (λ n. slice_get new w ≡ Some (n + 2)) (sym p.0) (in_new w (mutual_trans g v u w p.1 pair))
      | inr p ↦ kept w k (whole.whole u w k p pair)
    ];
    led = λ u k at_u. elim (from u k at_u) [
      | inl p ↦ subst (λ n. slice_get new n ≡ Some (n + 2)) (sym p.0) (in_new v (at_once, at_once))
      | inr p ↦ kept k k (whole.led u k p)
    ];
    known = λ u is. by_origin u is (origin u);
  }
    where
      by_origin : (u : ℕ) → slice_get new u ≡ Some 1 → Origin u → ⊥
      by_origin u is (fresh pair at) = let h : 1 ≡ v + 2 = two_marks 1 (v + 2) (slice_get new u) is at in omega (arith, h)
      by_origin u is (before e) = whole.known u (sym e ∙ is)
      by_origin u is (cleared at) = let h : 1 ≡ 0 = two_marks 1 0 (slice_get new u) is at in omega (arith, h)

  pub taken : HasPart new v
  taken = (v, in_new v (at_once, at_once))

-- a node with a mark that is not 0 has a part
pub taken_before : (g : Graph) (parts : List ℕ) (v : ℕ) → IsPartitioned g parts → v < length g → slice_get parts v ≢ Some 0 → HasPart parts v
taken_before g parts v whole within taken = by_mark (get_or parts v 0) (slice_get-get_or parts v 0 (omega (arith, whole.as_many)))
  where
    by_mark : (y : ℕ) → slice_get parts v ≡ Some y → HasPart parts v
    by_mark zero is = absurd (taken is)
    by_mark (suc zero) is = absurd (whole.known v is)
    by_mark (suc (suc k)) is = (k, is ∙ ap Some (let h : suc (suc k) ≡ k + 2 = omega arith in h))

-- what a part more leaves
pub record Taken (g : Graph) (old new : List ℕ) (v : ℕ) : Type 0 where
  pub more : IsPartitioned g new
  pub part : HasPart new v
  pub before : (x : ℕ) → HasPart old x → HasPart new x

pub take_part : (g r : Graph) → IsReverse g r → (old one two new told_one told_two told starts_one starts_two : List ℕ) (v k : ℕ) → IsPartitioned g old → slice_get old v ≡ Some 0
    → starts_one ≡ v ∷ [] → starts_two ≡ v ∷ [] → k ≡ v + 2 → told ≡ told_one → IsFlooded g old one starts_one 0 1 told_one → IsFlooded r one two starts_two 1 k told_two
    → new ≡ all_marked 1 0 two told → length new ≡ length old → Taken g old new v
take_part g r rev old one two new told_one told_two told starts_one starts_two v k whole free is_one is_two is_k is_told flooded again last as_many =
    let first : IsFlooded g old one (v ∷ []) 0 1 told_one = subst (λ s. IsFlooded g old one s 0 1 told_one) is_one flooded in
    let second : IsFlooded r one two (v ∷ []) 1 (v + 2) told_two = subst (λ (p : List ℕ × ℕ). IsFlooded r one two p.0 1 p.1 told_two) (λ i. (is_two i, is_k i)) again in
    let end : new ≡ all_marked 1 0 two told_one = last ∙ ap (all_marked 1 0 two) is_told in
    record {
      more = one_more g r rev old one two new told_one told_two v whole free first second end as_many;
      part = taken g r rev old one two new told_one told_two v whole free first second end;
      before = λ x p. (p.0, kept g r rev old one two new told_one told_two v whole free first second end x p.0 p.1);
    }
