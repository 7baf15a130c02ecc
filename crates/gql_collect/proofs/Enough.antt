-- Flat selections to the depth that is enough are all flat selections.
use Rattle.std.proofs.Common.{arith, ◌≡◌, ℕ, zero, suc, ◌+◌, ◌*◌, ◌<◌, ◌≤◌, Bool, true, false, ◌&&◌, List, [], ◌++◌, length, replicate, Option, Some, None, slice_get, refl, sym, ap, ◌∙◌, subst, append_assoc}
use Rattle.std.specs.List.{find}
use Rattle.std.specs.Prelude.{option_to_list}
use Rattle.std.proofs.lemmas.List.{length-replicate}
use Rattle.std.proofs.Math.Nat.{mul-le-mul_right}
use Rattle.gql_document_types.specs.Spreads.{spread_numbers}
use Rattle.gql_document_types.specs.declared.selection.Field.{Field}
use Rattle.gql_document_types.specs.declared.selection.FragmentSpread.{FragmentSpread}
use Rattle.gql_document_types.specs.declared.selection.Selection.{Selection, out-Selection}
use Rattle.gql_document_types.specs.declared.selection.Selection.TheOpen.{Selection-F}
use Rattle.gql_collect.specs.Applies.{applies_if}
use Rattle.gql_collect.specs.Flat.{Shape, when, contents, body, field_of, opened, flat_within, enough, flat, flat_sets}
use Rattle.gql_collect.specs.Kept.{is_kept}
use Rattle.gql_document_types.specs.Ranks.{AreRanked}
use Rattle.gql_collect.specs.Same.{SameFirst}
use Rattle.gql_collect.specs.Setting.{Setting}
use Rattle.gql_collect.specs.Sizes.{size, fragments_size}
use Rattle.gql_collect.specs.bridge.Walk.{number_of, WalksAll}
use Rattle.gql_collect.proofs.Numbers.{AreBelow, shape_numbers, first-below, rest-below, when-below, below-all, contents-below, body-is, body-none, shape_own, own-shape, when-size, contents-size}
use Rattle.gql_collect.proofs.WalkFacts.{IsFlat, flat_none, flat_on, AreFlat, none_flat, one_flat, collected_all, none-marked}

module _ (s : Setting) (rank : ℕ → ℕ) (ranked : AreRanked s.fragments rank) where
  -- what is inside one selection is less by far
  record Less (r : ℕ) (xs : List Selection) (n : ℕ) : Type 0 where
    pub bound : ℕ
    pub below : AreBelow rank bound (spread_numbers s.fragments xs)
    pub less : suc (size xs + bound * suc (fragments_size s.fragments)) ≤ n + r * suc (fragments_size s.fragments)

  body-less : (it : FragmentSpread) (r : ℕ) → AreBelow rank r (shape_numbers s.fragments (Selection-F.FragmentSpread it)) → Less r (body s it.fragment_name.text) 1
  body-less it r below = by (number_of s it) refl
    where
      by : (n : Option ℕ) → number_of s it ≡ n → Less r (body s it.fragment_name.text) 1
      by None at = record {
        bound = r;
        below = subst (λ l. AreBelow rank r (spread_numbers s.fragments l)) (sym (body-none s it.fragment_name.text at)) tt;
        less = omega (arith, ap size (body-none s it.fragment_name.text at));
      }
      by (Some f) at =
          let small : rank f < r = (subst (λ o. AreBelow rank r (option_to_list o)) at below).0 in
          let is : body s it.fragment_name.text ≡ contents s (slice_get s.fragments f) = body-is s it.fragment_name.text f at in
          let big : suc (rank f) * suc (fragments_size s.fragments) ≤ r * suc (fragments_size s.fragments) = mul-le-mul_right (suc (fragments_size s.fragments)) (omega (arith, small)) in
          record {
            bound = rank f;
            below = subst (λ l. AreBelow rank (rank f) (spread_numbers s.fragments l)) (sym is) (contents-below s rank ranked f);
            less = omega (arith, ap size is, contents-size s f, big);
          }

  when-less : (b : Bool) (r n : ℕ) (xs : List Selection) → Less r xs (suc n) → Less r (when b xs) (suc n)
  when-less true r n xs less = less
  when-less false r n xs less = record { bound = r; below = tt; less = omega arith }

  opened-less : (k : Shape) (r : ℕ) → AreBelow rank r (shape_numbers s.fragments k) → Less r (opened s k) (shape_own k)
  opened-less (Selection-F.Field it) r below = record { bound = r; below = tt; less = omega arith }
  opened-less (Selection-F.FragmentSpread it) r below = when-less (is_kept s.variables it.directives) r 0 (body s it.fragment_name.text) (body-less it r below)
  opened-less (Selection-F.InlineFragment it) r below =
      let b = is_kept s.variables it.directives && applies_if s.schema.types s.object it.type_condition in
      record {
        bound = r;
        below = when-below s.fragments rank r b it.selection_set.selections below;
        less = omega (arith, when-size b it.selection_set.selections);
      }

  within : {xs : List Selection} {fields : List Field} → IsFlat s xs fields → (r n : ℕ) → AreBelow rank r (spread_numbers s.fragments xs)
      → size xs + r * suc (fragments_size s.fragments) < n → flat_within s n xs ≡ fields
  within flat_none r zero below room = absurd (omega (arith, room))
  within flat_none r (suc n) below room = refl
  within (flat_on v w) r zero below room = absurd (omega (arith, room))
  within (flat_on {x = x} {rest = rest} {inner = inner} {others = others} v w) r (suc n) below room =
      let less : Less r (opened s (out-Selection x)) (shape_own (out-Selection x)) = opened-less (out-Selection x) r (first-below s.fragments rank r x rest below) in
      let first : flat_within s n (opened s (out-Selection x)) ≡ inner = within v less.bound n less.below (omega (arith, less.less, room, own-shape x)) in
      let second : flat_within s (suc n) rest ≡ others = within w r (suc n) (rest-below s.fragments rank r x rest below) (omega (arith, room)) in
      ap (λ l. (field_of s (out-Selection x) ++ l) ++ flat_within s (suc n) rest) first ∙ ap (λ l. (field_of s (out-Selection x) ++ inner) ++ l) second
      ∙ append_assoc (field_of s (out-Selection x)) inner others

  all-below : (f : ℕ) → rank f < suc (length s.fragments)
  all-below f = omega (arith, ranked.bounded f)

  is-flat : {xs : List Selection} {fields : List Field} → IsFlat s xs fields → flat s xs ≡ fields
  unfolding flat
  is-flat {xs} w = within w (suc (length s.fragments)) (enough s xs) (below-all rank (suc (length s.fragments)) all-below (spread_numbers s.fragments xs)) (omega arith)

  are-flat : {lists : List (List Selection)} {fields : List Field} → AreFlat s rank ranked lists fields → flat_sets s lists ≡ fields
  are-flat none_flat = refl
  are-flat (one_flat {xs = xs} {lists = lists} {inner = inner} v w) = ap (λ l. l ++ flat_sets s lists) (is-flat v) ∙ ap (λ l. inner ++ l) (are-flat w)

-- a walk that begins with no mark finds what flat selections have, repeats aside
pub walk-same : (s : Setting) (marks : List Bool) (lists : List (List Selection)) (fields : List Field) → ((rank : ℕ → ℕ) × AreRanked s.fragments rank)
    → marks ≡ replicate (length s.fragments) false → WalksAll s marks lists fields → SameFirst fields (flat_sets s lists)
walk-same s marks lists fields ranked start w =
    let from : WalksAll s (replicate (length s.fragments) false) lists fields = subst (λ m. WalksAll s m lists fields) start w in
    let found = collected_all s ranked.0 ranked.1 from (suc (length s.fragments)) [] (all-below s ranked.0 ranked.1)
    (λ f entered less. absurd (none-marked (length s.fragments) f entered)) (length-replicate (length s.fragments) false) in
    λ p. found.same p ∙ ap (find p) (sym (are-flat s ranked.0 ranked.1 found.are_flat))
