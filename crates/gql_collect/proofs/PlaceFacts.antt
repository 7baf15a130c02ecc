-- The check that remembers refuses at the first place on the way whose number is three or more.
use Rattle.std.proofs.Common.{arith, rules, ◌≡◌, ℕ, zero, suc, ◌+◌, ◌<◌, ◌≤◌, Bool, true, false, cond, leb, List, [], ◌∷◌, length, map, set, replicate, find, is_some, Option, Some, None, option_map, slice_get, refl, sym, ap, ◌∙◌, subst, length-set}
use Rattle.std.specs.Option.{option_or}
use Rattle.std.proofs.lemmas.Option.{slice_get-map}
use Rattle.std.proofs.lemmas.List.Folds.{find-append}
use Rattle.gql_collect.specs.Nested.{Nested, Fragments, Place, body_of}
use Rattle.gql_collect.specs.bridge.Nested.{IsBelow, AreRanked}
use Rattle.gql_collect.specs.DepthPlace.{Stop, Way, after, at_place, at_spread, way_with, enter_at, is_deep, depth_place}
use Rattle.gql_collect.specs.Expanded.{depth_with, fragment_depth}
use Rattle.gql_collect.specs.bridge.Check.{Memo, Accepts, accept_all, accept_field, accept_again, accept_into, accept_inline, Refuses, refuse_field, refuse_in_field, refuse_after_field, refuse_again, refuse_after_again, refuse_into, refuse_after_into, refuse_inline, refuse_after_inline}
use Rattle.gql_collect.proofs.DepthFacts.{Right, checked, right-inside, right-outside, depth-fixed, at-none, below_all}

high-is_deep : (n : ℕ) → 3 ≤ n → leb 3 n ≡ true
high-is_deep n h = search (rules, h)

low-good : (n : ℕ) → n < 3 → leb 3 n ≡ false
low-good n h = search (rules, h)

abbrev marks : Memo → List Bool
marks m = map (λ (o : Option ℕ). is_some o) m

marks-set : (m : Memo) (f d : ℕ) → marks (set m f (Some d)) ≡ set (marks m) f true
marks-set [] f d = refl
marks-set (o ∷ m) zero d = refl
marks-set (o ∷ m) (suc f) d = ap (λ l. is_some o ∷ l) (marks-set m f d)

marks-again : (m : Memo) (f d e : ℕ) → slice_get m f ≡ Some (Some e) → marks (set m f (Some d)) ≡ marks m
marks-again [] f d e known = refl
marks-again (o ∷ m) zero d e known = let is : o ≡ Some e = cc in ap (λ (q : Option ℕ). is_some q ∷ marks m) (sym is)
marks-again (o ∷ m) (suc f) d e known = ap (λ l. is_some o ∷ l) (marks-again m f d e known)

set-here : (m : Memo) (f d : ℕ) → slice_get m f ≡ Some None → slice_get (set m f (Some d)) f ≡ Some (Some d)
set-here [] f d e = cc
set-here (o ∷ m) zero d e = refl
set-here (o ∷ m) (suc f) d e = set-here m f d e

accept-length : {fragments : Fragments} {c : ℕ} {m n : Memo} {s : Nested} {d k : ℕ} → Accepts fragments c m s d n k → length n ≡ length m
accept-length (accept_all c m) = refl
accept-length (accept_field weight place low v w) = accept-length w ∙ accept-length v
accept-length (accept_again f place d known low w) = accept-length w
accept-length {m = m} (accept_into {between = between} {d = d} f place fresh v w) = accept-length w ∙ length-set between f (Some d) ∙ accept-length v ∙ length-set m f (Some 0)
accept-length (accept_inline v w) = accept-length w ∙ accept-length v

-- Ways.

record Passed (way : Way) (e : List Bool) : Type 0 where
  pub quiet : find is_deep way.0 ≡ None
  pub entered : way.1 ≡ e

record Stopped (way : Way) (at : Place) : Type 0 where
  pub number : ℕ
  pub is : find is_deep way.0 ≡ Some (at, number)

pass-after : (way : Way) (next : List Bool → Way) (e g : List Bool) → Passed way e → Passed (next e) g → Passed (after way next) g
pass-after way next e g first second =
    let more : Passed (next way.1) g = subst (λ l. Passed (next l) g) (sym first.entered) second in
    record {
      quiet = find-append is_deep way.0 (next way.1).0 ∙ ap (λ o. option_or o (find is_deep (next way.1).0)) first.quiet ∙ more.quiet;
      entered = more.entered;
    }

stop-before : (way : Way) (next : List Bool → Way) (at : Place) → Stopped way at → Stopped (after way next) at
stop-before way next at first = record {
  number = first.number;
  is = find-append is_deep way.0 (next way.1).0 ∙ ap (λ o. option_or o (find is_deep (next way.1).0)) first.is;
}

stop-after : (way : Way) (next : List Bool → Way) (e : List Bool) (at : Place) → Passed way e → Stopped (next e) at → Stopped (after way next) at
stop-after way next e at first second =
    let more : Stopped (next way.1) at = subst (λ l. Stopped (next l) at) (sym first.entered) second in
    record { number = more.number; is = find-append is_deep way.0 (next way.1).0 ∙ ap (λ o. option_or o (find is_deep (next way.1).0)) first.quiet ∙ more.is }

pass-place : (place : Place) (number : ℕ) (way : Way) (e : List Bool) → number < 3 → Passed way e → Passed (at_place place number way) e
pass-place place number way e low p = record { quiet = ap (λ b. cond b (Some (place, number)) (find is_deep way.0)) (low-good number low) ∙ p.quiet; entered = p.entered }

stop-place : (place : Place) (number : ℕ) (way : Way) → 3 ≤ number → Stopped (at_place place number way) place
stop-place place number way high = record { number = number; is = ap (λ b. cond b (Some (place, number)) (find is_deep way.0)) (high-is_deep number high) }

stop-in : (place : Place) (number : ℕ) (at : Place) (way : Way) → number < 3 → Stopped way at → Stopped (at_place place number way) at
stop-in place number at way low s = record { number = s.number; is = ap (λ b. cond b (Some (place, number)) (find is_deep way.0)) (low-good number low) ∙ s.is }

module _ (fragments : Fragments) (rank : ℕ → ℕ) (ranked : AreRanked fragments rank) (D : ℕ → ℕ) (fixed : (f : ℕ) → D f ≡ depth_with D (body_of fragments f)) where
  abbrev Remembers : Memo → ℕ → Type 0
  Remembers m r = Right fragments rank ranked D fixed m r

  abbrev way : ℕ → ℕ → Nested → Memo → Way
  way N c s m = way_with D (enter_at fragments D N) c s (marks m)

  abbrev at : ℕ → ℕ → ℕ → Place → Memo → Way
  at N c f place m = at_spread D (enter_at fragments D N c) c f place (marks m) (slice_get (marks m) f)

  at-known : (N c f : ℕ) (place : Place) (d : ℕ) (m : Memo) → slice_get m f ≡ Some (Some d) → at N c f place m ≡ ((place, c + D f) ∷ [], marks m)
  at-known N c f place d m known =
      ap (at_spread D (enter_at fragments D N c) c f place (marks m)) (slice_get-map (λ (o : Option ℕ). is_some o) m f ∙ ap (option_map (λ (o : Option ℕ). is_some o)) known)

  at-fresh : (N c f : ℕ) (place : Place) (m : Memo) → slice_get m f ≡ Some None → at (suc N) c f place m ≡ way N c (body_of fragments f) (set m f (Some 0))
  at-fresh N c f place m fresh =
      ap (at_spread D (enter_at fragments D (suc N) c) c f place (marks m)) (slice_get-map (λ (o : Option ℕ). is_some o) m f ∙ ap (option_map (λ (o : Option ℕ). is_some o)) fresh)
      ∙ ap (λ e. way_with D (enter_at fragments D N) c (body_of fragments f) e) (sym (marks-set m f 0))

  pass-at : (N r c f : ℕ) (place : Place) (d : ℕ) (m between : Memo) → rank f < r → r ≤ N → slice_get m f ≡ Some None → slice_get between f ≡ Some (Some 0)
      → ((n : ℕ) → rank f ≤ n → Passed (way n c (body_of fragments f) (set m f (Some 0))) (marks between)) → Passed (at N c f place m) (marks (set between f (Some d)))
  pass-at zero r c f place d m between small le fresh there inside = absurd (omega arith)
  pass-at (suc N) r c f place d m between small le fresh there inside =
      subst (λ w. Passed w (marks (set between f (Some d)))) (sym (at-fresh N c f place m fresh))
      (subst (λ e. Passed (way N c (body_of fragments f) (set m f (Some 0))) e) (sym (marks-again between f d 0 there)) (inside N (omega (arith, small, le))))

  stop-at : (N r c f : ℕ) (place stop : Place) (m : Memo) → rank f < r → r ≤ N → slice_get m f ≡ Some None
      → ((n : ℕ) → rank f ≤ n → Stopped (way n c (body_of fragments f) (set m f (Some 0))) stop) → Stopped (at N c f place m) stop
  stop-at zero r c f place stop m small le fresh inside = absurd (omega arith)
  stop-at (suc N) r c f place stop m small le fresh inside =
      subst (λ w. Stopped w stop) (sym (at-fresh N c f place m fresh)) (inside N (omega (arith, small, le)))

  pass-known : (N c f : ℕ) (place : Place) (d : ℕ) (m : Memo) → slice_get m f ≡ Some (Some d) → d ≡ D f → c + d < 3 → Passed (at N c f place m) (marks m)
  pass-known N c f place d m known is low =
      subst (λ w. Passed w (marks m)) (sym (at-known N c f place d m known)) (pass-place place (c + D f) ([], marks m) (marks m) (omega (arith, is, low)) (record { quiet = refl; entered = refl }))

  stop-known : (N c f : ℕ) (place : Place) (d : ℕ) (m : Memo) → slice_get m f ≡ Some (Some d) → d ≡ D f → 3 ≤ c + d → Stopped (at N c f place m) place
  stop-known N c f place d m known is high =
      subst (λ w. Stopped w place) (sym (at-known N c f place d m known)) (stop-place place (c + D f) ([], marks m) (omega (arith, is, high)))

  passed : {c : ℕ} {m n : Memo} {s : Nested} {d k : ℕ} → Accepts fragments c m s d n k → (r N : ℕ) → r ≤ N → IsBelow rank r s → Remembers m r → length m ≡ length fragments
      → Passed (way N c s m) (marks n)
  passed (accept_all c m) r N le below right sized = record { quiet = refl; entered = refl }
  passed {c} {m} {n} (accept_field {between = between} {rest = rest} {within = within} weight place low v w) r N le below right sized =
      let first = checked fragments rank ranked D fixed v r below.0 right in
      pass-after (at_place place (c + weight) (way N (c + weight) within m)) (λ e. way_with D (enter_at fragments D N) c rest e) (marks between) (marks n)
      (pass-place place (c + weight) (way N (c + weight) within m) (marks between) low (passed v r N le below.0 right sized))
      (passed w r N le below.1 first.right (accept-length v ∙ sized))
  passed {c} {m} {n} (accept_again {rest = rest} f place d known low w) r N le below right sized =
      pass-after (at N c f place m) (λ e. way_with D (enter_at fragments D N) c rest e) (marks m) (marks n) (pass-known N c f place d m known (right f d known below.0) low) (passed w r N le below.1 right sized)
  passed {c} {m} {n} (accept_into {between = between} {rest = rest} {d = d} f place fresh v w) r N le below right sized =
      let inside = right-inside fragments rank ranked D fixed m r f below.0 right in
      let first = checked fragments rank ranked D fixed v (rank f) (ranked.bodies f) inside in
      pass-after (at N c f place m) (λ e. way_with D (enter_at fragments D N) c rest e) (marks (set between f (Some d))) (marks n)
      (pass-at N r c f place d m between below.0 le fresh (first.untouched f (omega arith) ∙ set-here m f 0 fresh)
      (λ n small. passed v (rank f) n small (ranked.bodies f) inside (length-set m f (Some 0) ∙ sized)))
      (passed w r N le below.1 (right-outside fragments rank ranked D fixed m between r f d right (first.is ∙ sym (fixed f)) first.right first.untouched)
      (length-set between f (Some d) ∙ accept-length v ∙ length-set m f (Some 0) ∙ sized))
  passed {c} {m} {n} (accept_inline {between = between} {rest = rest} {body = body} v w) r N le below right sized =
      let first = checked fragments rank ranked D fixed v r below.0 right in
      pass-after (way N c body m) (λ e. way_with D (enter_at fragments D N) c rest e) (marks between) (marks n) (passed v r N le below.0 right sized) (passed w r N le below.1 first.right (accept-length v ∙ sized))

  stopped : {c : ℕ} {m : Memo} {s : Nested} {stop : Place} {k : ℕ} → Refuses fragments c m s stop k → (r N : ℕ) → r ≤ N → IsBelow rank r s → Remembers m r → length m ≡ length fragments → Stopped (way N c s m) stop
  stopped {c} {m} (refuse_field {rest = rest} {within = within} weight place high) r N le below right sized =
      stop-before (at_place place (c + weight) (way N (c + weight) within m)) (λ e. way_with D (enter_at fragments D N) c rest e) place (stop-place place (c + weight) (way N (c + weight) within m) high)
  stopped {c} {m} {stop = stop} (refuse_in_field {rest = rest} {within = within} weight place low w) r N le below right sized =
      stop-before (at_place place (c + weight) (way N (c + weight) within m)) (λ e. way_with D (enter_at fragments D N) c rest e) stop
      (stop-in place (c + weight) stop (way N (c + weight) within m) low (stopped w r N le below.0 right sized))
  stopped {c} {m} {stop = stop} (refuse_after_field {between = between} {rest = rest} {within = within} weight place low v w) r N le below right sized =
      let first = checked fragments rank ranked D fixed v r below.0 right in
      stop-after (at_place place (c + weight) (way N (c + weight) within m)) (λ e. way_with D (enter_at fragments D N) c rest e) (marks between) stop
      (pass-place place (c + weight) (way N (c + weight) within m) (marks between) low (passed v r N le below.0 right sized))
      (stopped w r N le below.1 first.right (accept-length v ∙ sized))
  stopped {c} {m} (refuse_again {rest = rest} f place d known high) r N le below right sized =
      stop-before (at N c f place m) (λ e. way_with D (enter_at fragments D N) c rest e) place (stop-known N c f place d m known (right f d known below.0) high)
  stopped {c} {m} {stop = stop} (refuse_after_again {rest = rest} f place d known low w) r N le below right sized =
      stop-after (at N c f place m) (λ e. way_with D (enter_at fragments D N) c rest e) (marks m) stop (pass-known N c f place d m known (right f d known below.0) low) (stopped w r N le below.1 right sized)
  stopped {c} {m} {stop = stop} (refuse_into {rest = rest} f place fresh w) r N le below right sized =
      stop-before (at N c f place m) (λ e. way_with D (enter_at fragments D N) c rest e) stop
      (stop-at N r c f place stop m below.0 le fresh
      (λ n small. stopped w (rank f) n small (ranked.bodies f) (right-inside fragments rank ranked D fixed m r f below.0 right) (length-set m f (Some 0) ∙ sized)))
  stopped {c} {m} {stop = stop} (refuse_after_into {between = between} {rest = rest} {d = d} f place fresh v w) r N le below right sized =
      let inside = right-inside fragments rank ranked D fixed m r f below.0 right in
      let first = checked fragments rank ranked D fixed v (rank f) (ranked.bodies f) inside in
      stop-after (at N c f place m) (λ e. way_with D (enter_at fragments D N) c rest e) (marks (set between f (Some d))) stop
      (pass-at N r c f place d m between below.0 le fresh (first.untouched f (omega arith) ∙ set-here m f 0 fresh)
      (λ n small. passed v (rank f) n small (ranked.bodies f) inside (length-set m f (Some 0) ∙ sized)))
      (stopped w r N le below.1 (right-outside fragments rank ranked D fixed m between r f d right (first.is ∙ sym (fixed f)) first.right first.untouched)
      (length-set between f (Some d) ∙ accept-length v ∙ length-set m f (Some 0) ∙ sized))
  stopped {c} {m} {stop = stop} (refuse_inline {rest = rest} {body = body} w) r N le below right sized =
      stop-before (way N c body m) (λ e. way_with D (enter_at fragments D N) c rest e) stop (stopped w r N le below.0 right sized)
  stopped {c} {m} {stop = stop} (refuse_after_inline {between = between} {rest = rest} {body = body} v w) r N le below right sized =
      let first = checked fragments rank ranked D fixed v r below.0 right in
      stop-after (way N c body m) (λ e. way_with D (enter_at fragments D N) c rest e) (marks between) stop (passed v r N le below.0 right sized) (stopped w r N le below.1 first.right (accept-length v ∙ sized))

length-none : (n : ℕ) → length (replicate {A = Option ℕ} n None) ≡ n
length-none zero = refl
length-none (suc n) = ap suc (length-none n)

marks-none : (n : ℕ) → marks (replicate {A = Option ℕ} n None) ≡ replicate n false
marks-none zero = refl
marks-none (suc n) = ap (λ l. false ∷ l) (marks-none n)

pub refuses-place : (fragments : Fragments) (rank : ℕ → ℕ) → AreRanked fragments rank → (s : Nested) (place : Place) (k : ℕ) → Refuses fragments 0 (replicate (length fragments) None) s place k → depth_place fragments s ≡ Some place
refuses-place fragments rank ranked s place k w =
    let n = suc (length fragments) in
    let D : ℕ → ℕ = fragment_depth fragments n in
    let stop = stopped fragments rank ranked D (depth-fixed fragments rank ranked) w n n (omega arith)
    (below_all rank n (λ f. omega (arith, ranked.bounded f)) s) (λ f d e less. absurd (at-none (length fragments) f d e)) (length-none (length fragments)) in
    ap (λ e. option_map (λ (stop : Stop). stop.0) (find is_deep (way_with D (enter_at fragments D n) 0 s e).0)) (sym (marks-none (length fragments)))
    ∙ ap (option_map (λ (stop : Stop). stop.0)) stop.is
