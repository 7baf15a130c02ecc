-- How far a list or a selection set was walked through.
use Rattle.std.proofs.Common.{arith, ◌≡◌, ℕ, zero, suc, ◌+◌, Bool, true, false, List, [], ◌∷◌, drop, Option, Some, None, slice_get, refl, sym, ap, ◌∙◌, subst}
use Rattle.std.specs.Prelude.{◌||◌}
use Rattle.jb_tree.specs.declared.value.Value.{Value}
use Rattle.gql_document_types.specs.declared.selection.Selection.{Selection}
use Rattle.gql_exec.specs.Executed.{IsEnough}
use Rattle.gql_exec.specs.Group.{Group}
use Rattle.gql_resolvers.specs.Depth.{AllGroups}
use Rattle.gql_resolvers.specs.Execute.{Member}
use Rattle.gql_resolvers.specs.Resolved.{Meaning, Meanings, no_answer, answer_then}
use Rattle.gql_resolvers.specs.Spot.{Spot, item_spot, field_spot}
use Rattle.gql_resolvers.specs.Trail.{Trail}
use Rattle.gql_resolvers.specs.World.{World}
use Rattle.gql_response.specs.declared.path.ResponseDataPathSegment.TheVariants.{Field, ListIndex}
use Rattle.gql_schema_types.specs.declared.types.ObjectType.{ObjectType}
use Rattle.gql_checker_laws.specs.Claims.{Claim, both, nothing, share}
use Rattle.gql_checker_laws.specs.Walk.{behind, first, groups_found, items_found, outcome_found, second, set_found}
use Rattle.gql_checker_laws.proofs.Finding.{found-as, found-both, found-nothing}
use Rattle.gql_checker_laws.specs.Found.{FindsBelow, FindsGroups, IsFound}
use Rattle.gql_checker_laws.specs.Places.{item_found}
use Rattle.gql_checker_laws.specs.Reported.{item_at, member_at}
use Rattle.gql_checker_laws.specs.Walked.{IsVisiting, IsWalking, from, groups_left, items_left}
use Rattle.gql_checker_laws.specs.Findings.{Findings}

-- ---- from a number on

first-from : (n : ℕ) (vs : Option (List Value)) → first (from n vs) ≡ item_at n vs
first-from n None = refl
first-from n (Some vs) = by n vs
  where
    by : (n : ℕ) (vs : List Value) → first (Some (drop n vs)) ≡ slice_get vs n
    by zero [] = refl
    by zero (v ∷ vs) = refl
    by (suc n) [] = refl
    by (suc n) (v ∷ vs) = by n vs

second-from : (n : ℕ) (ms : Option (List Member)) → second (first (from n ms)) ≡ member_at n ms
second-from n None = refl
second-from n (Some ms) = by n ms
  where
    by : (n : ℕ) (ms : List Member) → second (first (Some (drop n ms))) ≡ second (slice_get ms n)
    by zero [] = refl
    by zero (m ∷ ms) = refl
    by (suc n) [] = refl
    by (suc n) (m ∷ ms) = by n ms

behind-from : {A : Type 0} (n : ℕ) (vs : Option (List A)) → behind (from n vs) ≡ from (n + 1) vs
behind-from n None = refl
behind-from {A} n (Some vs) = by n vs
  where
    by_next : (n : ℕ) (vs : List A) → behind (Some (drop n vs)) ≡ Some (drop (suc n) vs)
    by_next zero [] = refl
    by_next zero (v ∷ vs) = refl
    by_next (suc n) [] = refl
    by_next (suc n) (v ∷ vs) = by_next n vs

    by : (n : ℕ) (vs : List A) → behind (Some (drop n vs)) ≡ Some (drop (n + 1) vs)
    by n vs = by_next n vs ∙ ap (λ m. Some (drop m vs)) (let e : suc n ≡ n + 1 = omega arith in e)

from-zero : {A : Type 0} (vs : Option (List A)) → from 0 vs ≡ vs
from-zero None = refl
from-zero (Some vs) = refl

or-then : (a b c : Bool) → (a || (b || c)) ≡ ((a || b) || c)
or-then true b c = refl
or-then false b c = refl

or-last : (a : Bool) → (a || false) ≡ a
or-last true = refl
or-last false = refl

-- ---- the items of a list

module _ {X : Type 0} (w : World X ObjectType Group (List (List Selection))) (list : Spot Group) (vs : Option (List Value)) (cs : List Claim) where
  pub walking-begun : (before : Findings) (left all : Meanings X) → left ≡ all → IsWalking w list vs cs false before before 0 left all
  walking-begun before left all is = record {
    goes = λ depth enough after q found.
        found-as _ _ before after q (ap (λ ms. items_found w (set_found w depth) list 0 ms (from 0 vs) cs) is ∙ ap (λ o. items_found w (set_found w depth) list 0 all o cs) (from-zero vs)) found;
  }

  pub walking-more : (passes comes : Bool) (now next before : Findings) (i : ℕ) (left rest all : Meanings X) (m : Meaning X) (v : Option Value) (own : List Claim)
      → left ≡ answer_then m rest → v ≡ item_at i vs → own ≡ share (ListIndex i) cs
      → FindsBelow w list.group now next comes (λ run. item_found w run (item_spot list i) m v own)
      → IsWalking w list vs cs passes now before i left all → IsWalking w list vs cs (passes || comes) next before (i + 1) rest all
  walking-more passes comes now next before i left rest all m v own is value shared finds so_far = record {
    goes = λ depth enough after q found.
        let run = set_found w depth in
        let it = item_spot list i in
        let one = both (item_found w run it m v own) (items_left w list vs cs depth (i + 1) rest) in
        let here : one ≡ items_left w list vs cs depth i (answer_then m rest) =
        ap (λ o. both (item_found w run it m o own) (items_left w list vs cs depth (i + 1) rest)) (value ∙ sym (first-from i vs))
        ∙ ap (λ o. both (item_found w run it m (first (from i vs)) o) (items_left w list vs cs depth (i + 1) rest)) shared
        ∙ ap (λ o. both (item_found w run it m (first (from i vs)) (share (ListIndex i) cs)) (items_found w run list (i + 1) rest o cs)) (sym (behind-from i vs)) in
        let whole = found-as _ _ now after (comes || q) (here ∙ ap (λ ms. items_left w list vs cs depth i ms) (sym is))
        (found-both (item_found w run it m v own) (items_left w list vs cs depth (i + 1) rest) now next after comes q (finds depth enough) found) in
        subst (λ b. IsFound (items_found w run list 0 all vs cs) before after b) (or-then passes comes q) (so_far.goes depth enough after (comes || q) whole);
  }

  pub walking-ends : (passes : Bool) (now before : Findings) (i : ℕ) (left all : Meanings X) → left ≡ no_answer → IsWalking w list vs cs passes now before i left all
      → FindsBelow w list.group before now passes (λ run. items_found w run list 0 all vs cs)
  walking-ends passes now before i left all is so_far depth enough =
      subst (λ b. IsFound (items_found w (set_found w depth) list 0 all vs cs) before now b) (or-last passes)
      (so_far.goes depth enough now false (found-as nothing _ now now false (ap (λ ms. items_left w list vs cs depth i ms) (sym is)) (found-nothing now)))

-- ---- the groups of a selection set

module _ {X : Type 0} (w : World X ObjectType Group (List (List Selection))) (U : ObjectType) (x : X) (outer : Trail) (ms : Option (List Member)) (cs : List Claim) where
  pub visiting-begun : (before : Findings) (left all : List Group) → left ≡ all → IsVisiting w U x outer ms cs false before before 0 left all
  visiting-begun before left all is = record {
    enough = λ depth each. subst (AllGroups w (IsEnough w depth)) (sym is) each;
    goes = λ depth each after q found.
        found-as _ _ before after q (ap (λ gs. groups_found w (set_found w depth) U x outer gs (from 0 ms) cs) is ∙ ap (λ o. groups_found w (set_found w depth) U x outer all o cs) (from-zero ms)) found;
  }

  pub visiting-more : (passes comes : Bool) (now next before : Findings) (i : ℕ) (left rest all : List Group) (g : Group) (v : Option Value) (own : List Claim)
      → left ≡ g ∷ rest → v ≡ member_at i ms → own ≡ share (Field (w.name_of g)) cs
      → FindsBelow w g now next comes (λ run. outcome_found w run (field_spot w U outer g) (w.asks U x g) v own)
      → IsVisiting w U x outer ms cs passes now before i left all → IsVisiting w U x outer ms cs (passes || comes) next before (i + 1) rest all
  visiting-more passes comes now next before i left rest all g v own is value shared finds so_far =
      let here : (depth : ℕ) → AllGroups w (IsEnough w depth) all → AllGroups w (IsEnough w depth) (g ∷ rest) = λ depth each. subst (AllGroups w (IsEnough w depth)) is (so_far.enough depth each) in
      record {
        enough = λ depth each. (here depth each).1;
        goes = λ depth each after q found.
            let run = set_found w depth in
            let spot = field_spot w U outer g in
            let outcome = w.asks U x g in
            let same : both (outcome_found w run spot outcome v own) (groups_left w U x outer ms cs depth (i + 1) rest) ≡ groups_left w U x outer ms cs depth i (g ∷ rest) =
            ap (λ o. both (outcome_found w run spot outcome o own) (groups_left w U x outer ms cs depth (i + 1) rest)) (value ∙ sym (second-from i ms))
            ∙ ap (λ o. both (outcome_found w run spot outcome (second (first (from i ms))) o) (groups_left w U x outer ms cs depth (i + 1) rest)) shared
            ∙ ap (λ o. both (outcome_found w run spot outcome (second (first (from i ms))) (share (Field (w.name_of g)) cs)) (groups_found w run U x outer rest o cs)) (sym (behind-from i ms)) in
            let whole = found-as _ _ now after (comes || q) (same ∙ ap (λ gs. groups_left w U x outer ms cs depth i gs) (sym is))
            (found-both (outcome_found w run spot outcome v own) (groups_left w U x outer ms cs depth (i + 1) rest) now next after comes q (finds depth (here depth each).0) found) in
            subst (λ b. IsFound (groups_found w run U x outer all ms cs) before after b) (or-then passes comes q) (so_far.goes depth each after (comes || q) whole);
      }

  pub visiting-ends : (passes : Bool) (now before : Findings) (i : ℕ) (left all : List Group) → left ≡ [] → IsVisiting w U x outer ms cs passes now before i left all
      → FindsGroups w all before now passes (λ run. groups_found w run U x outer all ms cs)
  visiting-ends passes now before i left all is so_far depth each =
      subst (λ b. IsFound (groups_found w (set_found w depth) U x outer all ms cs) before now b) (or-last passes)
      (so_far.goes depth each now false (found-as nothing _ now now false (ap (λ gs. groups_left w U x outer ms cs depth i gs) (sym is)) (found-nothing now)))
