-- When errors and steps are shown alike.
use Rattle.std.proofs.Common.{◌≡◌, ℕ, Bool, true, false, ◌&&◌, nat_eq, if◌then◌else◌, List, [], ◌∷◌, codes, None, refl, sym, ap, ◌∙◌, subst, arith, rules}
use Rattle.std.specs.Bool.{Decides}
use Rattle.std.specs.Str.{bytes_eq}
use Rattle.std.proofs.lemmas.Slice.Eq.{bytes_eq-Decides}
use Rattle.jb_tree.specs.declared.value.Value.{Value, roll-Value, out-Value, the_lemmas}
use Rattle.jb_tree.specs.declared.value.Value.TheOpen.{Value-F}
use Rattle.jb_tree.specs.declared.value.Value.TheVariants as json
use Rattle.jb_tree.specs.Value.{truth_value, truth_at}
use Rattle.gql_source.specs.declared.line_column.LineColumn.{LineColumn}
use Rattle.gql_response.specs.Held.{unplaced_segment, unplaced_error}
use Rattle.gql_response.specs.RequestFault.{suspected_bug}
use Rattle.gql_response.specs.Response.{Member}
use Rattle.gql_response.specs.declared.graphql_error.GraphQLError.{GraphQLError}
use Rattle.gql_response.specs.declared.path.ResponseDataPathSegment.TheVariants.{Field, ListIndex}
use Rattle.gql_resolvers.proofs.Steps.{index_of, text_of}
use Rattle.gql_resolvers.specs.Trail.{Segment, shown}
use Rattle.gql_checker_laws.specs.Identical.{is_with, same_truth}
use Rattle.gql_checker_laws.specs.Shows.{same_segment, same_place, same_places, is_marked, says}

nat_decides : (m n : ℕ) → Decides (nat_eq m n) (m ≡ n)
nat_decides m n = grind arith

both_true : (a b : Bool) → (a && b) ≡ true → (a ≡ true) × (b ≡ true)
both_true true b e = (refl, e)
both_true false b e = absurd (cc)

true_both : (a b : Bool) → a ≡ true → b ≡ true → (a && b) ≡ true
true_both true b e f = f
true_both false b e f = absurd (cc)

-- ---- steps

pub segment_same : (s t : Segment) → same_segment s t ≡ true → unplaced_segment s ≡ unplaced_segment t
segment_same (Field a) (Field b) e = ap (λ text. Field (record { text = text; location = None })) ((bytes_eq-Decides a.text b.text).0 e)
segment_same (Field a) (ListIndex j) e = absurd (cc)
segment_same (ListIndex i) (Field b) e = absurd (cc)
segment_same (ListIndex i) (ListIndex j) e = ap ListIndex ((nat_decides i j).0 e)

pub same_is_segment : (s t : Segment) → unplaced_segment s ≡ unplaced_segment t → same_segment s t ≡ true
same_is_segment (Field a) (Field b) e = (bytes_eq-Decides a.text b.text).1 (ap text_of e)
same_is_segment (Field a) (ListIndex j) e = absurd (cc)
same_is_segment (ListIndex i) (Field b) e = absurd (cc)
same_is_segment (ListIndex i) (ListIndex j) e = (nat_decides i j).1 (ap index_of e)

-- ---- places

place_same : (a b : LineColumn) → same_place a b ≡ true → a ≡ b
place_same a b e =
    let k = both_true (nat_eq a.line b.line) (nat_eq a.column b.column) e in
    let line : a.line ≡ b.line = (nat_decides a.line b.line).0 k.0 in
    let column : a.column ≡ b.column = (nat_decides a.column b.column).0 k.1 in
    λ i. record { line = line i; column = column i }

same_is_place : (a : LineColumn) → same_place a a ≡ true
same_is_place a = true_both (nat_eq a.line a.line) (nat_eq a.column a.column) ((nat_decides a.line a.line).1 refl) ((nat_decides a.column a.column).1 refl)

places_same : (as' bs : List LineColumn) → same_places as' bs ≡ true → as' ≡ bs
places_same [] [] e = refl
places_same [] (b ∷ bs) e = absurd (cc)
places_same (a ∷ as') [] e = absurd (cc)
places_same (a ∷ as') (b ∷ bs) e =
    let k = both_true (same_place a b) (same_places as' bs) e in
    λ i. place_same a b k.0 i ∷ places_same as' bs k.1 i

same_are_places : (as' : List LineColumn) → same_places as' as' ≡ true
same_are_places [] = refl
same_are_places (a ∷ as') = true_both (same_place a a) (same_places as' as') (same_is_place a) (same_are_places as')

-- ---- marks

truth_level : (x : Value-F Value) → truth_value (roll-Value x) ≡ truth_at x
truth_level x = search (rules, the_lemmas)

open_truth : (x : Value-F Value) → is_with (same_truth true) (truth_value (roll-Value x)) ≡ true → roll-Value x ≡ json.Bool true
unfolding roll-Value denote.Hole.Carrier.roll
open_truth x e = of_level x (ap (is_with (same_truth true)) (sym (truth_level x)) ∙ e) where
  of_level : (y : Value-F Value) → is_with (same_truth true) (truth_at y) ≡ true → roll-Value y ≡ json.Bool true
  of_level (Value-F.Bool t) f = ap json.Bool f
  of_level y f = absurd (cc)

mark_true : (v : Value) → is_with (same_truth true) (truth_value v) ≡ true → v ≡ json.Bool true
mark_true v e =
    let opened : roll-Value (out-Value v) ≡ v = search (rules, the_lemmas) in
    subst (λ u. is_with (same_truth true) (truth_value u) ≡ true → u ≡ json.Bool true) opened (open_truth (out-Value v)) e

true_mark : is_with (same_truth true) (truth_value (json.Bool true)) ≡ true
true_mark = search (rules, the_lemmas)

abbrev mark_of : Bool → List Member
mark_of marked = if marked then suspected_bug else []

marks_same : (b : Bool) (ms : List Member) → is_marked b ms ≡ true → ms ≡ mark_of b
marks_same true [] e = absurd (cc)
marks_same true (m ∷ []) e =
    let k = both_true (bytes_eq m.0 (codes "APOLLO_SUSPECTED_VALIDATION_BUG")) (is_with (same_truth true) (truth_value m.1)) e in
    let key : m.0 ≡ codes "APOLLO_SUSPECTED_VALIDATION_BUG" = (bytes_eq-Decides m.0 (codes "APOLLO_SUSPECTED_VALIDATION_BUG")).0 k.0 in
    let value : m.1 ≡ json.Bool true = mark_true m.1 k.1 in
    λ i. (key i, value i) ∷ []
marks_same true (m ∷ n ∷ ms) e = absurd (cc)
marks_same false [] e = refl
marks_same false (m ∷ ms) e = absurd (cc)

same_are_marks : (b : Bool) → is_marked b (mark_of b) ≡ true
same_are_marks true = true_both (bytes_eq (codes "APOLLO_SUSPECTED_VALIDATION_BUG") (codes "APOLLO_SUSPECTED_VALIDATION_BUG")) _ ((bytes_eq-Decides (codes "APOLLO_SUSPECTED_VALIDATION_BUG") _).1 refl) true_mark
same_are_marks false = refl

-- ---- errors

-- an error that says this, with a path that is shown alike, is shown alike
pub says_same : (error : GraphQLError) (message : List ℕ) (places : List LineColumn) (marked : Bool) (path : List Segment) → says error message places marked ≡ true
    → shown error.path ≡ shown path
    → unplaced_error (record { message = message; locations = places; path = path; extensions = mark_of marked }) ≡ unplaced_error error
says_same error message places marked path e same =
    let k = both_true (bytes_eq error.message message) (same_places error.locations places && is_marked marked error.extensions) e in
    let l = both_true (same_places error.locations places) (is_marked marked error.extensions) k.1 in
    let text : message ≡ error.message = sym ((bytes_eq-Decides error.message message).0 k.0) in
    let at : places ≡ error.locations = sym (places_same error.locations places l.0) in
    let more : mark_of marked ≡ error.extensions = sym (marks_same marked error.extensions l.1) in
    let steps : shown path ≡ shown error.path = sym same in
    λ i. record { message = text i; locations = at i; path = steps i; extensions = more i }

pub same_says : (error : GraphQLError) (message : List ℕ) (places : List LineColumn) (marked : Bool) (path : List Segment)
    → unplaced_error (record { message = message; locations = places; path = path; extensions = mark_of marked }) ≡ unplaced_error error
    → says error message places marked ≡ true
same_says error message places marked path same =
    let text : message ≡ error.message = ap (λ (e : GraphQLError). e.message) same in
    let at : places ≡ error.locations = ap (λ (e : GraphQLError). e.locations) same in
    let more : mark_of marked ≡ error.extensions = ap (λ (e : GraphQLError). e.extensions) same in
    true_both (bytes_eq error.message message) (same_places error.locations places && is_marked marked error.extensions) ((bytes_eq-Decides error.message message).1 (sym text))
    (true_both (same_places error.locations places) (is_marked marked error.extensions) (subst (λ ps. same_places ps places ≡ true) at (same_are_places places))
    (subst (λ ms. is_marked marked ms ≡ true) more (same_are_marks marked)))
