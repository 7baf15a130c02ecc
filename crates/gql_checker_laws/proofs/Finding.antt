-- What is found after what was found before.
use Rattle.std.proofs.Common.{◌≡◌, ℕ, List, [], ◌∷◌, ◌++◌, Bool, true, false, Option, Some, None, refl, sym, ap, ◌∙◌, subst, slice_set}
use Rattle.std.specs.Prelude.{◌||◌, ◌&&◌, not, if◌then◌else◌}
use Rattle.std.proofs.lemmas.List.{append-nil}
use Rattle.jb_tree.specs.declared.value.Value.{Value}
use Rattle.jb_tree.specs.Value.{is_null}
use Rattle.gql_resolvers.specs.Trail.{Segment}
use Rattle.gql_checker_laws.specs.Claims.{Found, both, first_of, marked, nothing}
use Rattle.gql_checker_laws.specs.Walk.{bad_by, settled_by}
use Rattle.gql_checker_laws.specs.Findings.{with_all_told}
use Rattle.gql_checker_laws.specs.Found.{IsFound}
use Rattle.gql_checker_laws.specs.Places.{HasPlain}
use Rattle.gql_checker_laws.specs.Findings.{Findings}

first_then : (a b c : Option (List Segment)) → first_of (first_of a b) c ≡ first_of a (first_of b c)
first_then None b c = refl
first_then (Some p) b c = refl

pub first_last : (a : Option (List Segment)) → first_of a None ≡ a
first_last None = refl
first_last (Some p) = refl

marked-append : (ns ms : List ℕ) (marks : List Bool) → marked (ns ++ ms) marks ≡ marked ms (marked ns marks)
marked-append [] ms marks = refl
marked-append (n ∷ ns) ms marks = marked-append ns ms (slice_set marks n true)

pub found-nothing : (it : Findings) → IsFound nothing it it false
found-nothing it = record { passes = refl; told = refl; bad = sym (first_last it.bad) }

pub found-as : (a b : Found) (before after : Findings) (p : Bool) → a ≡ b → IsFound a before after p → IsFound b before after p
found-as a b before after p is it = subst (λ f. IsFound f before after p) is it

pub found-both : (a b : Found) (before between after : Findings) (p q : Bool) → IsFound a before between p → IsFound b between after q
    → IsFound (both a b) before after (p || q)
found-both a b before between after p q one other = record {
  passes = ap (λ x. x || q) one.passes ∙ ap (λ y. a.passes || y) other.passes;
  told = other.told ∙ ap (marked b.told) one.told ∙ sym (marked-append a.told b.told before.told);
  bad = other.bad ∙ ap (λ o. first_of o b.bad) one.bad ∙ first_then before.bad a.bad b.bad;
}

-- ---- a place is ended after what is inside it

held-plain : (b : Option (List Segment)) (z : Bool) → z ≡ false → first_of b (if z then None else None) ≡ (if z then None else b)
held-plain b true e = absurd (cc)
held-plain b false e = first_last b

bad-ended : (given held : Bool) (path : List Segment) (v : Option Value) (b : Option (List Segment)) → (given ≡ false → b ≡ None) → (given ≡ true → HasPlain v)
    → first_of b (bad_by given held path v None) ≡ bad_by given held path v b
bad-ended false held path v b quiet plain =
    let none = quiet refl in ap (λ o. first_of o (bad_by false held path v None)) none ∙ ap (bad_by false held path v) (sym none)
bad-ended true held path None b quiet plain = absurd (plain refl)
bad-ended true false path (Some u) b quiet plain = first_last b
bad-ended true true path (Some u) b quiet plain = held-plain b (is_null u) (plain refl)

pub found-ended : (inner : Found) (given strict : Bool) (path : List Segment) (v : Option Value) (before between after : Findings) (p q : Bool)
    → (given ≡ false → inner.bad ≡ None) → (given ≡ true → HasPlain v) → IsFound inner before between p
    → IsFound (settled_by p given [] strict path v nothing) between after q → IsFound (settled_by inner.passes given [] strict path v inner) before after q
found-ended inner given strict path v before between after p q quiet plain inside own = record {
  passes = own.passes ∙ ap (λ x. x && strict) inside.passes;
  told = own.told ∙ inside.told;
  bad =
      own.bad ∙ ap (λ x. first_of between.bad (bad_by given (x && not strict) path v None)) inside.passes
      ∙ ap (λ o. first_of o (bad_by given (inner.passes && not strict) path v None)) inside.bad
      ∙ first_then before.bad inner.bad (bad_by given (inner.passes && not strict) path v None)
      ∙ ap (first_of before.bad) (bad-ended given (inner.passes && not strict) path v inner.bad quiet plain);
}

-- after errors that tell its fault
pub found-told : (comes strict : Bool) (told : List ℕ) (path : List Segment) (v : Option Value) (before between after : Findings) (q : Bool)
    → between ≡ with_all_told told before → IsFound (settled_by comes false [] strict path v nothing) between after q
    → IsFound (settled_by comes false told strict path v nothing) before after q
found-told comes strict told path v before between after q is own = record {
  passes = own.passes;
  told = own.told ∙ ap (λ (f : Findings). f.told) is ∙ ap (λ ns. marked ns before.told) (sym (append-nil told));
  bad = own.bad ∙ ap (λ (f : Findings). first_of f.bad (bad_by false (comes && not strict) path v None)) is;
}
