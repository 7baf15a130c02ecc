-- By what the cycle of execution ends: how deep selections go, and how many lists are inside one another in types.
use Rattle.std.proofs.Common.{arith, ◌≡◌, ℕ, zero, suc, max, ◌+◌, ◌*◌, ◌<◌, ◌≤◌, true, false, List, [], ◌∷◌, length, get_or, drop, Option, Some, None, is_some, refl, sym, ap, ◌∙◌, subst, add-one}
use Rattle.std.specs.Option.{unwrap_or}
use Rattle.std.proofs.Math.Nat.{le-max_left, le-max_right, max-le, mul-le-mul_left}
use Rattle.std.proofs.Math.Seq.{drop-cons}
use Rattle.gql_ast.specs.declared.field_definition.FieldDefinition.{FieldDefinition}
use Rattle.gql_document_types.specs.declared.fragment.Fragment.{Fragment}
use Rattle.gql_document_types.specs.declared.selection.Selection.{Selection}
use Rattle.gql_schema_types.specs.Schemas.{field_of}
use Rattle.gql_schema_types.specs.declared.schema.Schema.{Schema}
use Rattle.gql_schema_types.specs.declared.types.ObjectType.{ObjectType}
use Rattle.gql_collect.specs.Grouping.{groups_seen, group_seen}
use Rattle.gql_collect.specs.declared.group.Group.{Group as FieldsOfKey}
use Rattle.gql_resolvers.proofs.Height.{height}
use Rattle.gql_exec.specs.Nesting.{nesting, IsBelow, AllBelow}
use Rattle.gql_exec.proofs.Heights.{top, field-top}
use Rattle.gql_exec.specs.Trails.{group_of}
use Rattle.gql_exec.specs.declared.executing.Executing.{Executing}

abbrev pub schema_in : Executing → Schema
schema_in executing = executing.request.schema.now

abbrev pub fragments_in : Executing → List Fragment
fragments_in executing = executing.request.document.now.fragments

abbrev pub room : Executing → ℕ
room executing = 4 * top (schema_in executing) + 8

abbrev pub measure : Executing → List (List Selection) → ℕ → ℕ
measure executing sets extra = room executing * nesting (fragments_in executing) sets + extra

-- what is selected below a group is less by a whole room
below-less : (room n m extra : ℕ) → n < m → extra < room → room * n + extra < room * m + 0
below-less room n m extra less small =
    let more : room * (n + 1) ≤ room * m = mul-le-mul_left room (omega (arith, less)) in
    omega (arith, more, small)

pub below-measure : (e : Executing) (pieces sets : List (List Selection)) (extra : ℕ) → nesting (fragments_in e) pieces < nesting (fragments_in e) sets → extra < room e
    → measure e pieces extra < measure e sets 0
below-measure e pieces sets extra less small = below-less (room e) (nesting (fragments_in e) pieces) (nesting (fragments_in e) sets) extra less small

-- what is selected is the same
pub same-less : (e : Executing) (some sets : List (List Selection)) (a b : ℕ) → some ≡ sets → a < b → measure e some a < measure e sets b
same-less e some sets a b is less = omega (arith, ap (λ s. room e * nesting (fragments_in e) s) is, less)

-- a field that is defined is no higher than the schema
pub definition-top : (schema : Schema) (T f : List ℕ) (other : FieldDefinition) → is_some (field_of schema T f) ≡ true
    → height (unwrap_or (field_of schema T f) other).ty ≤ top schema
definition-top schema T f other defined = by (field_of schema T f) refl defined
  where
    by : (o : Option FieldDefinition) → field_of schema T f ≡ o → is_some o ≡ true → height (unwrap_or o other).ty ≤ top schema
    by None is e = absurd (let g : false ≡ true = e in cc)
    by (Some d) is e = field-top schema T f d is

pub drop-item : {A : Type 0} (xs : List A) (i : ℕ) (x : A) → i < length xs → x ≡ get_or xs i x → drop i xs ≡ x ∷ drop (i + 1) xs
drop-item xs i x within is = rw (add-one i) (drop-cons xs i x within ∙ ap (λ y. y ∷ drop (suc i) xs) (sym is))

-- each group of those that go less deep
pub below-at : (schema : Schema) (U : ObjectType) (fragments : List Fragment) (n : ℕ) (groups : List FieldsOfKey) (i : ℕ) (g : FieldsOfKey)
    → i < length groups → g ≡ get_or groups i g → AllBelow schema U fragments n (groups_seen groups) → IsBelow schema U fragments n (group_seen g)
below-at schema U fragments n [] i g within is all = absurd (omega (arith, within))
below-at schema U fragments n (x ∷ xs) zero g within is all = subst (λ y. IsBelow schema U fragments n (group_seen y)) (sym is) all.0
below-at schema U fragments n (x ∷ xs) (suc i) g within is all = below-at schema U fragments n xs i g (omega (arith, within)) is all.1

-- what is selected below groups, and the groups themselves
abbrev pub deepest : List Fragment → List FieldsOfKey → ℕ
deepest fragments [] = 0
deepest fragments (g ∷ gs) = max (suc (nesting fragments (group_of g).pieces)) (deepest fragments gs)

deepest-at : (fragments : List Fragment) (groups : List FieldsOfKey) (i : ℕ) (g : FieldsOfKey) → i < length groups → g ≡ get_or groups i g
    → nesting fragments (group_of g).pieces < deepest fragments groups
deepest-at fragments [] i g within is = absurd (omega (arith, within))
deepest-at fragments (x ∷ xs) zero g within is =
    omega (arith, ap (λ y. nesting fragments (group_of y).pieces) is, le-max_left (suc (nesting fragments (group_of x).pieces)) (deepest fragments xs))
deepest-at fragments (x ∷ xs) (suc i) g within is =
    omega (arith, deepest-at fragments xs i g (omega (arith, within)) is, le-max_right (suc (nesting fragments (group_of x).pieces)) (deepest fragments xs))

-- groups that go less deep than what they were collected from
pub deepest-below : (schema : Schema) (U : ObjectType) (fragments : List Fragment) (n : ℕ) (groups : List FieldsOfKey) → AllBelow schema U fragments n (groups_seen groups)
    → deepest fragments groups ≤ n
deepest-below schema U fragments n [] all = omega arith
deepest-below schema U fragments n (g ∷ gs) all =
    let below = (all.0 g.first.now refl).0 in
    let here : suc (nesting fragments (group_of g).pieces) ≤ n = omega (arith, below) in
    max-le here (deepest-below schema U fragments n gs all.1)

-- a group is less than those that it is among
pub group-less : (e : Executing) (groups : List FieldsOfKey) (i : ℕ) (g : FieldsOfKey) → i < length groups → g ≡ get_or groups i g
    → measure e (group_of g).pieces (4 * top (schema_in e) + 7) < room e * deepest (fragments_in e) groups
group-less e groups i g within is =
    let less = below-less (room e) (nesting (fragments_in e) (group_of g).pieces) (deepest (fragments_in e) groups) (4 * top (schema_in e) + 7)
    (deepest-at (fragments_in e) groups i g within is) (omega arith) in
    omega (arith, less)

-- groups are less than what they were collected from
pub groups-less : (e : Executing) (groups : List FieldsOfKey) (sets : List (List Selection)) → deepest (fragments_in e) groups ≤ nesting (fragments_in e) sets
    → room e * deepest (fragments_in e) groups < measure e sets 1
groups-less e groups sets less =
    let more : room e * deepest (fragments_in e) groups ≤ room e * nesting (fragments_in e) sets = mul-le-mul_left (room e) less in
    omega (arith, more)
