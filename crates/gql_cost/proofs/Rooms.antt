-- The groups of selections have room in them, where the fields of each have as many lists in one another as its place has.
use Rattle.std.proofs.Common.{arith, ◌≡◌, ℕ, ◌+◌, ◌≤◌, List, [], ◌∷◌, ◌++◌, map, Option, Some, None, refl, sym, ap, subst}
use Rattle.std.specs.List.{AllByRecursion}
use Rattle.gql_document_types.specs.RootFields.{body}
use Rattle.gql_document_types.specs.declared.selection.Field.{Field}
use Rattle.gql_document_types.specs.declared.selection.Selection.{Selection}
use Rattle.gql_collect.specs.Flat.{flat_sets}
use Rattle.gql_collect.specs.Groups.{FieldGroup, groups_of, is_defined, applying}
use Rattle.gql_collect.specs.Sizes.{added}
use Rattle.gql_collect.specs.Standing.{weighed}
use Rattle.gql_exec.specs.Asks.{definition_on}
use Rattle.gql_exec.specs.Group.{Group, pieces_of, started, group_from, groups_from}
use Rattle.gql_exec.specs.Request.{Request}
use Rattle.gql_exec.specs.RequestWorld.{plain_world, setting_on}
use Rattle.gql_schema_types.specs.declared.types.ObjectType.{ObjectType}
use Rattle.gql_valid_laws.specs.Covariant.{lists_in}
use Rattle.gql_cost.specs.Even.{IsEvenGroup, IsEven}
use Rattle.gql_cost.specs.Size.{size}
use Rattle.gql_cost.specs.Sum.{sum_with}
use Rattle.gql_cost.specs.bridge.Sum.{sets_sum}
use Rattle.gql_cost.proofs.Bound.{field_size, HasRoom}
use Rattle.gql_cost.proofs.Groups.{HasSome, IsHeaded, all-headed, group_weight, groups-weigh, added-filter}
use Rattle.gql_cost.proofs.Sizes.{tower, size-tower, tower-add}
use Rattle.gql_cost.proofs.Sums.{field_weight, sets-whole}

added-append : (xs ys : List ℕ) → added (xs ++ ys) ≡ added xs + added ys
added-append [] ys = omega arith
added-append (x ∷ xs) ys = omega (arith, added-append xs ys)

map-append : {A B : Type 0} (f : A → B) (xs ys : List A) → map f (xs ++ ys) ≡ map f xs ++ map f ys
map-append f [] ys = refl
map-append f (x ∷ xs) ys = ap (λ l. f x ∷ l) (map-append f xs ys)

module _ {X : Type 0} (items : ℕ) (of : List ℕ → ℕ) (r : Request X) where
  -- what is selected below all fields of a group, at one place, and what each may have at a place of its own
  joined-most : (h : ℕ) (f : Field) (fs : List Field) → AllByRecursion (λ (g : Field). lists_in g.definition.ty ≡ h) (f ∷ fs)
      → tower items h (sets_sum items of (pieces_of (f ∷ fs))) ≤ weighed (field_weight items of) (f ∷ fs)
  joined-most h f [] all =
      let c = sum_with items of f.selection_set.selections in
      omega (arith, ap (tower items h) (let e : c + 0 ≡ c = omega arith in e), size-tower items f.definition.ty c, ap (λ n. tower items n c) all.0)
  joined-most h f (g ∷ gs) all =
      let c = sum_with items of f.selection_set.selections in
      omega (
        arith,
        tower-add items h c (sets_sum items of (pieces_of (g ∷ gs))),
        joined-most h g gs all.1,
        size-tower items f.definition.ty c,
        ap (λ n. tower items n c) all.0,
      )

  module _ (U : ObjectType) where
    abbrev place_size : Group → ℕ
    place_size = field_size (plain_world r) items (sets_sum items of) U

    place-most : (first : Field) (fields : List Field) → HasSome fields
        → AllByRecursion (λ (f : Field). lists_in f.definition.ty ≡ lists_in (definition_on r.schema U first).ty) fields
        → size items (definition_on r.schema U first).ty (sets_sum items of (pieces_of fields)) ≤ weighed (field_weight items of) fields
    place-most first fields some even =
        let ty = (definition_on r.schema U first).ty in
        subst (λ fs. size items ty (sets_sum items of (pieces_of fs)) ≤ weighed (field_weight items of) fs) (sym some.is)
        (omega (
          arith,
          size-tower items ty (sets_sum items of (pieces_of (some.head ∷ some.tail))),
          joined-most (lists_in ty) some.head some.tail (subst (AllByRecursion (λ (f : Field). lists_in f.definition.ty ≡ lists_in ty)) some.is even),
        ))

    started-most : (o : Option Field) (fields : List Field)
        → ((f : Field) → o ≡ Some f → HasSome fields)
        → ((first : Field) → o ≡ Some first → AllByRecursion (λ (f : Field). lists_in f.definition.ty ≡ lists_in (definition_on r.schema U first).ty) fields)
        → added (map place_size (started o fields)) ≤ weighed (field_weight items of) fields
    started-most None fields headed even = omega arith
    started-most (Some f) fields headed even = omega (arith, place-most f fields (headed f refl) (even f refl))

    groups-most : (gs : List FieldGroup) → AllByRecursion IsHeaded gs → AllByRecursion (IsEvenGroup r U) gs
        → added (map place_size (groups_from gs)) ≤ added (map (group_weight (field_weight items of)) gs)
    groups-most [] headed even = omega arith
    groups-most (g ∷ gs) headed even =
        omega (
          arith,
          ap added (map-append place_size (group_from g) (groups_from gs)),
          added-append (map place_size (group_from g)) (map place_size (groups_from gs)),
          started-most g.first g.fields headed.0 even.0,
          groups-most gs headed.1 even.1,
        )

    pub has-room : ((name : List ℕ) → sum_with items of (body r.fragments name) ≤ of name) → (sets : List (List Selection)) → IsEven r U sets
        → HasRoom (plain_world r) items (sets_sum items of) U sets
    has-room fixed sets even =
        let s = setting_on r U in
        let fields = flat_sets s sets in
        omega (
          arith,
          groups-most (applying s sets) (all-headed (is_defined s.schema s.object) fields) even,
          added-filter (group_weight (field_weight items of)) (is_defined s.schema s.object) (groups_of fields),
          groups-weigh (field_weight items of) fields,
          sets-whole items of s fixed sets,
        )
