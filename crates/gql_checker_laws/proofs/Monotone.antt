-- What some errors explain more errors explain too; and a response is explained by its own errors as it is read back.
use Rattle.std.proofs.Common.{◌≡◌, ℕ, zero, suc, ◌<◌, List, [], ◌∷◌, map, length, Option, Some, None, refl, ap, arith}
use Rattle.std.specs.Prelude.{Contains}
use Rattle.std.specs.List.{AllByRecursion}
use Rattle.jb_tree.specs.declared.value.Value.{Value}
use Rattle.gql_response.specs.Held.{unplaced_segment, unplaced_error, unplaced}
use Rattle.gql_response.specs.declared.execution_response.ExecutionResponse.{ExecutionResponse}
use Rattle.gql_response.specs.declared.graphql_error.GraphQLError.{GraphQLError}
use Rattle.gql_response.specs.declared.path.ResponseDataPathSegment.TheVariants.{Field, ListIndex}
use Rattle.gql_resolvers.specs.Execute.{Member}
use Rattle.gql_resolvers.specs.Explained.{Holds, IsTrueFault, IsGood, ItemsAre, FieldsAre, IsExplainedBy, null_held, leaf_kept, list_kept, object_kept}
use Rattle.gql_resolvers.specs.Explained.{no_item, item_good, no_field, field_good}
use Rattle.gql_resolvers.specs.Resolved.{Meanings, Outcome}
use Rattle.gql_resolvers.specs.Spot.{Spot}
use Rattle.gql_resolvers.specs.Trail.{Segment, Trail}
use Rattle.gql_resolvers.specs.World.{World}
use Rattle.gql_checker_laws.specs.Tells.{IsListed, Tells, AreExplained}

unplaced_twice : (s : Segment) → unplaced_segment s ≡ unplaced_segment (unplaced_segment s)
unplaced_twice (Field name) = refl
unplaced_twice (ListIndex i) = refl

path_twice : (path : List Segment) → map unplaced_segment path ≡ map unplaced_segment (map unplaced_segment path)
path_twice [] = refl
path_twice (s ∷ path) = λ i. unplaced_twice s i ∷ path_twice path i

error_twice : (e : GraphQLError) → unplaced_error e ≡ unplaced_error (unplaced_error e)
error_twice e = ap (λ path. record e { path = path }) (path_twice e.path)

contains_mapped : (es : List GraphQLError) (e : GraphQLError) → Contains es e → Contains (map unplaced_error es) (unplaced_error e)
contains_mapped [] e (k, within, is) = absurd (omega (arith, within))
contains_mapped (x ∷ es) e (zero, within, is) = (0, omega arith, ap unplaced_error is)
contains_mapped (x ∷ es) e (suc k, within, is) =
    let later = contains_mapped es e (k, omega (arith, within), is) in
    let inside : later.0 < length (map unplaced_error es) = later.1 in
    (suc later.0, omega (arith, inside), later.2)

module _ {X T G S : Type 0} (w : World X T G S) (root : T) (initial : X) (all : S) (L M : GraphQLError → Type 0) (more : (e : GraphQLError) → L e → M e) where
  holds_more : (at : Option Trail) → Holds w root initial all L at → Holds w root initial all M at
  holds_more at h = (h.0, more h.0 h.1, h.2)

  mutual
    good_more : {spot : Spot G} {outcome : Outcome X} {v : Value} → IsGood w root initial all L spot outcome v → IsGood w root initial all M spot outcome v
    good_more (null_held h) = null_held (holds_more _ h)
    good_more (leaf_kept fits) = leaf_kept fits
    good_more (list_kept fits items) = list_kept fits (items_more items)
    good_more (object_kept U fits typed fields) = object_kept U fits typed (fields_more fields)

    items_more : {list : Spot G} {i : ℕ} {ms : Meanings X} {vs : List Value} → ItemsAre w root initial all L list i ms vs → ItemsAre w root initial all M list i ms vs
    items_more no_item = no_item
    items_more (item_good good items) = item_good (good_more good) (items_more items)

    fields_more : {U : T} {x : X} {outer : Trail} {gs : List G} {members : List Member} → FieldsAre w root initial all L U x outer gs members → FieldsAre w root initial all M U x outer gs members
    fields_more no_field = no_field
    fields_more (field_good good fields) = field_good (good_more good) (fields_more fields)

  explained_more : (given : Option (List Member)) → IsExplainedBy w root initial all L given → IsExplainedBy w root initial all M given
  explained_more None h = holds_more None h
  explained_more (Some members) fields = fields_more fields

module _ {X T G S : Type 0} (w : World X T G S) (root : T) (initial : X) (all : S) where
  tell_true : (es : List GraphQLError) → AllByRecursion (IsTrueFault w root initial all) es → AllByRecursion (Tells w root initial all) (map unplaced_error es)
  tell_true [] faults = tt
  tell_true (e ∷ es) faults = ((e, faults.0, error_twice e), tell_true es faults.1)

  pub read-explained : (response : ExecutionResponse) → AllByRecursion (IsTrueFault w root initial all) response.errors → IsExplainedBy w root initial all (Contains response.errors) response.root
      → AreExplained w root initial all (unplaced response)
  read-explained response faults explained = record {
    faults = tell_true response.errors faults;
    explained = explained_more w root initial all (Contains response.errors) (IsListed (map unplaced_error response.errors))
        (λ e there. (unplaced_error e, contains_mapped response.errors e there, error_twice e)) response.root explained;
  }
