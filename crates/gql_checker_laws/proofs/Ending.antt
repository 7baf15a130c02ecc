-- What is found at a place, by what is answered there.
use Rattle.std.proofs.Common.{◌≡◌, List, [], ◌∷◌, ◌++◌, Bool, true, false, Option, Some, None, is_some, refl, ap, ◌∙◌}
use Rattle.std.specs.Prelude.{◌||◌, ◌&&◌, if◌then◌else◌}
use Rattle.jb_tree.specs.declared.value.Value.{Value}
use Rattle.gql_ast_base.specs.TypeParts.{is_non_null}
use Rattle.gql_resolvers.specs.Fault.{placed, told_at}
use Rattle.gql_resolvers.specs.Resolved.{Fault, Meaning, Meanings, Misfit, gives_leaf, gives_list, gives_object, gives_skip, answered, refused}
use Rattle.gql_resolvers.specs.Spot.{Spot, trail}
use Rattle.gql_resolvers.specs.Trail.{Segment, path_of}
use Rattle.gql_resolvers.specs.World.{World}
use Rattle.gql_response.specs.declared.graphql_error.GraphQLError.{GraphQLError}
use Rattle.gql_checker_laws.specs.Claims.{Claim, Found, nothing}
use Rattle.gql_checker_laws.specs.Walk.{Below, any_tells, told_here, tells_from, array_for, fitting, items_found, meaning_given, object_found, object_given, outcome_found, settled_by, unless_idle, value_found, is_none}
use Rattle.gql_checker_laws.specs.Places.{ended, fault_found, members_at, own_found, place_found}
use Rattle.gql_checker_laws.specs.Reported.{is_idle, is_leaf}
use Rattle.gql_checker_laws.specs.Told.{any_told, ends_so, told_numbers}

or-false : (b : Bool) → (b || false) ≡ b
or-false true = refl
or-false false = refl

pub idle-none : (v : Option Value) (cs : List Claim) (f : Found) → is_idle v cs ≡ true → unless_idle v cs f ≡ nothing
idle-none None [] f is = refl
idle-none None (c ∷ cs) f is = absurd (cc)
idle-none (Some v) cs f is = absurd (cc)

pub idle-not : (v : Option Value) (cs : List Claim) (f : Found) → is_idle v cs ≡ false → unless_idle v cs f ≡ f
idle-not None [] f is = absurd (cc)
idle-not None (c ∷ cs) f is = refl
idle-not (Some v) cs f is = refl

module _ {X T G S : Type 0} (w : World X T G S) where
  any-none : (cs : List Claim) → any_tells w None cs ≡ false
  any-none [] = refl
  any-none (c ∷ cs) = any-none cs

  told-none : (cs : List Claim) → told_here w None cs ≡ []
  told-none [] = refl
  told-none (c ∷ cs) = told-none cs

  from-same : (fault : Fault) (rest : List Segment) (e : GraphQLError) → tells_from w rest e fault ≡ ends_so w.sources fault rest e
  from-same fault [] e = refl
  from-same fault (s ∷ rest) e = refl

  any-same : (fault : Fault) (cs : List Claim) → any_tells w (Some fault) cs ≡ any_told w.sources fault cs
  any-same fault [] = refl
  any-same fault (c ∷ cs) =
      ap (λ b. b || any_tells w (Some fault) cs) (from-same fault c.rest c.error) ∙ ap (λ b. ends_so w.sources fault c.rest c.error || b) (any-same fault cs)

  told-same : (fault : Fault) (cs : List Claim) → told_here w (Some fault) cs ≡ told_numbers w.sources fault cs
  told-same fault [] = refl
  told-same fault (c ∷ cs) =
      ap (λ b. (if b then c.number ∷ [] else []) ++ told_here w (Some fault) cs) (from-same fault c.rest c.error)
      ∙ ap (λ ns. (if ends_so w.sources fault c.rest c.error then c.number ∷ [] else []) ++ ns) (told-same fault cs)

  -- a fault, whatever the outcome is that has it
  abbrev with_fault : Spot G → Fault → Option Value → List Claim → Found
  with_fault spot fault v cs =
      settled_by (any_tells w (Some fault) cs || false) false (told_here w (Some fault) cs) (is_non_null spot.type) (path_of (trail spot)) v nothing

  fault-is : (spot : Spot G) (fault : Fault) (v : Option Value) (cs : List Claim) → with_fault spot fault v cs ≡ fault_found w.sources spot fault v cs
  fault-is spot fault v cs =
      ap (λ b. settled_by b false (told_here w (Some fault) cs) (is_non_null spot.type) (path_of (trail spot)) v nothing) (or-false (any_tells w (Some fault) cs) ∙ any-same fault cs)
      ∙ ap (λ ns. settled_by (any_told w.sources fault cs) false ns (is_non_null spot.type) (path_of (trail spot)) v nothing) (told-same fault cs)

  module _ (run : Below w) (spot : Spot G) where
    -- ---- a fault

    pub outcome-fault : (fault : Fault) (v : Option Value) (cs : List Claim) → is_idle v cs ≡ false
        → outcome_found w run spot (refused fault) v cs ≡ fault_found w.sources spot fault v cs
    outcome-fault fault None cs busy = idle-not None cs (with_fault spot fault None cs) busy ∙ fault-is spot fault None cs
    outcome-fault fault (Some u) cs busy = fault-is spot fault (Some u) cs

    pub outcome-place : (m : Meaning X) (v : Option Value) (cs : List Claim) → is_idle v cs ≡ false → outcome_found w run spot (answered m) v cs ≡ place_found w run spot m v cs
    outcome-place m v cs busy = idle-not v cs (place_found w run spot m v cs) busy

    abbrev by_misfit : Meaning X → Bool → Option Value → List Claim → Option Misfit → Found
    by_misfit m given v cs o =
        settled_by (any_tells w (placed (w.span_of spot.group) o) cs || (fitting w o (value_found w run spot m v cs)).passes) (is_none o && given)
        (told_here w (placed (w.span_of spot.group) o) cs) (is_non_null spot.type) (path_of (trail spot)) v (fitting w o (value_found w run spot m v cs))

    abbrev by_fit : Meaning X → Option Value → List Claim → Option Misfit → Found
    by_fit m v cs o =
        settled_by (any_tells w (placed (w.span_of spot.group) o) cs || (fitting w o (value_found w run spot m v cs)).passes) false
        (told_here w (placed (w.span_of spot.group) o) cs) (is_non_null spot.type) (path_of (trail spot)) v (fitting w o (value_found w run spot m v cs))

    pub place-misfit : (m : Meaning X) (misfit : Misfit) (v : Option Value) (cs : List Claim) → w.misfit spot.type m ≡ Some misfit
        → place_found w run spot m v cs ≡ fault_found w.sources spot (told_at (w.span_of spot.group) misfit) v cs
    place-misfit m misfit None cs is = ap (by_fit m None cs) is ∙ fault-is spot (told_at (w.span_of spot.group) misfit) None cs
    place-misfit m misfit (Some u) cs is = ap (by_misfit m (meaning_given w spot m u) (Some u) cs) is ∙ fault-is spot (told_at (w.span_of spot.group) misfit) (Some u) cs

    -- ---- an answer that fits

    abbrev given_value : Meaning X → Option Value → Bool
    given_value m None = false
    given_value m (Some u) = meaning_given w spot m u

    none-told : (given : Bool) (v : Option Value) (cs : List Claim) (inner : Found)
        → settled_by (any_tells w None cs || inner.passes) given (told_here w None cs) (is_non_null spot.type) (path_of (trail spot)) v inner ≡ ended spot inner.passes given v inner
    none-told given v cs inner =
        ap (λ b. settled_by (b || inner.passes) given (told_here w None cs) (is_non_null spot.type) (path_of (trail spot)) v inner) (any-none cs)
        ∙ ap (λ ns. settled_by inner.passes given ns (is_non_null spot.type) (path_of (trail spot)) v inner) (told-none cs)

    place-fits : (m : Meaning X) (v : Option Value) (cs : List Claim) → w.misfit spot.type m ≡ None
        → place_found w run spot m v cs ≡ ended spot (value_found w run spot m v cs).passes (given_value m v) v (value_found w run spot m v cs)
    place-fits m None cs is = ap (by_fit m None cs) is ∙ none-told false None cs (value_found w run spot m None cs)
    place-fits m (Some u) cs is = ap (by_misfit m (meaning_given w spot m u) (Some u) cs) is ∙ none-told (meaning_given w spot m u) (Some u) cs (value_found w run spot m (Some u) cs)

    pub place-leaf : (leaf : Value) (v : Option Value) (cs : List Claim) → w.misfit spot.type (gives_leaf leaf) ≡ None
        → place_found w run spot (gives_leaf leaf) v cs ≡ own_found spot false (is_leaf leaf v) v
    place-leaf leaf None cs is = place-fits (gives_leaf leaf) None cs is
    place-leaf leaf (Some u) cs is = place-fits (gives_leaf leaf) (Some u) cs is

    pub place-skip : (v : Option Value) (cs : List Claim) → w.misfit spot.type gives_skip ≡ None → place_found w run spot gives_skip v cs ≡ own_found spot false false v
    place-skip None cs is = place-fits gives_skip None cs is
    place-skip (Some u) cs is = place-fits gives_skip (Some u) cs is

    pub place-list : (ms : Meanings X) (v : Option Value) (cs : List Claim) → w.misfit spot.type (gives_list ms) ≡ None
        → place_found w run spot (gives_list ms) v cs
        ≡ ended spot (items_found w run spot 0 ms (array_for ms v) cs).passes (is_some (array_for ms v)) v (items_found w run spot 0 ms (array_for ms v) cs)
    place-list ms None cs is = place-fits (gives_list ms) None cs is
    place-list ms (Some u) cs is = place-fits (gives_list ms) (Some u) cs is

    abbrev by_type : X → Option Value → List Claim → Option T → Found
    by_type x None cs o = ended spot (object_found w run spot x o None cs).passes false None (object_found w run spot x o None cs)
    by_type x (Some u) cs o = ended spot (object_found w run spot x o (Some u) cs).passes (object_given w spot o u) (Some u) (object_found w run spot x o (Some u) cs)

    pub place-object : (x : X) (U : T) (v : Option Value) (cs : List Claim) → w.misfit spot.type (gives_object x) ≡ None → w.type_of x ≡ Some U
        → place_found w run spot (gives_object x) v cs ≡ members_at w run spot U x v cs
    place-object x U None cs fits typed = place-fits (gives_object x) None cs fits ∙ ap (by_type x None cs) typed
    place-object x U (Some u) cs fits typed = place-fits (gives_object x) (Some u) cs fits ∙ ap (by_type x (Some u) cs) typed
