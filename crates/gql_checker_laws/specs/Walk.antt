-- One walk along data and along the paths of listed errors, which asks each resolver on the way once.
use Rattle.std.specs.Prelude.{ℕ, zero, suc, ◌+◌, List, [], ◌∷◌, ◌++◌, Option, Some, None, option_to_list}
use Rattle.std.specs.Prelude.{Bool, true, false, if◌then◌else◌, ◌||◌, ◌&&◌, not, is_some}
use Rattle.std.specs.Str.{bytes_eq}
use Rattle.jb_tree.specs.declared.value.Value.{Value}
use Rattle.jb_tree.specs.Value.{array_items, object_members, is_null}
use Rattle.gql_ast_base.specs.TypeParts.{is_non_null}
use Rattle.gql_response.specs.ErrorAt.{place_in}
use Rattle.gql_response.specs.declared.graphql_error.GraphQLError.{GraphQLError}
use Rattle.gql_response.specs.declared.path.ResponseDataPathSegment.TheVariants.{Field, ListIndex}
use Rattle.gql_resolvers.specs.Resolved.{Meaning, Meanings, gives_leaf, gives_object, gives_list, gives_skip, fails_with, no_answer, answer_then}
use Rattle.gql_resolvers.specs.Resolved.{Fault, Misfit, Outcome, answered, refused}
use Rattle.gql_resolvers.specs.World.{World, key_of}
use Rattle.gql_resolvers.specs.Trail.{Segment, Trail, path_of}
use Rattle.gql_resolvers.specs.Spot.{Spot, trail, item_spot, field_spot}
use Rattle.gql_resolvers.specs.Fault.{fault_at}
use Rattle.gql_resolvers.specs.Execute.{Member}
use Rattle.gql_checker_laws.specs.Claims.{Claim, claims_from, Found, nothing, both, share}
use Rattle.gql_checker_laws.specs.Identical.{is_identical}
use Rattle.gql_checker_laws.specs.Shows.{says}

abbrev pub count : {X : Type 0} → Meanings X → ℕ
count no_answer = 0
count (answer_then m ms) = suc (count ms)

abbrev pub same_length : {A : Type 0} → ℕ → List A → Bool
same_length zero [] = true
same_length zero (x ∷ xs) = false
same_length (suc n) [] = false
same_length (suc n) (x ∷ xs) = same_length n xs

abbrev pub first : {A : Type 0} → Option (List A) → Option A
first None = None
first (Some []) = None
first (Some (x ∷ xs)) = Some x

abbrev pub behind : {A : Type 0} → Option (List A) → Option (List A)
behind None = None
behind (Some []) = Some []
behind (Some (x ∷ xs)) = Some xs

abbrev pub second : {A B : Type 0} → Option (A × B) → Option B
second None = None
second (Some p) = Some p.1

abbrev pub is_none : {A : Type 0} → Option A → Bool
is_none None = true
is_none (Some x) = false

abbrev pub kept_if : {A : Type 0} → Bool → A → Option A
kept_if true x = Some x
kept_if false x = None

-- nothing is looked for where there is no value and no claim
abbrev pub unless_idle : Option Value → List Claim → Found → Found
unless_idle None [] found = nothing
unless_idle None (c ∷ cs) found = found
unless_idle (Some v) cs found = found

-- an array of this length
abbrev pub of_length : ℕ → Option (List Value) → Option (List Value)
of_length n None = None
of_length n (Some vs) = kept_if (same_length n vs) vs

abbrev pub array_for : {X : Type 0} → Meanings X → Option Value → Option (List Value)
array_for ms None = None
array_for ms (Some v) = of_length (count ms) (array_items v)

-- ---- a place at the end

-- a value is bad unless it is as it is given, or a null that is held there; else as what is inside it
abbrev pub bad_by : Bool → Bool → List Segment → Option Value → Option (List Segment) → Option (List Segment)
bad_by given held path None inner = None
bad_by given held path (Some v) inner = if held && is_null v then None else (if given then inner else Some path)

-- whether a null comes, whether the value is as it is given, the numbers that are told there, whether the type rules null out, the
-- path, the value, and what is found inside
abbrev pub settled_by : Bool → Bool → List ℕ → Bool → List Segment → Option Value → Found → Found
settled_by comes given told strict path v inner =
    record { passes = comes && strict; told = told ++ inner.told; bad = bad_by given (comes && not strict) path v inner.bad }

module _ {X T G S : Type 0} (w : World X T G S) where
  -- ---- errors that are listed at one place

  -- the error says what the fault is, apart from its path
  abbrev pub says_fault : GraphQLError → Fault → Bool
  says_fault error fault = says error fault.message (option_to_list (place_in fault.span w.sources)) fault.marked

  -- of a claim with these steps left
  abbrev pub tells_from : List Segment → GraphQLError → Fault → Bool
  tells_from [] error fault = says_fault error fault
  tells_from (s ∷ rest) error fault = false

  abbrev pub tells : Option Fault → Claim → Bool
  tells None c = false
  tells (Some fault) c = tells_from c.rest c.error fault

  abbrev pub any_tells : Option Fault → List Claim → Bool
  any_tells fault [] = false
  any_tells fault (c ∷ cs) = tells fault c || any_tells fault cs

  abbrev pub told_here : Option Fault → List Claim → List ℕ
  told_here fault [] = []
  told_here fault (c ∷ cs) = (if tells fault c then c.number ∷ [] else []) ++ told_here fault cs

  -- ---- what the data has at a place

  abbrev pub same_keys : List G → List Member → Bool
  same_keys [] [] = true
  same_keys [] (m ∷ ms) = false
  same_keys (g ∷ gs) [] = false
  same_keys (g ∷ gs) (m ∷ ms) = bytes_eq (key_of w g) m.0 && same_keys gs ms

  abbrev pub of_keys : List G → Option (List Member) → Option (List Member)
  of_keys gs None = None
  of_keys gs (Some ms) = kept_if (same_keys gs ms) ms

  abbrev pub object_for : List G → Option Value → Option (List Member)
  object_for gs None = None
  object_for gs (Some v) = of_keys gs (object_members v)

  -- the value is as the answer says, what is inside it left aside
  abbrev pub object_given : Spot G → Option T → Value → Bool
  object_given spot None v = false
  object_given spot (Some U) v = is_some (object_for (w.groups U (w.below spot.group)) (Some v))

  abbrev pub meaning_given : Spot G → Meaning X → Value → Bool
  meaning_given spot (gives_leaf u) v = is_identical u v
  meaning_given spot (gives_object x) v = object_given spot (w.type_of x) v
  meaning_given spot (gives_list ms) v = is_some (array_for ms (Some v))
  meaning_given spot gives_skip v = false
  meaning_given spot (fails_with text) v = false

  abbrev pub is_given : Spot G → Outcome X → Value → Bool
  is_given spot (answered m) v = is_none (w.misfit spot.type m) && meaning_given spot m v
  is_given spot (refused fault) v = false

  -- ---- a place

  -- a value that is given at a place
  abbrev pub given_at : Spot G → Outcome X → Option Value → Bool
  given_at spot outcome None = false
  given_at spot outcome (Some v) = is_given spot outcome v

  -- a null comes to the place: its own, or one from inside
  abbrev pub comes : Spot G → Outcome X → List Claim → Found → Bool
  comes spot outcome cs inner = any_tells (fault_at w spot outcome) cs || inner.passes

  abbrev pub settled : Spot G → Outcome X → Option Value → List Claim → Found → Found
  settled spot outcome v cs inner =
      let told = told_here (fault_at w spot outcome) cs in
      settled_by (comes spot outcome cs inner) (given_at spot outcome v) told (is_non_null spot.type) (path_of (trail spot)) v inner

  abbrev pub fitting : Option Misfit → Found → Found
  fitting (Some misfit) inner = nothing
  fitting None inner = inner

  -- what is looked at below a group: the members of the data, where they have the keys of the groups
  abbrev pub Below : Type 0
  Below = T → X → Trail → S → Option (List Member) → List Claim → Found

  abbrev pub object_found : Below → Spot G → X → Option T → Option Value → List Claim → Found
  object_found run spot x None v cs = nothing
  object_found run spot x (Some U) v cs = run U x (trail spot) (w.below spot.group) (object_for (w.groups U (w.below spot.group)) v) cs

  abbrev mutual
    pub value_found : Below → Spot G → Meaning X → Option Value → List Claim → Found
    value_found run spot (gives_leaf u) v cs = nothing
    value_found run spot (gives_object x) v cs = object_found run spot x (w.type_of x) v cs
    value_found run spot (gives_list ms) v cs = items_found run spot 0 ms (array_for ms v) cs
    value_found run spot gives_skip v cs = nothing
    value_found run spot (fails_with text) v cs = nothing

    pub items_found : Below → Spot G → ℕ → Meanings X → Option (List Value) → List Claim → Found
    items_found run list i no_answer vs cs = nothing
    items_found run list i (answer_then m ms) vs cs =
        let it = item_spot list i in
        let own = share (ListIndex i) cs in
        both (unless_idle (first vs) own (settled it (answered m) (first vs) own (fitting (w.misfit it.type m) (value_found run it m (first vs) own))))
        (items_found run list (i + 1) ms (behind vs) cs)

  abbrev pub inner_found : Below → Spot G → Outcome X → Option Value → List Claim → Found
  inner_found run spot (answered m) v cs = fitting (w.misfit spot.type m) (value_found run spot m v cs)
  inner_found run spot (refused fault) v cs = nothing

  abbrev pub outcome_found : Below → Spot G → Outcome X → Option Value → List Claim → Found
  outcome_found run spot outcome v cs = unless_idle v cs (settled spot outcome v cs (inner_found run spot outcome v cs))

  abbrev pub groups_found : Below → T → X → Trail → List G → Option (List Member) → List Claim → Found
  groups_found run U x outer [] ms cs = nothing
  groups_found run U x outer (g ∷ gs) ms cs =
      both (outcome_found run (field_spot w U outer g) (w.asks U x g) (second (first ms)) (share (Field (w.name_of g)) cs))
      (groups_found run U x outer gs (behind ms) cs)

  -- a selection set, to a depth of selection sets
  abbrev pub set_found : ℕ → Below
  set_found zero U x outer s ms cs = nothing
  set_found (suc d) U x outer s ms cs = groups_found (set_found d) U x outer (w.groups U s) ms cs

  -- ---- the whole

  abbrev pub whole_found : ℕ → T → X → S → Option (List Member) → List GraphQLError → Found
  whole_found d root initial all given errors = set_found d root initial [] all (of_keys (w.groups root all) given) (claims_from 0 errors)

  -- the first bad path of all the data
  abbrev pub first_bad : T → S → Option (List Member) → Found → Option (List Segment)
  first_bad root all None found = if found.passes then None else Some []
  first_bad root all (Some members) found = if same_keys (w.groups root all) members then found.bad else Some []
