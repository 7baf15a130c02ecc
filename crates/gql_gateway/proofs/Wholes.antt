-- The execution of an operation is the two joined: that which tells of the schema alone, and that of its concrete part.
use Rattle.std.proofs.Common.{◌≡◌, ℕ, zero, suc, Bool, true, false, cond, not, List, [], ◌∷◌, map, Option, Some, None, Result, Ok, Err, refl, sym, ap, ap₂, ◌∙◌, subst, inl, inr}
use Rattle.std.specs.List.{AllByRecursion, filter}
use Rattle.gql_ast_base.specs.Names.{Named}
use Rattle.gql_document_types.specs.declared.fragment.Fragment.{Fragment}
use Rattle.gql_document_types.specs.declared.selection.Selection.{Selection}
use Rattle.gql_exec.proofs.Lawful.{lawful}
use Rattle.gql_exec.specs.Group.{Group}
use Rattle.gql_exec.specs.Request.{Members, Request}
use Rattle.gql_exec.specs.RequestWorld.{plain, plain_world, setting_on}
use Rattle.gql_exec.specs.Response.{IsExecuted}
use Rattle.gql_collect.specs.Flat.{flat}
use Rattle.gql_document_types.specs.Ranks.{AreRanked}
use Rattle.gql_exec.proofs.Depths.{one_more, any-depth}
use Rattle.gql_exec.proofs.Roots.{is-root, groups-defined, IsDefined}
use Rattle.gql_exec.specs.IntrospectedRequest.{no_name, no_field, introspected_request, partial_request}
use Rattle.gql_exec.specs.Restricted.{is_meta, HasNoOwn}
use Rattle.gql_exec.specs.Thing.{Thing, of_user}
use Rattle.gql_exec.specs.ThingMeaning.{Resolving}
use Rattle.gql_resolvers.proofs.Deeper.{deeper}
use Rattle.gql_resolvers.specs.Depth.{AllGroups, Suffices}
use Rattle.gql_resolvers.specs.Execute.{Made, Member, groups_made, execute}
use Rattle.gql_resolvers.specs.Reached.{IsAmong, fields_of, Reaches, at_root}
use Rattle.gql_resolvers.specs.Resolved.{gives_skip, Outcome, answered}
use Rattle.gql_resolvers.specs.Skips.{ReachesNoSkip}
use Rattle.gql_resolvers.specs.Spot.{Spot, field_spot}
use Rattle.gql_resolvers.specs.World.{World, key_of, DistinctKeys}
use Rattle.gql_response.specs.declared.execution_response.ExecutionResponse.{ExecutionResponse}
use Rattle.gql_schema_types.specs.declared.schema.Schema.{Schema}
use Rattle.gql_schema_types.specs.declared.types.ObjectType.{ObjectType}
use Rattle.gql_source.specs.File.{Files}
use Rattle.gql_gateway.specs.Concrete.{concrete}
use Rattle.gql_gateway.specs.Joined.{AreApart, root_key, root_keys, joined}
use Rattle.gql_gateway.specs.Pure.{IsSpreadless, IsPure}
use Rattle.gql_gateway.specs.declared.root_key.RootKey.{RootKey}
use Rattle.gql_gateway.proofs.ApartKeys.{keys-apart}
use Rattle.gql_gateway.proofs.Filtered.{concrete-groups}
use Rattle.gql_gateway.proofs.Parts.{row_of, keys-are, whole-is, told-is, asked-is, is-row, asks_one, field-one}
use Rattle.gql_gateway.proofs.Rows.{Row, keys_in, whole, told, asked, IsRow, IsKept, joined-responses, none-lacking}

module _ {X : Type 0} (schema : Schema) (sources : Files) (fragments : List Fragment) (variables : Members) (types : X → List ℕ) (resolves : Resolving X) (U : ObjectType) (x : X)
    (selections : List Selection) where
  abbrev r : Request (Thing X)
  r = introspected_request schema sources fragments variables types resolves

  abbrev v : World (Thing X) ObjectType Group (List (List Selection))
  v = plain_world r

  abbrev u : World (Thing (Unit {0})) ObjectType Group (List (List Selection))
  u = plain_world (partial_request schema sources fragments variables)

  abbrev sets : List (List Selection)
  sets = selections ∷ []

  abbrev groups : List Group
  groups = plain r U sets

  -- ---- how deep is enough

  all-same : (P Q : Group → Type 0) (gs : List Group) → ((g : Group) → P g → Q g) → AllGroups v P gs → AllGroups u Q gs
  all-same P Q [] f each = tt
  all-same P Q (g ∷ gs) f each = (f g each.0, all-same P Q gs f each.1)

  suffices-same : (d : ℕ) (W : ObjectType) (s : List (List Selection)) → Suffices v d W s → Suffices u d W s
  suffices-same zero W s enough = enough
  suffices-same (suc d) W s enough =
      all-same (λ g. (V : ObjectType) → Suffices v d V (v.below g)) (λ g. (V : ObjectType) → Suffices u d V (u.below g)) (v.groups W s)
      (λ g h V. suffices-same d V (v.below g) (h V)) enough

  all-kept : (P : Group → Type 0) (q : Group → Bool) (gs : List Group) → AllGroups v P gs → AllGroups v P (filter q gs)
  all-kept P q [] each = tt
  all-kept P q (g ∷ gs) each = by (q g) (all-kept P q gs each.1)
    where
      by : (b : Bool) → AllGroups v P (filter q gs) → AllGroups v P (cond b (g ∷ filter q gs) (filter q gs))
      by true rest = (each.0, rest)
      by false rest = rest

  -- ---- rows

  abbrev rows : ℕ → List Row
  rows d = map (row_of schema sources fragments variables types resolves U x d) groups

  each-row : (d : ℕ) → HasNoOwn schema U → (gs : List Group) → AllGroups v (IsDefined r U) gs
      → ((g : Group) (spot : Spot Group) (outcome : Outcome (Thing X)) → IsAmong spot outcome (fields_of v U (of_user schema x) [] gs) → ¬ (outcome ≡ answered gives_skip))
      → AllByRecursion IsRow (map (row_of schema sources fragments variables types resolves U x d) gs)
  each-row d own [] defined kept = tt
  each-row d own (g ∷ gs) defined kept = (
    is-row schema sources fragments variables types resolves U x d g (is-root schema U own g defined.0)
        (kept g (field_spot v U [] g) (asks_one schema sources fragments variables types resolves U x d g) (inl (refl, refl))),
    each-row d own gs defined.1 (λ h spot outcome among. kept h spot outcome (inr among)),
  )

  abbrev response_of : Made Member → ExecutionResponse
  response_of made = record { errors = made.1; root = made.0 }

  pub whole-joined : (rank : ℕ → ℕ) → AreRanked fragments rank → HasNoOwn schema U → IsSpreadless selections → IsPure (setting_on r U) selections
      → ReachesNoSkip v U (of_user schema x) sets
      → (one part rest : ExecutionResponse) (members : List Member)
      → IsExecuted r U (of_user schema x) selections one
      → IsExecuted (partial_request schema sources fragments variables) U (of_user schema tt) selections part
      → IsExecuted r U (of_user schema x) (concrete selections) rest
      → one.root ≡ Some members → joined (root_keys groups) part rest ≡ Ok one
  whole-joined rank ranked own none pure kept one part rest members is_one is_part is_rest has =
      let d = is_one.depth in
      let more : Suffices v (suc d) U sets = one_more v d U sets is_one.enough in
      let concrete_are = concrete-groups (setting_on r U) rank ranked selections none pure in
      let fewer : Suffices v (suc d) U (concrete selections ∷ []) =
      subst (AllGroups v (λ g. (W : ObjectType) → Suffices v d W (v.below g))) (sym concrete_are)
      (all-kept (λ g. (W : ObjectType) → Suffices v d W (v.below g)) (λ g. not (is_meta g)) groups more) in
      let one_is : one ≡ response_of (whole (rows d)) =
      is_one.is
      ∙ ap response_of (sym (deeper v d U sets is_one.enough (of_user schema x) []) ∙ sym (whole-is schema sources fragments variables types resolves U x d groups)) in
      let part_is : part ≡ response_of (told (rows d)) =
      is_part.is
      ∙ ap response_of (any-depth u is_part.depth (suc d) U sets is_part.enough (suffices-same (suc d) U sets more) (of_user schema tt) []
      ∙ sym (told-is schema sources fragments variables types resolves U x d groups)) in
      let rest_is : rest ≡ response_of (asked (rows d)) =
      is_rest.is
      ∙ ap response_of (any-depth v is_rest.depth (suc d) U (concrete selections ∷ []) is_rest.enough fewer (of_user schema x) []
      ∙ ap (λ gs. groups_made v (execute v d) U (of_user schema x) [] gs) concrete_are
      ∙ sym (asked-is schema sources fragments variables types resolves U x d groups)) in
      let each = each-row d own groups (groups-defined r U sets)
      (λ g spot outcome among skips. kept spot (subst (λ (o : Outcome (Thing X)). Reaches v U (of_user schema x) sets spot o) skips (at_root among))) in
      let keys = keys-are schema sources fragments variables types resolves U x d groups in
      let distinct : AreApart (keys_in (rows d)) = subst AreApart (sym keys) (keys-apart r groups ((lawful r).distinct_keys U sets)) in
      let found : (whole (rows d)).0 ≡ Some members = ap (λ (o : ExecutionResponse). o.root) (sym one_is) ∙ has in
      ap (λ (ks : List RootKey). joined ks part rest) (sym keys)
      ∙ ap₂ (λ (a b : ExecutionResponse). joined (keys_in (rows d)) a b) part_is rest_is
      ∙ joined-responses (rows d) each distinct members found
      ∙ ap (λ (o : ExecutionResponse). let answer : Result ExecutionResponse Named = Ok o in answer) (sym one_is)

  -- ---- nothing is missing in an execution of the concrete part

  abbrev Kept : List Group → Type 0
  Kept hs = (spot : Spot Group) (outcome : Outcome (Thing X)) → IsAmong spot outcome (fields_of v U (of_user schema x) [] hs) → ¬ (outcome ≡ answered gives_skip)

  abbrev rests : List Group → List Group
  rests gs = filter (λ g. not (is_meta g)) gs

  each-kept : (d : ℕ) → (gs : List Group) → Kept (rests gs) → AllByRecursion IsKept (map (row_of schema sources fragments variables types resolves U x d) gs)
  each-kept d [] kept = tt
  each-kept d (g ∷ gs) kept = by (is_meta g) refl kept (λ h. each-kept d gs h)
    where
      by : (b : Bool) → is_meta g ≡ b → Kept (cond (not b) (g ∷ rests gs) (rests gs))
          → (Kept (rests gs) → AllByRecursion IsKept (map (row_of schema sources fragments variables types resolves U x d) gs))
          → AllByRecursion IsKept (map (row_of schema sources fragments variables types resolves U x d) (g ∷ gs))
      by true here none later = ((λ there vs is. absurd (let e : true ≡ false = sym here ∙ there in cc)), later none)
      by false there none later = (
        (λ _ vs is. field-one v (lawful r) (execute v d) (field_spot v U [] g) (asks_one schema sources fragments variables types resolves U x d g)
            (none (field_spot v U [] g) (asks_one schema sources fragments variables types resolves U x d g) (inl (refl, refl))) vs is),
        later (λ spot outcome among. none spot outcome (inr among)),
      )

  pub nothing-missing : (rank : ℕ → ℕ) → AreRanked fragments rank → IsSpreadless selections → IsPure (setting_on r U) selections
      → ReachesNoSkip v U (of_user schema x) (concrete selections ∷ [])
      → (here rest : ExecutionResponse) (lacking : Named)
      → IsExecuted r U (of_user schema x) (concrete selections) rest
      → joined (root_keys groups) here rest ≡ Err lacking → ⊥
  nothing-missing rank ranked none pure kept here rest lacking is_rest lacks =
      let d = is_rest.depth in
      let concrete_are = concrete-groups (setting_on r U) rank ranked selections none pure in
      let rest_is : rest ≡ response_of (asked (rows d)) =
      is_rest.is
      ∙ ap response_of (sym (deeper v d U (concrete selections ∷ []) is_rest.enough (of_user schema x) [])
      ∙ ap (λ gs. groups_made v (execute v d) U (of_user schema x) [] gs) concrete_are
      ∙ sym (asked-is schema sources fragments variables types resolves U x d groups)) in
      let reached : (spot : Spot Group) (outcome : Outcome (Thing X)) → IsAmong spot outcome (fields_of v U (of_user schema x) [] (v.groups U (concrete selections ∷ []))) → ¬ (outcome ≡ answered gives_skip) =
      λ spot outcome among skips. kept spot (subst (λ (o : Outcome (Thing X)). Reaches v U (of_user schema x) (concrete selections ∷ []) spot o) skips (at_root among)) in
      let each = each-kept d groups
      (subst (λ (gs : List Group). (spot : Spot Group) (outcome : Outcome (Thing X)) → IsAmong spot outcome (fields_of v U (of_user schema x) [] gs) → ¬ (outcome ≡ answered gives_skip)) concrete_are reached) in
      let keys = keys-are schema sources fragments variables types resolves U x d groups in
      let distinct : AreApart (keys_in (rows d)) = subst AreApart (sym keys) (keys-apart r groups ((lawful r).distinct_keys U sets)) in
      none-lacking (rows d) each distinct here lacking
      (ap (λ (ks : List RootKey). joined ks here (response_of (asked (rows d)))) keys
      ∙ ap (λ (o : ExecutionResponse). joined (root_keys groups) here o) (sym rest_is)
      ∙ lacks)

  -- the execution of nothing
  pub of-nothing : IsExecuted r U (of_user schema x) [] (record { errors = []; root = Some [] })
  unfolding flat
  of-nothing = record { depth = 0; enough = refl; is = refl }
