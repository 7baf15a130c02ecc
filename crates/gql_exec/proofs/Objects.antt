-- An object that is executed by the node of its type.
use Rattle.std.proofs.Common.{◌≡◌, ℕ, ◌*◌, ◌<◌, List, ◌∷◌, [], Option, Some, None, slice_get, slice_set, refl, sym, subst}
use Rattle.jb_tree.specs.declared.value.Value.{Value}
use Rattle.jb_tree.specs.declared.value.Value.TheVariants as json
use Rattle.gql_document_types.specs.declared.selection.Selection.{Selection}
use Rattle.gql_response.specs.declared.graphql_error.GraphQLError.{GraphQLError}
use Rattle.gql_schema_types.specs.declared.types.ObjectType.{ObjectType}
use Rattle.gql_document_types.specs.Ranks.{AreRanked}
use Rattle.gql_resolvers.specs.Execute.{Member, one_object, settled}
use Rattle.gql_resolvers.specs.Spot.{trail}
use Rattle.gql_collect.specs.Plan.{fields_in, groups_in}
use Rattle.gql_collect.specs.bridge.Plan.{Ground, AreNodes, ArePartsOf, HaveNodes, IsNodeOf, most_looks, parts_in, sets_below}
use Rattle.gql_collect.specs.bridge.Ways.{Grows, TurnsTo, turns_to}
use Rattle.gql_collect.specs.declared.plan.Node.{Node}
use Rattle.gql_collect.specs.declared.plan.Part.{Part}
use Rattle.gql_collect.proofs.Changes.{with_parts}
use Rattle.gql_collect.proofs.Nodes.{node-with}
use Rattle.gql_exec.specs.bridge.Executed.{Executes, ExecutesGroups, MakesBelow}
use Rattle.gql_exec.specs.declared.executing.Executing.{Executing}
use Rattle.gql_exec.specs.declared.path.Path.TheVariants.{Below}
use Rattle.gql_exec.specs.declared.place.Place.{Place}
use Rattle.gql_exec.specs.Executing.{Resolving}
use Rattle.gql_exec.specs.bridge.Executing.{request_of, world_of}
use Rattle.gql_exec.specs.bridge.Looks.{NodesGrow, PartsGrow}
use Rattle.gql_exec.specs.Opened.{Opens}
use Rattle.gql_exec.specs.bridge.Opened.{OpensBy}
use Rattle.gql_exec.specs.bridge.Planning.{ground_in}
use Rattle.gql_exec.specs.Trails.{group_of}
use Rattle.gql_exec.specs.bridge.Trails.{null_at, spot_of, trail_of}
use Rattle.gql_exec.proofs.Grown.{grown-node}
use Rattle.gql_exec.proofs.Measures.{fragments_in, room, measure, deepest}
use Rattle.gql_exec.proofs.Places.{made-members, made-null}
use Rattle.gql_exec.proofs.Planned.{node-executed, node-less, node-of, node-planned}
use Rattle.gql_exec.proofs.Views.{views}
use Rattle.gql_exec.proofs.Ways.{trail-place}

module _ {X : Type 0} (e : Executing) (types : X → List ℕ) (resolves : Resolving X) (place : Place) (U : ObjectType) (rank : ℕ → ℕ) (ranked : AreRanked (fragments_in e) rank)
    (planner : Ground) (same : planner ≡ ground_in e) (nodes : List Node) (i : ℕ) (node : Node)
    (planned : AreNodes planner (sets_below place.group.now) nodes) (there : IsNodeOf U nodes i) (value : Some node ≡ slice_get nodes i) where
  are : AreNodes (ground_in e) (sets_below place.group.now) nodes
  are = subst (λ it. AreNodes it (sets_below place.group.now) nodes) same planned

  pub object-less : room e * deepest (fragments_in e) (groups_in (parts_in node)) < measure e (group_of place.group.now).pieces 1
  object-less = node-less e types resolves U rank ranked (sets_below place.group.now) nodes i node are there (sym value)

  pub object-parts : (sets : List (List Selection)) × ArePartsOf (ground_in e) U sets (parts_in node)
  object-parts = (sets_below place.group.now, node-planned e types resolves U rank ranked (sets_below place.group.now) nodes i node are there (sym value))

  pub object-grown : (parts : List Part) → fields_in parts ≡ fields_in (parts_in node) → HaveNodes (ground_in e) parts
      → AreNodes (ground_in e) (sets_below place.group.now) (slice_set nodes i (with_parts node parts))
  object-grown parts same-fields have = node-with (ground_in e) (sets_below place.group.now) nodes i node parts are (sym value) same-fields have

  -- the ways of the nodes have grown by those of the object
  pub object-growth : (x : X) (before between after : ℕ) (old : List Node) (parts : List Part)
      → Grows (most_looks planner) before between (λ n. turns_to n old) (λ n. turns_to n nodes) (λ turn. turn ≡ (U, []))
      → PartsGrow e between after (parts_in node) parts (OpensBy (world_of e types resolves) (views (groups_in (parts_in node))) U x)
      → NodesGrow e before after old (slice_set nodes i (with_parts node parts)) (TurnsTo U (λ way. Opens (world_of e types resolves) way U x (sets_below place.group.now)))
  object-growth x before between after old parts first grows =
      let typed = node-of e types resolves U rank ranked (sets_below place.group.now) nodes i node are there (sym value) in
      let collected = node-planned e types resolves U rank ranked (sets_below place.group.now) nodes i node are there (sym value) in
      grown-node e (request_of e types resolves) U x (sets_below place.group.now) before between after old nodes i node parts planner same first (sym value) typed collected.0.groups grows

  module _ (x : X) (before after : List GraphQLError) where
    -- what is made where its members are these
    abbrev pub MakesObject : Option (List Value) → Type 0
    MakesObject made =
        MakesBelow (world_of e types resolves) (group_of place.group.now) made before after
        (λ run. settled (spot_of place) (one_object (run U x (trail (spot_of place)) (group_of place.group.now).pieces)))

    abbrev pub ExecutesParts : Option (List Member) → Type 0
    ExecutesParts found =
        ExecutesGroups (world_of e types resolves) U x (trail_of (Below place.around place.step place.ty)) (views (groups_in (parts_in node))) found before after

    executes : (found : Option (List Member)) → ExecutesParts found
        → Executes (world_of e types resolves) U x (trail_of (Below place.around place.step place.ty)) (sets_below place.group.now) found before after
    executes found =
        node-executed e types resolves U rank ranked (sets_below place.group.now) nodes i node are there (sym value) x (trail_of (Below place.around place.step place.ty)) found before after

    pub object-made : (found : Option (List Member)) (members : List Member) → found ≡ Some members → ExecutesParts found → MakesObject (Some (json.Object members ∷ []))
    object-made found members is run =
        made-members (world_of e types resolves) (spot_of place) before after U x (trail_of (Below place.around place.step place.ty)) (sets_below place.group.now) members (trail-place place) refl
        (executes (Some members) (subst ExecutesParts is run))

    pub object-null : (found : Option (List Member)) (made : Option (List Value)) → found ≡ None → made ≡ null_at place.ty.now → ExecutesParts found → MakesObject made
    object-null found made is null run =
        subst MakesObject (sym null)
        (made-null (world_of e types resolves) (spot_of place) before after U x (trail_of (Below place.around place.step place.ty)) (sets_below place.group.now) (trail-place place) refl
        (executes None (subst ExecutesParts is run)))
