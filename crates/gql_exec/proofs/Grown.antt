-- How a plan has grown once a place is completed, told of the place that the caller knows.
use Rattle.std.proofs.Common.{◌≡◌, inl, ℕ, List, [], ◌∷◌, drop, Some, None, Result, Ok, Err, OnOk, slice_get, slice_set, refl, sym, ap, ◌∙◌, subst}
use Rattle.gql_document_types.specs.declared.selection.Selection.{Selection}
use Rattle.gql_schema_types.specs.declared.types.ObjectType.{ObjectType}
use Rattle.gql_collect.specs.Groups.{SameGroups, applying}
use Rattle.gql_collect.specs.Grouping.{groups_seen}
use Rattle.gql_collect.specs.declared.group.Group.{Group as FieldsOfKey}
use Rattle.gql_resolvers.specs.Resolved.{Meaning, Meanings, gives_object, gives_list, answer_then, Outcome, answered}
use Rattle.gql_resolvers.specs.Spot.{Spot}
use Rattle.gql_resolvers.specs.Types.{item_type}
use Rattle.gql_resolvers.specs.World.{World, key_of}
use Rattle.gql_collect.specs.Plan.{group_in, groups_in}
use Rattle.gql_collect.specs.bridge.Plan.{Ground, most_looks, nodes_in, parts_in, type_in}
use Rattle.gql_collect.specs.Ways.{Way}
use Rattle.gql_collect.specs.bridge.Ways.{Turn, Grows, TurnsTo, key_in, turns_to, ways_to}
use Rattle.gql_collect.specs.declared.plan.Node.{Node}
use Rattle.gql_collect.specs.declared.plan.Part.{Part}
use Rattle.gql_collect.proofs.Changes.{with_nodes, with_parts}
use Rattle.gql_collect.proofs.Growing.{grows-none, grows-then, grows-as}
use Rattle.gql_collect.proofs.Ways.{GoesBy, grows-nodes, grows-parts}
use Rattle.gql_exec.specs.Group.{Group}
use Rattle.gql_exec.specs.Request.{Request}
use Rattle.gql_exec.specs.RequestWorld.{plain_world, setting_on}
use Rattle.gql_exec.specs.bridge.Looks.{NodesGrow, PartsGrow}
use Rattle.gql_exec.specs.Opened.{AnyGroup, Gives, AnyGives, Brings, Opens}
use Rattle.gql_exec.specs.bridge.Opened.{OpensBy, Turns, MakesTurn}
use Rattle.gql_exec.specs.bridge.Planning.{ground_in}
use Rattle.gql_exec.specs.Trails.{group_of}
use Rattle.gql_exec.specs.declared.executing.Executing.{Executing}
use Rattle.gql_exec.proofs.Opening.{any-drop, opens-collected}
use Rattle.gql_exec.proofs.Views.{views}

ok-more : {A E : Type 0} (result : Result A E) (P Q : Type 0) → (P → Q) → OnOk result P → OnOk result Q
ok-more (Ok x) P Q more it = more it
ok-more (Err e) P Q more it = tt

module _ (e : Executing) (before : ℕ) (nodes : List Node) where
  -- no look, and no node more
  pub none-grown : (Holds : Turn → Type 0) → NodesGrow e before before nodes nodes Holds
  none-grown Holds = grows-none (most_looks (ground_in e)) before before (λ n. turns_to n nodes) (λ n. turns_to n nodes) Holds refl (λ n. refl)

  module _ {A E : Type 0} (after : ℕ) (now : List Node) (result : Result A E) where
    abbrev pub HaveGrown : (Turn → Type 0) → Type 0
    HaveGrown Holds = OnOk result (NodesGrow e before after nodes now Holds)

    pub grown-as : (Holds Known : Turn → Type 0) → ((turn : Turn) → Holds turn → Known turn) → HaveGrown Holds → HaveGrown Known
    grown-as Holds Known known grown =
        ok-more result (NodesGrow e before after nodes now Holds) (NodesGrow e before after nodes now Known)
        (grows-as (most_looks (ground_in e)) before after (λ n. turns_to n nodes) (λ n. turns_to n now) Holds Known known) grown

    module _ {X : Type 0} (w : World X ObjectType Group (List (List Selection))) where
      -- the same answer in other words
      pub grown-meant : (spot : Spot Group) (m n : Meaning X) → m ≡ n → HaveGrown (MakesTurn w spot n) → HaveGrown (MakesTurn w spot m)
      grown-meant spot m n is grown = subst (λ k. HaveGrown (MakesTurn w spot k)) (sym is) grown

      pub grown-object : (spot : Spot Group) (x : X) (U : ObjectType) → w.misfit spot.type (gives_object x) ≡ None → w.type_of x ≡ Some U
          → HaveGrown (TurnsTo U (λ way. Opens w way U x (w.below spot.group))) → HaveGrown (MakesTurn w spot (gives_object x))
      grown-object spot x U fits is grown =
          grown-as (TurnsTo U (λ way. Opens w way U x (w.below spot.group))) (MakesTurn w spot (gives_object x))
          (λ turn makes. (
            fits,
            (is ∙ ap (λ (V : ObjectType). Some V) (sym makes.0), subst (λ V. Opens w turn.1 V x (w.below spot.group)) (sym makes.0) makes.1),
          )) grown

      pub grown-list : (spot : Spot Group) (ms : Meanings X) → w.misfit spot.type (gives_list ms) ≡ None
          → HaveGrown (λ turn. AnyGives w (Turns w (w.below spot.group) turn) (item_type spot.type) ms) → HaveGrown (MakesTurn w spot (gives_list ms))
      grown-list spot ms fits grown =
          grown-as (λ turn. AnyGives w (Turns w (w.below spot.group) turn) (item_type spot.type) ms) (MakesTurn w spot (gives_list ms)) (λ turn makes. (fits, makes)) grown

      pub grown-place : (here there : Spot Group) (m : Meaning X) → here ≡ there → HaveGrown (MakesTurn w here m) → HaveGrown (MakesTurn w there m)
      grown-place here there m same grown = subst (λ s. HaveGrown (MakesTurn w s m)) same grown

      -- at the place of a group's field
      pub grown-field : (U : ObjectType) (x : X) (g : Group) (spot : Spot Group) (m : Meaning X) → spot.group ≡ g → spot.type ≡ w.type_at U g → answered m ≡ w.asks U x g
          → HaveGrown (MakesTurn w spot m) → HaveGrown (λ turn. Brings w (Turns w (w.below g) turn) (w.type_at U g) (w.asks U x g))
      grown-field U x g spot m group type is grown =
          subst (λ (o : Outcome X). HaveGrown (λ turn. Brings w (Turns w (w.below g) turn) (w.type_at U g) o)) is
          (subst (λ ty. HaveGrown (λ turn. Gives w (Turns w (w.below g) turn) ty m)) type
          (subst (λ h. HaveGrown (λ turn. Gives w (Turns w (w.below h) turn) spot.type m)) group grown))

-- ---- an object, by the node of its type

module _ {X : Type 0} (e : Executing) (r : Request X) (U : ObjectType) (x : X) (sets : List (List Selection)) where
  abbrev w : World X ObjectType Group (List (List Selection))
  w = plain_world r

  abbrev pub OpensHere : Way → Type 0
  OpensHere way = Opens w way U x sets

  pub grown-node : (before between after : ℕ) (old nodes : List Node) (i : ℕ) (node : Node) (parts : List Part) (planner : Ground) → planner ≡ ground_in e
      → Grows (most_looks planner) before between (λ n. turns_to n old) (λ n. turns_to n nodes) (λ turn. turn ≡ (U, []))
      → slice_get nodes i ≡ Some node → type_in node ≡ U → SameGroups (groups_seen (groups_in (parts_in node))) (applying (setting_on r U) sets)
      → PartsGrow e between after (parts_in node) parts (OpensBy w (views (groups_in (parts_in node))) U x)
      → NodesGrow e before after old (slice_set nodes i (with_parts node parts)) (TurnsTo U OpensHere)
  grown-node before between after old nodes i node parts planner is first there typed collected grows =
      let most = most_looks (ground_in e) in
      let turns : List Node → ℕ → List Turn = λ ns n. turns_to n ns in
      let now = slice_set nodes i (with_parts node parts) in
      let added : Grows most before between (turns old) (turns nodes) (TurnsTo U OpensHere) =
      grows-as most before between (turns old) (turns nodes) (λ turn. turn ≡ (U, [])) (TurnsTo U OpensHere)
      (λ turn new. (ap (λ (t : Turn). t.0) new, subst (λ (t : Turn). OpensHere t.1) (sym new) tt))
      (subst (λ it. Grows (most_looks it) before between (turns old) (turns nodes) (λ turn. turn ≡ (U, []))) is first) in
      let opens : (way : Way) → OpensBy w (views (groups_in (parts_in node))) U x way → OpensHere way =
      λ way by. opens-collected r U (groups_in (parts_in node)) sets collected x way by in
      let grown : Grows most between after (turns nodes) (turns now) (TurnsTo U OpensHere) =
      subst (λ V. Grows most between after (turns nodes) (turns now) (TurnsTo V OpensHere)) typed
      (grows-parts most between after nodes i node parts there OpensHere
      (grows-as most between after (λ n. ways_to n (parts_in node)) (λ n. ways_to n parts) (OpensBy w (views (groups_in (parts_in node))) U x) OpensHere opens grows)) in
      grows-then most before between after (turns old) (turns nodes) (turns now) (TurnsTo U OpensHere) added grown

-- ---- items and parts, one after the other

module _ (e : Executing) (before between after : ℕ) where
  pub grown-then : (old nodes now : List Node) (Holds : Turn → Type 0) → NodesGrow e before between old nodes Holds → NodesGrow e between after nodes now Holds
      → NodesGrow e before after old now Holds
  grown-then old nodes now Holds = grows-then (most_looks (ground_in e)) before between after (λ n. turns_to n old) (λ n. turns_to n nodes) (λ n. turns_to n now) Holds

  -- an item more, among all
  pub grown-item : {X : Type 0} (w : World X ObjectType Group (List (List Selection))) (list spot : Spot Group) (m : Meaning X) (left rest all : Meanings X)
      → spot.group ≡ list.group → spot.type ≡ item_type list.type → left ≡ answer_then m rest
      → ((turn : Turn) → AnyGives w (Turns w (w.below list.group) turn) (item_type list.type) left → AnyGives w (Turns w (w.below list.group) turn) (item_type list.type) all)
      → (old nodes now : List Node) → NodesGrow e before between old nodes (λ turn. AnyGives w (Turns w (w.below list.group) turn) (item_type list.type) all)
      → NodesGrow e between after nodes now (MakesTurn w spot m)
      → NodesGrow e before after old now (λ turn. AnyGives w (Turns w (w.below list.group) turn) (item_type list.type) all)
  grown-item w list spot m left rest all group type is among old nodes now so_far more =
      let Holds : Turn → Type 0 = λ turn. AnyGives w (Turns w (w.below list.group) turn) (item_type list.type) all in
      let here : (turn : Turn) → MakesTurn w spot m turn → Holds turn = λ turn makes.
      among turn (subst (λ ms. AnyGives w (Turns w (w.below list.group) turn) (item_type list.type) ms) (sym is)
      (inl (subst (λ ty. Gives w (Turns w (w.below list.group) turn) ty m) type (subst (λ h. Gives w (Turns w (w.below h) turn) spot.type m) group makes)))) in
      grown-then old nodes now Holds so_far
      (grows-as (most_looks (ground_in e)) between after (λ n. turns_to n nodes) (λ n. turns_to n now) (MakesTurn w spot m) Holds here more)

  -- a part whose nodes have grown, among those from an index on
  pub grown-part : {X : Type 0} (r : Request X) (U : ObjectType) (x : X) (groups : List FieldsOfKey) (i : ℕ) (rest : List Group)
      (old parts : List Part) (part : Part) (nodes : List Node) → views (drop i groups) ≡ group_of (group_in part) ∷ rest → slice_get parts i ≡ Some part
      → PartsGrow e before between old parts (OpensBy (plain_world r) (views groups) U x)
      → (let w = plain_world r in let g = group_of (group_in part) in NodesGrow e between after (nodes_in part) nodes (λ turn. Brings w (Turns w (w.below g) turn) (w.type_at U g) (w.asks U x g)))
      → PartsGrow e before after old (slice_set parts i (with_nodes part nodes)) (OpensBy (plain_world r) (views groups) U x)
  grown-part r U x groups i rest old parts part nodes first there so_far more =
      let w = plain_world r in
      let most = most_looks (ground_in e) in
      let g = group_of (group_in part) in
      let Brought : Turn → Type 0 = λ turn. Brings w (Turns w (w.below g) turn) (w.type_at U g) (w.asks U x g) in
      let ways : List Part → ℕ → List Way = λ ps n. ways_to n ps in
      let now = slice_set parts i (with_nodes part nodes) in
      let here : (way : Way) → GoesBy (key_in part) Brought way → OpensBy w (views groups) U x way = λ way goes.
      subst (λ (v : Way). OpensBy w (views groups) U x v) (sym goes.1)
      (any-drop (λ h. (key_of w h ≡ key_in part) × Brings w (Turns w (w.below h) goes.0) (w.type_at U h) (w.asks U x h)) groups i
      (subst (λ hs. AnyGroup (λ h. (key_of w h ≡ key_in part) × Brings w (Turns w (w.below h) goes.0) (w.type_at U h) (w.asks U x h)) hs) (sym first)
      (inl (refl, goes.2)))) in
      let grown : Grows most between after (ways parts) (ways now) (OpensBy w (views groups) U x) =
      grows-as most between after (ways parts) (ways now) (GoesBy (key_in part) Brought) (OpensBy w (views groups) U x) here
      (grows-nodes most between after parts i part nodes there Brought more) in
      grows-then most before between after (ways old) (ways parts) (ways now) (OpensBy w (views groups) U x) so_far grown
