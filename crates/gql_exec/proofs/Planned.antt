-- Parts of a plan in an execution.
use Rattle.std.proofs.Common.{arith, ◌≡◌, ℕ, zero, suc, ◌+◌, ◌*◌, ◌<◌, Bool, true, false, cond, List, [], ◌∷◌, drop, length, get_or, Option, Some, None, is_some, slice_get, refl, sym, ap, ◌∙◌, subst}
use Rattle.std.specs.List.{AllByRecursion, find}
use Rattle.std.specs.Option.{option_and_then}
use Rattle.std.proofs.lemmas.Slice.Eq.{bytes_eq-Decides}
use Rattle.gql_document_types.specs.declared.document.ExecutableDocument.{ExecutableDocument}
use Rattle.gql_document_types.specs.declared.selection.Selection.{Selection}
use Rattle.gql_response.specs.declared.graphql_error.GraphQLError.{GraphQLError}
use Rattle.gql_schema_types.specs.Entries.{is_called}
use Rattle.gql_schema_types.specs.Schemas.{field_of, object_of}
use Rattle.gql_schema_types.specs.Types.{type_name, type_called, as_object}
use Rattle.gql_schema_types.specs.declared.schema.Schema.{Schema}
use Rattle.gql_schema_types.specs.declared.types.ExtendedType.{ExtendedType}
use Rattle.gql_schema_types.specs.declared.types.ExtendedType.TheVariants.{Scalar, Object, Interface, Union, Enum, InputObject}
use Rattle.gql_schema_types.specs.declared.types.ObjectType.{ObjectType}
use Rattle.gql_collect.specs.Grouping.{groups_seen}
use Rattle.gql_document_types.specs.Ranks.{AreRanked}
use Rattle.gql_collect.specs.declared.group.Group.{Group as FieldsOfKey}
use Rattle.gql_resolvers.specs.Execute.{Member}
use Rattle.gql_resolvers.specs.Trail.{Trail}
use Rattle.gql_collect.specs.Plan.{field_in, fields_in, group_in, groups_from, groups_in}
use Rattle.gql_collect.specs.bridge.Plan.{Ground, AreNodes, ArePartsOf, HaveNodes, IsNodeOf, IsPlanned, IsTyped, nodes_in, parts_in, sets_below, type_in}
use Rattle.gql_collect.specs.declared.plan.Node.{Node}
use Rattle.gql_collect.specs.declared.plan.Part.{Part}
use Rattle.gql_collect.proofs.Fields.{field-at}
use Rattle.gql_collect.proofs.Nodes.{node-parts, part-nodes}
use Rattle.gql_exec.specs.Nesting.{nesting}
use Rattle.gql_exec.specs.Request.{Members}
use Rattle.gql_exec.specs.RequestWorld.{plain_world, setting_on}
use Rattle.gql_exec.proofs.Nests.{groups-below}
use Rattle.gql_exec.specs.bridge.Executed.{Executes, ExecutesGroups}
use Rattle.gql_exec.specs.Executing.{Resolving}
use Rattle.gql_exec.specs.bridge.Executing.{request_of}
use Rattle.gql_exec.specs.bridge.Planning.{ground_in}
use Rattle.gql_exec.specs.Trails.{group_of}
use Rattle.gql_exec.specs.declared.executing.Executing.{Executing}
use Rattle.gql_exec.proofs.Collecting.{views-run, view-below, views-step}
use Rattle.gql_exec.proofs.Groups.{executed-sets}
use Rattle.gql_exec.proofs.Heights.{top}
use Rattle.gql_exec.proofs.Measures.{schema_in, fragments_in, room, measure, deepest, deepest-below, group-less, groups-less}
use Rattle.gql_exec.proofs.Views.{views}

group-at : (parts : List Part) (i : ℕ) (part : Part) → slice_get parts i ≡ Some part
    → (i < length (groups_in parts)) × (group_in part ≡ get_or (groups_in parts) i (group_in part))
group-at [] i part is = absurd (let e : None ≡ Some part = is in cc)
group-at (p ∷ ps) zero part is = (omega arith, ap group_in (let e : Some p ≡ Some part = is in let same : part ≡ p = cc in same))
group-at (p ∷ ps) (suc i) part is = let rest = group-at ps i part is in (omega (arith, rest.0), rest.1)

-- the group of a part, among groups that the parts still have
pub group-there : (parts : List Part) (i : ℕ) (part : Part) (groups : List FieldsOfKey) → slice_get parts i ≡ Some part → groups_in parts ≡ groups
    → (i < length groups) × (group_in part ≡ get_or groups i (group_in part))
group-there parts i part groups is same =
    subst (λ (gs : List FieldsOfKey). (i < length gs) × (group_in part ≡ get_or gs i (group_in part))) same (group-at parts i part is)

-- an object type that a schema has under a name has that name
find-holds : {A : Type 0} (p : A → Bool) (xs : List A) (x : A) → find p xs ≡ Some x → p x ≡ true
find-holds p [] x is = absurd (let e : None ≡ Some x = is in cc)
find-holds {A} p (y ∷ ys) x is = by (p y) refl is (find-holds p ys x)
  where
    by : (b : Bool) → p y ≡ b → cond b (Some y) (find p ys) ≡ Some x → (find p ys ≡ Some x → p x ≡ true) → p x ≡ true
    by true here e rest = subst (λ z. p z ≡ true) (let f : Some y ≡ Some x = e in let same : y ≡ x = cc in same) here
    by false here e rest = rest e

pub object-typed : (schema : Schema) (name : List ℕ) (U : ObjectType) → object_of schema name ≡ Some U → IsTyped schema U
object-typed schema name U is = by (type_called name schema.types) refl is
  where
    of : (ty : ExtendedType) → type_called name schema.types ≡ Some ty → as_object ty ≡ Some U → IsTyped schema U
    of (Object it) at e =
        let same : it ≡ U = (let f : Some it ≡ Some U = e in cc) in
        let named : name ≡ it.name.text = (bytes_eq-Decides name it.name.text).0 (find-holds (is_called type_name name) schema.types (Object it) at) in
        subst (IsTyped schema) same (subst (λ k. object_of schema k ≡ Some it) named (ap (option_and_then as_object) at))
    of (Scalar it) at e = absurd (let f : None ≡ Some U = e in cc)
    of (Interface it) at e = absurd (let f : None ≡ Some U = e in cc)
    of (Union it) at e = absurd (let f : None ≡ Some U = e in cc)
    of (Enum it) at e = absurd (let f : None ≡ Some U = e in cc)
    of (InputObject it) at e = absurd (let f : None ≡ Some U = e in cc)

    by : (o : Option ExtendedType) → type_called name schema.types ≡ o → option_and_then as_object o ≡ Some U → IsTyped schema U
    by None at e = absurd (let f : None ≡ Some U = e in cc)
    by (Some ty) at e = of ty at e

abbrev ground : List Selection → ExecutableDocument → Schema → Members → Ground
ground operation document schema variables = record { operation = operation; fragments = document.fragments; schema = schema; variables = variables }

pub same-ground : (operation : List Selection) (d document : ExecutableDocument) (schema : Schema) (variables : Members) → d ≡ document
    → ground operation d schema variables ≡ ground operation document schema variables
same-ground operation d document schema variables same = ap (λ (x : ExecutableDocument). ground operation x schema variables) same

-- an execution on an object type by a plan
module _ {X : Type 0} (e : Executing) (types : X → List ℕ) (resolves : Resolving X) (U : ObjectType) (rank : ℕ → ℕ) (ranked : AreRanked (fragments_in e) rank)
    (sets : List (List Selection)) where
  -- a part among those that the execution began with
  pub record IsHere (all : List Part) (i : ℕ) (part : Part) : Type 0 where
    pub first : views (drop i (groups_in all)) ≡ group_of (group_in part) ∷ views (drop (i + 1) (groups_in all))
    pub defined : is_some (field_of (schema_in e) U.name.text (group_in part).first.now.name.text) ≡ true
    pub smaller : measure e (group_of (group_in part)).pieces (4 * top (schema_in e) + 7) < room e * deepest (fragments_in e) (groups_in all)
    pub nodes : AreNodes (ground_in e) (sets_below (group_in part)) (nodes_in part)
    pub asked : IsPlanned (ground_in e) U (field_in part)

  pub here : (all now : List Part) (i : ℕ) (part : Part) → ArePartsOf (ground_in e) U sets all → fields_in now ≡ fields_in all → HaveNodes (ground_in e) now
      → slice_get now i ≡ Some part → IsHere all i part
  here all now i part planned same have is =
      let groups = groups_in all in
      let there = group-there now i part groups is (ap groups_from same) in
      record {
        first = views-step groups i (group_in part) there.0 there.1;
        defined = (view-below (request_of e types resolves) U groups sets planned.0.groups rank ranked i (group_in part) there.0 there.1).1;
        smaller = group-less e groups i (group_in part) there.0 there.1;
        nodes = part-nodes (ground_in e) now i part have is;
        asked = field-at (IsPlanned (ground_in e) U) now i part (subst (AllByRecursion (IsPlanned (ground_in e) U)) (sym same) planned.0.planned) is;
      }

  -- the node that is there
  module _ (nodes : List Node) (i : ℕ) (node : Node) (are : AreNodes (ground_in e) sets nodes) (there : IsNodeOf U nodes i) (is : slice_get nodes i ≡ Some node) where
    one : node ≡ there.node
    one = let both : Some node ≡ Some there.node = sym is ∙ there.there in cc

    pub node-of : type_in node ≡ U
    node-of = ap type_in one ∙ there.typed

    pub node-planned : ArePartsOf (ground_in e) U sets (parts_in node)
    node-planned = subst (λ V. ArePartsOf (ground_in e) V sets (parts_in node)) node-of (node-parts (ground_in e) sets nodes i node are is)

    pub node-less : room e * deepest (fragments_in e) (groups_in (parts_in node)) < measure e sets 1
    node-less =
        let s = setting_on (request_of e types resolves) U in
        groups-less e (groups_in (parts_in node)) sets
        (deepest-below (schema_in e) U (fragments_in e) (nesting (fragments_in e) sets) (groups_in (parts_in node))
        (groups-below s rank ranked (groups_seen (groups_in (parts_in node))) sets node-planned.0.groups))

    -- its parts are executed as the sets are
    pub node-executed : (x : X) (outer : Trail) (found : Option (List Member)) (before after : List GraphQLError)
        → ExecutesGroups (plain_world (request_of e types resolves)) U x outer (views (groups_in (parts_in node))) found before after
        → Executes (plain_world (request_of e types resolves)) U x outer sets found before after
    node-executed x outer found before after executes =
        executed-sets (plain_world (request_of e types resolves)) U x outer sets (views (groups_in (parts_in node))) found before after
        (views-run (request_of e types resolves) U (groups_in (parts_in node)) sets node-planned.0.groups) executes
