-- Nodes of a plan: one that is there, one that has grown, one more.
use Rattle.std.proofs.Common.{◌≡◌, ℕ, zero, suc, Bool, true, false, cond, List, [], ◌∷◌, ◌++◌, map, Some, None, slice_get, slice_set, inl, inr, refl, sym, ap, ◌∙◌, subst}
use Rattle.std.specs.List.{AllByRecursion, find, position}
use Rattle.std.proofs.lemmas.Slice.Eq.{bytes_eq-Decides}
use Rattle.gql_document_types.specs.declared.selection.Selection.{Selection}
use Rattle.gql_schema_types.specs.Schemas.{object_of}
use Rattle.gql_schema_types.specs.declared.schema.Schema.{Schema}
use Rattle.gql_schema_types.specs.declared.types.ObjectType.{ObjectType}
use Rattle.gql_schema_types.proofs.Lookups.{missing}
use Rattle.gql_collect.specs.Collected.{setting}
use Rattle.gql_collect.specs.Grouping.{groups_seen}
use Rattle.gql_collect.specs.Groups.{SameGroups, applying}
use Rattle.gql_collect.specs.declared.group.Group.{Group}
use Rattle.gql_collect.specs.bridge.Growth.{is_for, AreBegun, IsAdded}
use Rattle.gql_collect.specs.Lists.{IsOneOf, AreApart}
use Rattle.gql_collect.specs.Plan.{group_in, fields_in, groups_in, groups_from}
use Rattle.gql_collect.specs.bridge.Plan.{Ground, type_in, parts_in, nodes_in, names_in, sets_below, IsTyped, IsWithin, IsPlanned, AreCollected, AreNodesTo, AreNodes, HaveNodes, ArePartsOf, IsNodeOf}
use Rattle.gql_collect.specs.declared.plan.Node.{Node}
use Rattle.gql_collect.specs.declared.plan.Part.{Part}
use Rattle.gql_collect.specs.declared.planned_field.PlannedField.{PlannedField}
use Rattle.gql_collect.proofs.Changes.{with_nodes, with_parts, changed-field, changed-nodes, changed-type, changed-parts}
use Rattle.gql_collect.proofs.Lists.{all-at, all-set, all-more, at-end, at-position, map-set}

-- two object types of a schema that have one name
pub one-type : (schema : Schema) (U V : ObjectType) → IsTyped schema U → IsTyped schema V → U.name.text ≡ V.name.text → U ≡ V
one-type schema U V typed other same =
    let both : Some U ≡ Some V = sym typed ∙ ap (object_of schema) same ∙ other in
    cc

-- a name that no node's type has
names-new : (name : List ℕ) (nodes : List Node) → find (is_for name) nodes ≡ None → ¬ (IsOneOf name (names_in nodes))
names-new name [] none one = absurd one
names-new name (node ∷ nodes) none one = by (is_for name node) refl (names-new name nodes) none one
  where
    by : (b : Bool) → is_for name node ≡ b → (find (is_for name) nodes ≡ None → ¬ (IsOneOf name (names_in nodes))) → cond b (Some node) (find (is_for name) nodes) ≡ None
        → IsOneOf name (names_in (node ∷ nodes)) → ⊥
    by true here rest e one = let f : Some node ≡ None = e in cc
    by false here rest e (inl same) = let f : true ≡ false = sym ((bytes_eq-Decides name (type_in node).name.text).1 same) ∙ here in cc
    by false here rest e (inr later) = rest e later

apart-more : (names : List (List ℕ)) (name : List ℕ) → AreApart names → ¬ (IsOneOf name names) → AreApart (names ++ name ∷ [])
apart-more [] name apart new = (λ one. one, tt)
apart-more (n ∷ ns) name apart new = (
  λ one. not_last ns one apart.0,
  apart-more ns name apart.1 (λ one. new (inr one)),
)
  where
    not_last : (ms : List (List ℕ)) → IsOneOf n (ms ++ name ∷ []) → ¬ (IsOneOf n ms) → ⊥
    not_last [] (inl same) none = new (inl (sym same))
    not_last [] (inr one) none = absurd one
    not_last (m ∷ ms) (inl same) none = none (inl same)
    not_last (m ∷ ms) (inr one) none = not_last ms one (λ later. none (inr later))

module _ (ground : Ground) where
  -- what a node in its place must be
  abbrev pub IsNodeTo : ℕ → List (List Selection) → Node → Type 0
  IsNodeTo n sets node =
      IsTyped ground.schema (type_in node)
      × AreCollected ground (type_in node) sets (parts_in node)
      × AllByRecursion (λ part. AreNodesTo ground n (sets_below (group_in part)) (nodes_in part)) (parts_in node)

  pub node-typed : (sets : List (List Selection)) (nodes : List Node) (i : ℕ) (node : Node) → AreNodes ground sets nodes → slice_get nodes i ≡ Some node
      → IsTyped ground.schema (type_in node)
  node-typed sets nodes i node are is = (all-at (IsNodeTo zero sets) nodes i node (are (suc zero)).2 is).0

  pub node-parts : (sets : List (List Selection)) (nodes : List Node) (i : ℕ) (node : Node) → AreNodes ground sets nodes → slice_get nodes i ≡ Some node
      → ArePartsOf ground (type_in node) sets (parts_in node)
  node-parts sets nodes i node are is =
      ((all-at (IsNodeTo zero sets) nodes i node (are (suc zero)).2 is).1, λ n. (all-at (IsNodeTo n sets) nodes i node (are (suc n)).2 is).2)

  pub none : (sets : List (List Selection)) → IsWithin ground sets → AreNodes ground sets []
  none sets within zero = within
  none sets within (suc n) = (within, tt, tt)

  names-more : (nodes : List Node) (node : Node) → names_in (nodes ++ node ∷ []) ≡ names_in nodes ++ (type_in node).name.text ∷ []
  names-more [] node = refl
  names-more (n ∷ ns) node = ap (λ names. (type_in n).name.text ∷ names) (names-more ns node)

  pub one-more : (sets : List (List Selection)) (nodes : List Node) (node : Node) → AreNodes ground sets nodes → ¬ (IsOneOf (type_in node).name.text (names_in nodes))
      → IsTyped ground.schema (type_in node) → ArePartsOf ground (type_in node) sets (parts_in node) → AreNodes ground sets (nodes ++ node ∷ [])
  one-more sets nodes node are new typed parts zero = are zero
  one-more sets nodes node are new typed parts (suc n) = (
    are zero,
    subst AreApart (sym (names-more nodes node)) (apart-more (names_in nodes) (type_in node).name.text (are (suc n)).1 new),
    all-more (IsNodeTo n sets) nodes node (are (suc n)).2 (typed, parts.0, parts.1 n),
  )

  pub one-grown : (sets : List (List Selection)) (nodes : List Node) (i : ℕ) (old node : Node) → AreNodes ground sets nodes → slice_get nodes i ≡ Some old
      → type_in node ≡ type_in old → ArePartsOf ground (type_in node) sets (parts_in node) → AreNodes ground sets (slice_set nodes i node)
  one-grown sets nodes i old node are is same parts zero = are zero
  one-grown sets nodes i old node are is same parts (suc n) = (
    are zero,
    subst AreApart (sym (map-set (λ it. (type_in it).name.text) nodes i old node is (ap (λ (U : ObjectType). U.name.text) same))) (are (suc n)).1,
    all-set (IsNodeTo n sets) nodes i node (are (suc n)).2 (subst (IsTyped ground.schema) (sym same) (node-typed sets nodes i old are is), parts.0, parts.1 n),
  )

  -- the nodes of a part
  abbrev pub HasNodesTo : ℕ → Part → Type 0
  HasNodesTo n part = AreNodesTo ground n (sets_below (group_in part)) (nodes_in part)

  pub part-nodes : (parts : List Part) (i : ℕ) (part : Part) → HaveNodes ground parts → slice_get parts i ≡ Some part
      → AreNodes ground (sets_below (group_in part)) (nodes_in part)
  part-nodes parts i part have is n = all-at (HasNodesTo n) parts i part (have n) is

  pub part-grown : (parts : List Part) (i : ℕ) (part : Part) → HaveNodes ground parts → AreNodes ground (sets_below (group_in part)) (nodes_in part)
      → HaveNodes ground (slice_set parts i part)
  part-grown parts i part have are n = all-set (HasNodesTo n) parts i part (have n) (are n)

  -- nodes of a part have changed, all of what is selected below its group
  pub part-with : (parts : List Part) (i : ℕ) (part : Part) (nodes : List Node) → HaveNodes ground parts → AreNodes ground (sets_below (group_in part)) nodes
      → HaveNodes ground (slice_set parts i (with_nodes part nodes))
  part-with parts i part nodes have are =
      part-grown parts i (with_nodes part nodes) have
      (subst (λ ns. AreNodes ground (sets_below (group_in (with_nodes part nodes))) ns) (sym (changed-nodes part nodes))
      (subst (λ (field : PlannedField). AreNodes ground (sets_below field.group) nodes) (sym (changed-field part nodes)) are))

  -- the groups of these sets on an object type
  abbrev pub HasGroups : ObjectType → List (List Selection) → List Group → Type 0
  HasGroups U sets groups = SameGroups (groups_seen groups) (applying (setting ground.fragments ground.schema U ground.variables) sets)

  -- parts that are the same but for their nodes
  pub same-collected : (U : ObjectType) (sets : List (List Selection)) (parts others : List Part) → fields_in parts ≡ fields_in others
      → AreCollected ground U sets others → AreCollected ground U sets parts
  same-collected U sets parts others same are = record {
    groups = subst (λ (fields : List PlannedField). HasGroups U sets (groups_from fields)) (sym same) are.groups;
    planned = subst (AllByRecursion (IsPlanned ground U)) (sym same) are.planned;
  }

  -- nodes below the parts of a node have changed, and nothing else of the parts
  pub node-with : (sets : List (List Selection)) (nodes : List Node) (i : ℕ) (node : Node) (parts : List Part) → AreNodes ground sets nodes → slice_get nodes i ≡ Some node
      → fields_in parts ≡ fields_in (parts_in node) → HaveNodes ground parts → AreNodes ground sets (slice_set nodes i (with_parts node parts))
  node-with sets nodes i node parts are is same have =
      let was = node-parts sets nodes i node are is in
      let new = with_parts node parts in
      one-grown sets nodes i node new are is (changed-type node parts)
      (subst (λ U. ArePartsOf ground U sets (parts_in new)) (sym (changed-type node parts))
      (subst (λ (ps : List Part). ArePartsOf ground (type_in node) sets ps) (sym (changed-parts node parts))
      (same-collected (type_in node) sets parts (parts_in node) same was.0, have)))

  -- there is room for what is selected below each group
  abbrev pub AreWithin : List Group → Type 0
  AreWithin groups = AllByRecursion (λ (group : Group). IsWithin ground (sets_below group)) groups

  fresh-nodes : (n : ℕ) (parts : List Part) → AllByRecursion (λ part. nodes_in part ≡ []) parts → AreWithin (groups_in parts) → AllByRecursion (HasNodesTo n) parts
  fresh-nodes n [] all within = tt
  fresh-nodes n (part ∷ parts) all within = (
    subst (λ nodes. AreNodesTo ground n (sets_below (group_in part)) nodes) (sym all.0) (none (sets_below (group_in part)) within.0 n),
    fresh-nodes n parts all.1 within.1,
  )

  -- groups as parts that have no nodes
  pub begun-parts : (U : ObjectType) (sets : List (List Selection)) (groups : List Group) (parts : List Part)
      → HasGroups U sets groups → AreWithin groups → AreBegun ground U groups parts → ArePartsOf ground U sets parts
  begun-parts U sets groups parts same within begun = (
    record {
      groups = subst (HasGroups U sets) (sym begun.same) same;
      planned = begun.planned;
    },
    λ n. fresh-nodes n parts begun.fresh (subst AreWithin (sym begun.same) within),
  )

  -- a node that is found by the name of its type
  pub found-node : (sets : List (List Selection)) (U : ObjectType) (nodes : List Node) (number : ℕ) → IsTyped ground.schema U → AreNodes ground sets nodes
      → position (is_for U.name.text) nodes ≡ Some number → IsNodeOf U nodes number
  found-node sets U nodes number typed are is =
      let found = at-position (is_for U.name.text) nodes number is in
      let named = (bytes_eq-Decides U.name.text (type_in found.0).name.text).0 found.2 in
      record {
        node = found.0;
        there = found.1;
        typed = one-type ground.schema (type_in found.0) U (node-typed sets nodes number found.0 are found.1) typed (sym named);
      }

  -- a node that was added
  pub added-node : (sets : List (List Selection)) (U : ObjectType) (before after : List Node) (number : ℕ) → IsAdded ground U sets before after number → IsNodeOf U after number
  added-node sets U before after number added = record {
    node = added.node;
    there = subst (λ nodes. slice_get nodes number ≡ Some added.node) (sym added.added)
        (subst (λ i. slice_get (before ++ added.node ∷ []) i ≡ Some added.node) (sym added.last) (at-end before added.node));
    typed = added.typed;
  }

  pub added-nodes : (sets : List (List Selection)) (U : ObjectType) (before after : List Node) (number : ℕ) → IsTyped ground.schema U → AreNodes ground sets before
      → position (is_for U.name.text) before ≡ None → IsAdded ground U sets before after number → AreNodes ground sets after
  added-nodes sets U before after number typed are none added =
      subst (AreNodes ground sets) (sym added.added)
      (one-more sets before added.node are
      (subst (λ V. ¬ (IsOneOf V.name.text (names_in before))) (sym added.typed) (names-new U.name.text before (missing (is_for U.name.text) before none)))
      (subst (IsTyped ground.schema) (sym added.typed) typed)
      (subst (λ V. ArePartsOf ground V sets (parts_in added.node)) (sym added.typed) added.planned))

-- a group more as a part
pub begun-more : (parts : List Part) (part : Part) (group : Group) (left rest all : List Group) → group_in part ≡ group → left ≡ group ∷ rest → groups_in parts ++ left ≡ all
    → groups_in (parts ++ part ∷ []) ++ rest ≡ all
begun-more [] part group left rest all is split same = ap (λ g. g ∷ rest) is ∙ sym split ∙ same
begun-more (p ∷ ps) part group left rest all is split same =
    ap (λ gs. group_in p ∷ gs) (begun-more ps part group left rest (groups_in ps ++ left) is split refl) ∙ same
