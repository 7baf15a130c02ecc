-- How the ways of a plan grow: a node more, and a node or a part that has grown.
use Rattle.std.proofs.Common.{arith, ◌≡◌, ◌≤◌, ◌+◌, ◌*◌, ◌⊎◌, inl, inr, ℕ, zero, suc, List, [], ◌∷◌, ◌++◌, map, length, length-append, Some, slice_get, slice_set, refl, sym, ap, ◌∙◌, subst}
use Rattle.std.specs.List.{flat_map}
use Rattle.std.proofs.Math.Nat.{add-mul}
use Rattle.std.proofs.lemmas.List.{length-map}
use Rattle.std.proofs.lemmas.List.Concat.{flat_map-append}
use Rattle.gql_schema_types.specs.declared.types.ObjectType.{ObjectType}
use Rattle.gql_collect.specs.Groups.{response_key}
use Rattle.gql_collect.specs.bridge.Growth.{AreFresh}
use Rattle.gql_collect.specs.Lists.{IsOneOf}
use Rattle.gql_collect.specs.bridge.Plan.{nodes_in, parts_in, type_in}
use Rattle.gql_collect.specs.Ways.{Way}
use Rattle.gql_collect.specs.bridge.Ways.{Turn, key_in, part_ways, node_turns, turns_to, ways_to, Grows, TurnsTo}
use Rattle.gql_collect.specs.declared.plan.Node.{Node}
use Rattle.gql_collect.specs.declared.plan.Part.{Part}
use Rattle.gql_collect.specs.declared.planned_field.PlannedField.{PlannedField}
use Rattle.gql_collect.proofs.Changes.{with_nodes, with_parts, changed-field, changed-nodes, changed-type, changed-parts}
use Rattle.gql_collect.proofs.Joined.{one-either, one-map, map-one, joined-length, joined-was, joined-at}

-- lists that were as long with other lists beside them, where each item counts for so much
scaled : (most a b c d before after : ℕ) → a + b ≡ c + d → after + b * most ≤ before + d * most → after + c * most ≤ before + a * most
scaled most a b c d before after same room =
    omega (arith, add-mul a b most, add-mul c d most, ap (λ n. n * most) same, room)

-- ---- a node of a type that was not there

-- parts without nodes have no ways
pub fresh-ways : (n : ℕ) (parts : List Part) → AreFresh parts → ways_to n parts ≡ []
fresh-ways n [] fresh = refl
fresh-ways n (part ∷ parts) fresh =
    ap (λ nodes. map (λ (turn : Turn). (key_in part, turn.0) ∷ turn.1) (turns_to n nodes) ++ ways_to n parts) fresh.0
    ∙ ap (λ turns. map (λ (turn : Turn). (key_in part, turn.0) ∷ turn.1) turns ++ ways_to n parts) (no-turns n)
    ∙ fresh-ways n parts fresh.1
  where
    no-turns : (n : ℕ) → turns_to n [] ≡ []
    no-turns zero = refl
    no-turns (suc n) = refl

added-turns : (n : ℕ) (nodes : List Node) (node : Node) → AreFresh (parts_in node)
    → turns_to (suc n) (nodes ++ node ∷ []) ≡ turns_to (suc n) nodes ++ (type_in node, []) ∷ []
added-turns n nodes node fresh =
    flat_map-append (node_turns (turns_to n)) nodes (node ∷ [])
    ∙ ap (λ ways. turns_to (suc n) nodes ++ (map (λ (way : Way). (type_in node, way)) ([] ∷ ways) ++ [])) (fresh-ways n (parts_in node) fresh)

pub grows-node : (most before after : ℕ) (U : ObjectType) (nodes now : List Node) (node : Node) → before ≤ after → after ≤ before + most → type_in node ≡ U
    → AreFresh (parts_in node) → now ≡ nodes ++ node ∷ []
    → Grows most before after (λ n. turns_to n nodes) (λ n. turns_to n now) (λ turn. turn ≡ (U, []))
grows-node most before after U nodes now node rises few typed fresh added = record {
  rises = rises;
  levels = 1;
  looks = λ n deep. looks n deep;
  holds = λ n turn is. holds n turn is;
}
  where
    same : (n : ℕ) → turns_to (suc n) now ≡ turns_to (suc n) nodes ++ (U, []) ∷ []
    same n = ap (turns_to (suc n)) added ∙ added-turns n nodes node fresh ∙ ap (λ (V : ObjectType). turns_to (suc n) nodes ++ (V, []) ∷ []) typed

    looks : (n : ℕ) → 1 ≤ n → after + length (turns_to n nodes) * most ≤ before + length (turns_to n now) * most
    looks zero deep = absurd (omega (arith, deep))
    looks (suc n) deep =
        let old = length (turns_to (suc n) nodes) in
        omega (
          arith,
          few,
          add-mul old 1 most,
          ap (λ l. l * most) (ap (λ (turns : List Turn). length turns) (same n) ∙ length-append (turns_to (suc n) nodes) ((U, []) ∷ [])),
        )

    holds : (n : ℕ) (turn : Turn) → IsOneOf turn (turns_to n now) → IsOneOf turn (turns_to n nodes) ⊎ (turn ≡ (U, []))
    holds zero turn is = absurd is
    holds (suc n) turn is = elim (one-either turn (turns_to (suc n) nodes) ((U, []) ∷ []) (subst (IsOneOf turn) (same n) is)) [
      | inl was ↦ inl was
      | inr (inl new) ↦ inr new
      | inr (inr none) ↦ absurd none
    ]

-- ---- a node whose parts have grown

turns-with : (n : ℕ) (node : Node) (parts : List Part)
    → node_turns (turns_to n) (with_parts node parts) ≡ map (λ (way : Way). (type_in node, way)) ([] ∷ ways_to n parts)
turns-with n node parts =
    ap (λ (V : ObjectType). map (λ (way : Way). (V, way)) ([] ∷ ways_to n (parts_in (with_parts node parts)))) (changed-type node parts)
    ∙ ap (λ ps. map (λ (way : Way). (type_in node, way)) ([] ∷ ways_to n ps)) (changed-parts node parts)

module _ (most before after : ℕ) (nodes : List Node) (i : ℕ) (node : Node) (parts : List Part) (there : slice_get nodes i ≡ Some node) where
  abbrev now : List Node
  now = slice_set nodes i (with_parts node parts)

  turns-length : (n : ℕ) → length (turns_to (suc n) now) + length (ways_to n (parts_in node)) ≡ length (turns_to (suc n) nodes) + length (ways_to n parts)
  turns-length n =
      let to : Way → Turn = λ way. (type_in node, way) in
      omega (
        arith,
        joined-length (node_turns (turns_to n)) nodes i node (with_parts node parts) there,
        ap (λ (turns : List Turn). length turns) (turns-with n node parts),
        length-map (ways_to n parts) to,
        length-map (ways_to n (parts_in node)) to,
      )

  module _ (Holds : Way → Type 0) (grows : Grows most before after (λ n. ways_to n (parts_in node)) (λ n. ways_to n parts) Holds) where
    node-looks : (n : ℕ) → suc grows.levels ≤ n → after + length (turns_to n nodes) * most ≤ before + length (turns_to n now) * most
    node-looks zero deep = absurd (omega (arith, deep))
    node-looks (suc n) deep =
        scaled most (length (turns_to (suc n) now)) (length (ways_to n (parts_in node))) (length (turns_to (suc n) nodes)) (length (ways_to n parts)) before after
        (turns-length n) (grows.looks n (omega (arith, deep)))

    way-holds : (n : ℕ) (turn : Turn) (way : Way) → IsOneOf way ([] ∷ ways_to n parts) → turn ≡ (type_in node, way)
        → IsOneOf turn (turns_to (suc n) nodes) ⊎ TurnsTo (type_in node) Holds turn
    way-holds n turn way (inl none) is =
        inl (joined-at (node_turns (turns_to n)) nodes i node turn there (inl (is ∙ ap (λ (w : Way). (type_in node, w)) none)))
    way-holds n turn way (inr some) is = elim (grows.holds n way some) [
      | inl was ↦
          inl (joined-at (node_turns (turns_to n)) nodes i node turn there
          (inr (subst (λ t. IsOneOf t (map (λ (w : Way). (type_in node, w)) (ways_to n (parts_in node)))) (sym is)
          (one-map (λ (w : Way). (type_in node, w)) way (ways_to n (parts_in node)) was))))
      | inr holds ↦ inr (ap (λ (t : Turn). t.0) is, subst Holds (sym (ap (λ (t : Turn). t.1) is)) holds)
    ]

    node-holds : (n : ℕ) (turn : Turn) → IsOneOf turn (turns_to n now) → IsOneOf turn (turns_to n nodes) ⊎ TurnsTo (type_in node) Holds turn
    node-holds zero turn is = absurd is
    node-holds (suc n) turn is = elim (joined-was (node_turns (turns_to n)) nodes i node (with_parts node parts) turn there is) [
      | inl was ↦ inl was
      | inr new ↦
          let found = map-one (λ (way : Way). (type_in node, way)) turn ([] ∷ ways_to n parts) (subst (IsOneOf turn) (turns-with n node parts) new) in
          way-holds n turn found.0 found.1 found.2
    ]

    pub grows-parts : Grows most before after (λ n. turns_to n nodes) (λ n. turns_to n now) (TurnsTo (type_in node) Holds)
    grows-parts = record {
      rises = grows.rises;
      levels = suc grows.levels;
      looks = node-looks;
      holds = node-holds;
    }

-- ---- a part whose nodes have grown

ways-with : (n : ℕ) (part : Part) (nodes : List Node)
    → part_ways (turns_to n) (with_nodes part nodes) ≡ map (λ (turn : Turn). (key_in part, turn.0) ∷ turn.1) (turns_to n nodes)
ways-with n part nodes =
    ap (λ (field : PlannedField). map (λ (turn : Turn). (response_key field.group.first.now, turn.0) ∷ turn.1) (turns_to n (nodes_in (with_nodes part nodes)))) (changed-field part nodes)
    ∙ ap (λ ns. map (λ (turn : Turn). (key_in part, turn.0) ∷ turn.1) (turns_to n ns)) (changed-nodes part nodes)

-- a way that begins with this key, and goes on by a turn of which this holds
abbrev pub GoesBy : List ℕ → (Turn → Type 0) → Way → Type 0
GoesBy key Holds way = (turn : Turn) × (way ≡ (key, turn.0) ∷ turn.1) × Holds turn

module _ (most before after : ℕ) (parts : List Part) (i : ℕ) (part : Part) (nodes : List Node) (there : slice_get parts i ≡ Some part) where
  abbrev parts_now : List Part
  parts_now = slice_set parts i (with_nodes part nodes)

  ways-length : (n : ℕ) → length (ways_to n parts_now) + length (turns_to n (nodes_in part)) ≡ length (ways_to n parts) + length (turns_to n nodes)
  ways-length n =
      omega (
        arith,
        joined-length (part_ways (turns_to n)) parts i part (with_nodes part nodes) there,
        ap (λ (ways : List Way). length ways) (ways-with n part nodes),
        length-map (turns_to n nodes) (λ (turn : Turn). (key_in part, turn.0) ∷ turn.1),
        length-map (turns_to n (nodes_in part)) (λ (turn : Turn). (key_in part, turn.0) ∷ turn.1),
      )

  module _ (Holds : Turn → Type 0) (grows : Grows most before after (λ n. turns_to n (nodes_in part)) (λ n. turns_to n nodes) Holds) where
    part-holds : (n : ℕ) (way : Way) → IsOneOf way (ways_to n parts_now) → IsOneOf way (ways_to n parts) ⊎ GoesBy (key_in part) Holds way
    part-holds n way is = elim (joined-was (part_ways (turns_to n)) parts i part (with_nodes part nodes) way there is) [
      | inl was ↦ inl was
      | inr new ↦
          let found = map-one (λ (turn : Turn). (key_in part, turn.0) ∷ turn.1) way (turns_to n nodes) (subst (IsOneOf way) (ways-with n part nodes) new) in
          elim (grows.holds n found.0 found.1) [
            | inl was ↦
                inl (joined-at (part_ways (turns_to n)) parts i part way there
                (subst (λ t. IsOneOf t (part_ways (turns_to n) part)) (sym found.2)
                (one-map (λ (turn : Turn). (key_in part, turn.0) ∷ turn.1) found.0 (turns_to n (nodes_in part)) was)))
            | inr holds ↦ inr (found.0, found.2, holds)
          ]
    ]

    pub grows-nodes : Grows most before after (λ n. ways_to n parts) (λ n. ways_to n parts_now) (GoesBy (key_in part) Holds)
    grows-nodes = record {
      rises = grows.rises;
      levels = grows.levels;
      looks = λ n deep.
          scaled most (length (ways_to n parts_now)) (length (turns_to n (nodes_in part))) (length (ways_to n parts)) (length (turns_to n nodes)) before after
          (ways-length n) (grows.looks n deep);
      holds = part-holds;
    }
