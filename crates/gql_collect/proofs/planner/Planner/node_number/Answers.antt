use Rattle.std.proofs.Common.{◌≡◌, ℕ, zero, List, [], Option, Some, None, refl, sym, ◌∙◌, subst}
use Rattle.std.specs.List.{position}
use Rattle.std.proofs.lemmas.Result.{IfOk-weaker}
use Rattle.gql_collect.specs.bridge.Growth.{is_for, IsAdded}
use Rattle.gql_collect.specs.bridge.Plan.{AreNodes, IsNodeOf, ground_of, most_looks, sets_below}
use Rattle.gql_collect.specs.bridge.Ways.{Grows, Turn, turns_to}
use Rattle.gql_collect.specs.declared.plan.Node.{Node}
use Rattle.gql_collect.proofs.Growing.{grows-none}
use Rattle.gql_collect.proofs.Lists.{ok-tells}
use Rattle.gql_collect.proofs.Nodes.{found-node, added-node, added-nodes}
use Rattle.gql_collect.proofs.Ways.{grows-node}
use Rattle.gql_collect.proofs.planner.Planner.node_number.Goals as goal

pub add_node-requires : goal.add_node-requires
add_node-requires g c = record { ranked = c.requires.ranked; within = c.requires.planned zero }

pub returns-in-Some-clause-there : goal.returns-in-Some-clause-there
returns-in-Some-clause-there g c =
    let U = c.args.object_type.now in
    let number = c.in-Some.number in
    found-node (ground_of c.args.self.now) (sets_below c.args.group.now) U c.args.nodes.now number c.requires.typed c.requires.planned
    (subst (λ ns. position (is_for U.name.text) ns ≡ Some number) c.as_slice.ensures
    (subst (λ name. position (is_for name) c.as_slice.result.now ≡ Some number) c.as_str.ensures.text (sym c.number_of.ensures ∙ c.in-Some.is)))

pub returns-in-Some-clause-grows : goal.returns-in-Some-clause-grows
returns-in-Some-clause-grows g c =
    grows-none (most_looks (ground_of c.args.self.now)) c.args.steps.now c.args.steps.now (λ n. turns_to n c.args.nodes.now) (λ n. turns_to n c.args.nodes.now)
    (λ (turn : Turn). turn ≡ (c.args.object_type.now, [])) refl (λ n. refl)

-- no node is there for the name
absent : (name : List ℕ) (is : Option ℕ) (nodes lent : List Node) (text : List ℕ) → text ≡ name → lent ≡ nodes → is ≡ position (is_for text) lent → is ≡ None
    → position (is_for name) nodes ≡ None
absent name is nodes lent text named same found none =
    subst (λ ns. position (is_for name) ns ≡ None) same (subst (λ k. position (is_for k) lent ≡ None) named (sym found ∙ none))

pub returns-in-None-clause-planned : goal.returns-in-None-clause-planned
returns-in-None-clause-planned g c =
    let ground = ground_of c.args.self.now in
    let sets = sets_below c.args.group.now in
    let U = c.args.object_type.now in
    let before = c.args.nodes.now in
    let after = c.add_node.new.nodes in
    let none = absent U.name.text c.number_of.result before c.as_slice.result.now c.as_str.result.now c.as_str.ensures.text c.as_slice.ensures c.number_of.ensures c.in-None.is in
    ok-tells c.add_node.result (λ number. IsAdded ground U sets before after number) (AreNodes ground sets after)
    (λ number added. added-nodes ground sets U before after number c.requires.typed c.requires.planned none added) c.add_node.ensures.added

pub returns-in-None-clause-there : goal.returns-in-None-clause-there
returns-in-None-clause-there g c =
    let ground = ground_of c.args.self.now in
    let sets = sets_below c.args.group.now in
    let U = c.args.object_type.now in
    let before = c.args.nodes.now in
    let after = c.add_node.new.nodes in
    IfOk-weaker c.add_node.result (λ number. IsAdded ground U sets before after number) (λ number. IsNodeOf U after number)
    (λ number added. added-node ground sets U before after number added) c.add_node.ensures.added

pub returns-in-None-clause-grows : goal.returns-in-None-clause-grows
returns-in-None-clause-grows g c =
    let ground = ground_of c.args.self.now in
    let most = most_looks ground in
    let U = c.args.object_type.now in
    let before = c.args.nodes.now in
    let after = c.add_node.new.nodes in
    let was = c.args.steps.now in
    let is = c.add_node.new.steps in
    ok-tells c.add_node.result (λ number. IsAdded ground U (sets_below c.args.group.now) before after number)
    (Grows most was is (λ n. turns_to n before) (λ n. turns_to n after) (λ (turn : Turn). turn ≡ (U, [])))
    (λ number added. grows-node most was is U before after added.node c.add_node.ensures.rises c.add_node.ensures.looks added.typed added.fresh added.added)
    c.add_node.ensures.added
