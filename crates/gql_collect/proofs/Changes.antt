-- A part whose nodes have changed, and a node whose parts have.
use Rattle.std.proofs.Common.{rules, ◌≡◌, List}
use Rattle.gql_collect.specs.Plan.{field_in}
use Rattle.gql_collect.specs.bridge.Plan.{type_in, parts_in, nodes_in}
use Rattle.gql_collect.specs.declared.plan.Node.{Node, out-Node, roll-Node, the_lemmas}
use Rattle.gql_collect.specs.declared.plan.Part.{Part, out-Part, roll-Part}

abbrev pub with_nodes : Part → List Node → Part
with_nodes part nodes = roll-Part (record { field = (out-Part part).field; nodes = nodes })

abbrev pub with_parts : Node → List Part → Node
with_parts node parts = roll-Node (record { object_type = (out-Node node).object_type; parts = parts })

pub changed-field : (part : Part) (nodes : List Node) → field_in (with_nodes part nodes) ≡ field_in part
changed-field part nodes = search (rules, the_lemmas)

pub changed-nodes : (part : Part) (nodes : List Node) → nodes_in (with_nodes part nodes) ≡ nodes
changed-nodes part nodes = search (rules, the_lemmas)

pub changed-type : (node : Node) (parts : List Part) → type_in (with_parts node parts) ≡ type_in node
changed-type node parts = search (rules, the_lemmas)

pub changed-parts : (node : Node) (parts : List Part) → parts_in (with_parts node parts) ≡ parts
changed-parts node parts = search (rules, the_lemmas)
