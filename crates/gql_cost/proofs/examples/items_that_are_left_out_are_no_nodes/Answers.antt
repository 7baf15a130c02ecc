use Rattle.std.proofs.Common.{suc, List, [], Option, unwrap_or, ap}
use Rattle.jb_tree.specs.declared.value.Value.{Value}
use Rattle.gql_resolvers.specs.Resolved.{gives_leaf, gives_skip, no_answer, answer_then}
use Rattle.gql_cost.specs.Examples.{made_items, number, pair}
use Rattle.gql_cost.specs.Nodes.{items_nodes}
use Rattle.gql_cost.proofs.Bound.{items-Array}
use Rattle.gql_cost.proofs.examples.items_that_are_left_out_are_no_nodes.Goals as goal

pub returns : goal.returns
returns g c = λ w inside group.
    ap (λ (items : Option (List Value)).
    suc (items_nodes w inside group (answer_then (gives_leaf (number 7)) (answer_then gives_skip (answer_then (gives_leaf pair) no_answer))) (unwrap_or items [])))
    (items-Array made_items)
