use Rattle.std.proofs.Common.{ap, ◌∙◌, arith}
use Rattle.gql_graph.specs.bridge.Reversing.{no_edges}
use Rattle.gql_graph.proofs.Turned.{none_turned, one_turned, all_turned}
use Rattle.gql_graph.proofs.reverse.reverse.Goals as goal

pub loop-node-init : goal.loop-node-init
loop-node-init c = none_turned c.args.graph.now c.in_ok-made.made (c.in_ok-made.ensures ∙ ap no_edges c.len.ensures)

pub loop-node-preserved : goal.loop-node-preserved
loop-node-preserved c = one_turned c.args.graph.now c.loop-node.made c.add_all.new.made c.loop-node.node c.targets.result.now c.loop-node.invariant c.targets.ensures c.in_ok-add_all.ensures

pub returns : goal.returns
returns c = all_turned c.args.graph.now c.loop-node.made c.loop-node.node (omega arith) c.loop-node.invariant
