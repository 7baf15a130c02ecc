use Rattle.std.proofs.Common.{◌≡◌, drop}
use Rattle.gql_cst.specs.bridge.Forest.{forest}
use Rattle.gql_ast_base.specs.Parts.{first}
use Rattle.gql_ast_base.specs.OperationTypes.{operation_type_of}
use Rattle.gql_ast_base.proofs.operation_type.operation_type_in.Given as goal

abbrev pub invariant-loop-node : goal.invariant-loop-node
invariant-loop-node l = first (operation_type_of l.text) (forest (drop l.node-index l.nodes)) ≡ first (operation_type_of l.text) (forest l.nodes)
