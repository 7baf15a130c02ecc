use Rattle.std.proofs.Common.{List, ◌++◌, ap, ◌∙◌}
use Rattle.std.specs.List.{flat_map}
use Rattle.gql_document_types.specs.declared.operation.Operation.{Operation}
use Rattle.gql_rules_nodes.specs.Nodes.{nodes}
use Rattle.gql_rules.proofs.UntypedLayers.{added}
use Rattle.gql_rules.proofs.untyped_faults.other_faults.Goals as goal
use Rattle.gql_rules.specs.UniqueArguments.{node_arguments}
use Rattle.gql_rules.specs.UniqueVariables.{unique_variables}

pub returns : goal.returns
returns c =
    let document = c.args.document.now in
    let unused = c.in_ok-list_unused_fragments.ensures in
    let uses = c.in_ok-list_uses.ensures in
    record {
      unused = unused.0;
      are_unused = unused.1;
      variables = uses.0;
      are_variables = uses.1;
      whole =
          added c.new-faults.result c.list_unused_fragments.new.faults c.list_uses.new.faults c.list_unique_variables.new.faults c.list_unique_arguments.new.faults unused.0
          uses.0 (unique_variables document.operations) (flat_map node_arguments (nodes document)) c.new-faults.ensures unused.2 uses.2
          (c.in_ok-list_unique_variables.ensures ∙ ap (λ (l : List Operation). c.list_uses.new.faults ++ unique_variables l) c.as_slice.ensures)
          c.in_ok-list_unique_arguments.ensures;
    }
