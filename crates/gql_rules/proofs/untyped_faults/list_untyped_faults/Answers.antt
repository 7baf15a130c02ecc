use Rattle.std.proofs.Common.{◌++◌, ap, ◌∙◌}
use Rattle.gql_document.specs.DistinctDefinitions.{definition_faults}
use Rattle.gql_rules.proofs.UntypedLayers.{of_definitions}
use Rattle.gql_rules.proofs.untyped_faults.list_untyped_faults.Goals as goal

pub returns : goal.returns
returns c =
    let definitions = c.args.definitions.now in
    of_definitions definitions c.in_ok-distinct.distinct c.distinct_definitions.new.faults c.in_ok-distinct.ensures.definitions
    (c.in_ok-distinct.ensures.faults ∙ ap (λ l. l ++ definition_faults definitions) c.new-faults.ensures)
    c.faults_unless_any.result c.faults_unless_any.ensures
