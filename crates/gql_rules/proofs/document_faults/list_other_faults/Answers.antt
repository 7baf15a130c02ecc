use Rattle.std.proofs.Common.{◌++◌, refl, ap, ◌∙◌, append_assoc}
use Rattle.std.proofs.lemmas.Result.{on_ok_weaker}
use Rattle.gql_rules.proofs.document_faults.list_other_faults.Goals as goal
use Rattle.gql_rules_nodes.specs.DocumentNodes.{document_nodes_faults}

pub returns : goal.returns
returns c =
    let nodes = document_nodes_faults c.args.schema.now c.args.document.now in
    let unused = c.in_ok-list_unused_fragments.ensures in
    let variables = c.in_ok-list_variable_faults.ensures in
    let old = c.args.faults.now in
    on_ok_weaker c.list_conflicting_fields.result
    (λ conflicts. (
      ((nodes ++ unused.0) ++ variables.0) ++ conflicts.0,
      record {
        unused = unused.0;
        are_unused = unused.1;
        variables = variables.0;
        are_variables = variables.1;
        conflicts = conflicts.0;
        are_conflicts = conflicts.1;
        whole = refl;
      },
      conflicts.2
          ∙ ap (λ l. l ++ conflicts.0) (variables.2
          ∙ ap (λ l. l ++ variables.0) (unused.2 ∙ ap (λ l. l ++ unused.0) c.in_ok-list_document_nodes.ensures ∙ append_assoc old nodes unused.0)
          ∙ append_assoc old (nodes ++ unused.0) variables.0)
          ∙ append_assoc old ((nodes ++ unused.0) ++ variables.0) conflicts.0,
    ))
    c.list_conflicting_fields.ensures
