use Rattle.std.proofs.Common.{◌++◌, ap, ◌∙◌}
use Rattle.gql_schema_rules.proofs.schema_faults.schema_faults.Goals as goal

pub returns : goal.returns
returns c =
    let interfaces = c.in_ok-list_recursive_interfaces.ensures in
    let inputs = c.in_ok-list_recursive_input_objects.ensures in
    let directives = c.in_ok-list_recursive_directives.ensures in
    record {
      interfaces = interfaces.0;
      are_interfaces = interfaces.1;
      input_objects = inputs.0;
      are_input_objects = inputs.1;
      directives = directives.0;
      are_directives = directives.1;
      whole = directives.2 ∙ ap (λ l. l ++ directives.0) (inputs.2 ∙ ap (λ l. l ++ inputs.0) (interfaces.2 ∙ ap (λ l. l ++ interfaces.0) c.in_ok-faults.ensures));
    }
