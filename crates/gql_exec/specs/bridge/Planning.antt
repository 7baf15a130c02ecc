-- What plans of an execution are made from.
use Rattle.gql_collect.specs.bridge.Plan.{Ground}
use Rattle.gql_exec.specs.declared.executing.Executing.{Executing}

abbrev pub ground_in : Executing → Ground
ground_in executing =
    record {
      operation = executing.operation.now.selection_set.selections;
      fragments = executing.request.document.now.fragments;
      schema = executing.request.schema.now;
      variables = executing.variables.now;
    }
