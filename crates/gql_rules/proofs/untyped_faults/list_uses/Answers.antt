use Rattle.std.proofs.Common.{◌≡◌, ◌++◌, List, OnOk, subst}
use Rattle.gql_diag_messages.specs.declared.diagnostic_data.DiagnosticData.{DiagnosticData}
use Rattle.gql_rules.proofs.untyped_faults.list_uses.Goals as goal
use Rattle.gql_rules.specs.VariableFaults.{AreVariableFaults}
use Rattle.gql_schema_types.specs.declared.schema.Schema.{Schema}

pub returns : goal.returns
returns c =
    let old = c.args.faults.now in
    let new = c.list_variable_faults.new.faults in
    subst
    (λ (schema : Schema). OnOk c.list_variable_faults.result ((told : List DiagnosticData) × AreVariableFaults schema c.args.document.now told × (new ≡ old ++ told)))
    c.in_ok-schema.ensures c.list_variable_faults.ensures
