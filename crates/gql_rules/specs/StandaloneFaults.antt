-- All that is wrong with a document whatever the schema: sections 5.1.1, 5.2, 5.4.2, 5.5 and 5.8 of GraphQL October 2021.
use Rattle.std.specs.Prelude.{◌≡◌, ◌⊎◌, List, ◌++◌}
use Rattle.gql_ast.specs.declared.document.Document.{Document}
use Rattle.gql_diag.specs.List.{IsStableSort}
use Rattle.gql_diag.specs.Order.{list_order}
use Rattle.gql_diag_messages.specs.declared.diagnostic_data.DiagnosticData.{DiagnosticData}
use Rattle.gql_rules.specs.UntypedFaults.{AreUntypedFaults}
use Rattle.gql_diag.specs.Taken.{HasListedSome}

-- a list that had the first diagnostics and now has the second, with all the faults of the document
abbrev pub HasListedAllUntyped : Document → List DiagnosticData → List DiagnosticData → Type 0
HasListedAllUntyped document old new =
    (faults : List DiagnosticData) × AreUntypedFaults document.definitions faults × IsStableSort list_order (old ++ faults) new

-- the same with nothing more than it had, or with some of the faults of the document
abbrev pub HasListedSomeUntyped : Document → List DiagnosticData → List DiagnosticData → Type 0
HasListedSomeUntyped document old new =
    (new ≡ old) ⊎ ((faults : List DiagnosticData) × AreUntypedFaults document.definitions faults × HasListedSome old faults new)
