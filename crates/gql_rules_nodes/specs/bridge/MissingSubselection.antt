-- What only private clauses and proofs cite, beside `MissingSubselection`.
use Rattle.std.specs.Prelude.{List}
use Rattle.gql_diag_messages.specs.declared.diagnostic_data.DiagnosticData.{DiagnosticData}
use Rattle.gql_document_types.specs.declared.selection.Field.{Field}
use Rattle.gql_rules_nodes.specs.Nodes.{is_nonempty}
use Rattle.gql_schema_types.specs.declared.types.ExtendedType.{ExtendedType}
use Rattle.gql_rules_nodes.specs.MissingSubselection.{lacking}

module _ (types : List ExtendedType) where
  -- the same of a field with what is selected in it
  abbrev pub missing_at : Field → List DiagnosticData
  missing_at it = lacking types it.name (is_nonempty it.selection_set.selections) it.definition.ty it.location
