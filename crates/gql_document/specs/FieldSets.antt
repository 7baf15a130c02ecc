-- A set of fields on a type, and the faults in it.
use Rattle.std.specs.Prelude.{List, ◌++◌}
use Rattle.gql_source.specs.File.{Files}
use Rattle.gql_ast_base.specs.Names.{Named}
use Rattle.gql_ast.specs.declared.selection.Selection.{Selection}
use Rattle.gql_diag.specs.List.{Diagnostics}
use Rattle.gql_diag_messages.specs.declared.diagnostic_data.DiagnosticData.{DiagnosticData}
use Rattle.gql_document_types.specs.declared.document.FieldSet.{FieldSet}
use Rattle.gql_schema_types.specs.declared.schema.Schema.{Schema}
use Rattle.gql_document.specs.BuiltSelections.{built_set}
use Rattle.gql_document.specs.SelectionFaults.{selection_faults}

abbrev pub built : Schema → Named → List Selection → Files → FieldSet
built schema ty selections sources = record { sources = sources; selection_set = built_set schema ty selections }

abbrev pub all_faults : Schema → Named → List Selection → Diagnostics → List DiagnosticData
all_faults schema ty selections given = given.items ++ selection_faults schema ty selections
