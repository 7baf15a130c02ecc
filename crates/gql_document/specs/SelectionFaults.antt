-- The faults of selections: each rule looks at each node by itself.
use Rattle.std.specs.Prelude.{List, ◌++◌}
use Rattle.std.specs.List.{flat_map}
use Rattle.gql_ast_base.specs.Names.{Named}
use Rattle.gql_ast.specs.declared.selection.Selection.{Selection}
use Rattle.gql_diag_messages.specs.declared.diagnostic_data.DiagnosticData.{DiagnosticData}
use Rattle.gql_schema_types.specs.declared.schema.Schema.{Schema}
use Rattle.gql_document.specs.Nodes.{Node, field, inline_fragment, nodes}
use Rattle.gql_document.specs.SubselectionOnEnumType.{subselection_on_enum_type}
use Rattle.gql_document.specs.SubselectionOnScalarType.{subselection_on_scalar_type}
use Rattle.gql_document.specs.UndefinedField.{undefined_field}
use Rattle.gql_document.specs.UndefinedTypeInInlineFragmentTypeCondition.{undefined_type_in_inline_fragment_type_condition}

abbrev pub node_faults : Schema → Node → List DiagnosticData
node_faults schema (field node) = undefined_field node ++ (subselection_on_scalar_type schema node ++ subselection_on_enum_type schema node)
node_faults schema (inline_fragment condition) = undefined_type_in_inline_fragment_type_condition schema condition

-- those of a set of selections on a type
abbrev pub selection_faults : Schema → Named → List Selection → List DiagnosticData
selection_faults schema ty selections = flat_map (node_faults schema) (nodes schema ty selections)
