-- The faults at one selection and below it.
use Rattle.std.specs.Prelude.{List, [], ◌∷◌, if◌then◌else◌}
use Rattle.std.specs.List.{flat_map}
use Rattle.std.specs.Option.{option_map_or}
use Rattle.gql_ast_base.specs.Names.{Named}
use Rattle.gql_ast.specs.declared.field_definition.FieldDefinition.{FieldDefinition}
use Rattle.gql_ast.specs.declared.selection.Field.{Field}
use Rattle.gql_ast.specs.declared.selection.InlineFragment.{InlineFragment}
use Rattle.gql_ast.specs.declared.selection.Selection.{Selection}
use Rattle.gql_diag_messages.specs.declared.diagnostic_data.DiagnosticData.{DiagnosticData}
use Rattle.gql_ast_base.specs.TypeParts.{named_type}
use Rattle.gql_schema_types.specs.Schemas.{field_of}
use Rattle.gql_schema_types.specs.declared.schema.Schema.{Schema}
use Rattle.gql_document.specs.Nodes.{is_of, is_open, is_nonempty, type_inside, nodes_of}
use Rattle.gql_document.specs.SelectionFaults.{node_faults, selection_faults}
use Rattle.gql_document.specs.SubselectionOnEnumType as on_enum
use Rattle.gql_document.specs.SubselectionOnScalarType as on_scalar
use Rattle.gql_document.specs.UndefinedField as undefined
use Rattle.gql_document.specs.UndefinedTypeInInlineFragmentTypeCondition.{undefined_type_in_inline_fragment_type_condition}
use Rattle.gql_document.specs.Nodes.{is_scalar, is_enum}

abbrev pub faults_of : Schema → Named → Selection → List DiagnosticData
faults_of schema ty selection = flat_map (node_faults schema) (nodes_of schema selection ty)

-- those of a field with a definition
abbrev pub defined_faults : Schema → Field → FieldDefinition → List DiagnosticData
defined_faults schema field definition =
    if is_nonempty field.selection_set then
    (if is_of is_scalar schema definition.ty then on_scalar.told definition.ty field.name field.location ∷ []
    else (if is_of is_enum schema definition.ty then on_enum.told definition.ty field.name field.location ∷ []
    else selection_faults schema (named_type definition.ty) field.selection_set))
    else []

abbrev pub field_faults : Schema → Named → Field → List DiagnosticData
field_faults schema ty field = option_map_or (defined_faults schema field) (field_of schema ty.text field.name.text) (undefined.told ty field.name ∷ [])

abbrev pub inline_faults : Schema → Named → InlineFragment → List DiagnosticData
inline_faults schema ty fragment =
    if is_open schema fragment.type_condition then selection_faults schema (type_inside ty fragment.type_condition) fragment.selection_set
    else undefined_type_in_inline_fragment_type_condition schema fragment.type_condition
