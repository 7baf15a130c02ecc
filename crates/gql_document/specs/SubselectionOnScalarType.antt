-- A field of a scalar type has no selections: section 5.3.3 of GraphQL October 2021.
use Rattle.std.specs.Prelude.{◌&&◌, List, [], ◌∷◌, Option, None, if◌then◌else◌}
use Rattle.std.specs.Option.{option_map_or}
use Rattle.gql_source.specs.Span.{Span}
use Rattle.gql_ast_base.specs.Names.{Named}
use Rattle.gql_ast.specs.declared.field_definition.FieldDefinition.{FieldDefinition}
use Rattle.gql_ast.specs.TypeText.{type_text}
use Rattle.gql_ast_base.specs.declared.type_ref.TypeRef.{TypeRef}
use Rattle.gql_diag_messages.specs.declared.rule.Rule.TheVariants.{SubselectionOnScalarType}
use Rattle.gql_diag_messages.specs.declared.diagnostic_data.DiagnosticData.{DiagnosticData}
use Rattle.gql_schema_types.specs.declared.schema.Schema.{Schema}
use Rattle.gql_document.specs.Faults.{fault}
use Rattle.gql_document.specs.Nodes.{FieldNode, is_of, is_scalar}

abbrev pub told : TypeRef → Named → Option Span → DiagnosticData
told ty name location = fault SubselectionOnScalarType (type_text ty ∷ name.text ∷ []) location None

-- a field that selects though it is of such a type
abbrev pub subselection_on_scalar_type : Schema → FieldNode → List DiagnosticData
subselection_on_scalar_type schema node =
    option_map_or
    (λ (definition : FieldDefinition). if node.selects && is_of is_scalar schema definition.ty then told definition.ty node.name node.location ∷ [] else [])
    node.definition []
