-- A field of an object, an interface or a union has selections: section 5.3.3 of GraphQL October 2021.
use Rattle.std.specs.Prelude.{Bool, ◌&&◌, not, List, [], ◌∷◌, Option, None}
use Rattle.gql_source.specs.Span.{Span}
use Rattle.gql_ast_base.specs.Names.{Named}
use Rattle.gql_ast.specs.TypeText.{type_text}
use Rattle.gql_ast_base.specs.declared.type_ref.TypeRef.{TypeRef}
use Rattle.gql_diag_messages.specs.declared.rule.Rule.TheVariants.{MissingSubselection}
use Rattle.gql_diag_messages.specs.declared.diagnostic_data.DiagnosticData.{DiagnosticData}
use Rattle.gql_rules_values.specs.Faults.{fault, only_if}
use Rattle.gql_ast_base.specs.TypeParts.{named_type}
use Rattle.gql_rules_nodes.specs.Nodes.{FieldNode}
use Rattle.gql_schema_types.specs.declared.types.ExtendedType.{ExtendedType}
use Rattle.gql_rules_nodes.specs.Composite.{is_composite_name}

module _ (types : List ExtendedType) where
  abbrev pub lacking : Named → Bool → TypeRef → Option Span → List DiagnosticData
  lacking name selects ty place =
      only_if (not selects && is_composite_name types (named_type ty).text) (fault MissingSubselection (name.text ∷ type_text ty ∷ []) place None)

  -- a field whose type has selections and that has none
  abbrev pub missing_subselection : FieldNode → List DiagnosticData
  missing_subselection node = lacking node.name node.selects node.definition.ty node.location
