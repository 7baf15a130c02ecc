-- A member of a union is an object type: section 3.8 of GraphQL October 2021.
use Rattle.std.specs.Prelude.{List}
use Rattle.gql_ast_base.specs.Names.{Named}
use Rattle.gql_diag_messages.specs.declared.rule.Rule.TheVariants.{UnionMemberObjectType}
use Rattle.gql_diag_messages.specs.declared.diagnostic_data.DiagnosticData.{DiagnosticData}
use Rattle.gql_rules_values.specs.Faults.{name_fault, only_if}
use Rattle.gql_schema_rules_parts.specs.ObjectTypes.{is_another_kind}
use Rattle.gql_schema_types.specs.declared.types.ExtendedType.{ExtendedType}

abbrev pub union_member_object_type : List ExtendedType → Named → List DiagnosticData
union_member_object_type types name = only_if (is_another_kind types name.text) (name_fault UnionMemberObjectType name)
