-- A field of a one-of input object is nullable and has no default: section 3.10.1 of GraphQL September 2025.
use Rattle.std.specs.Prelude.{Bool, ◌&&◌, not, List, [], ◌∷◌, None, is_none, if◌then◌else◌}
use Rattle.std.specs.List.{flat_map}
use Rattle.gql_ast_base.specs.Names.{Named}
use Rattle.gql_ast_base.specs.TypeParts.{is_non_null}
use Rattle.gql_ast.specs.declared.field_definition.InputValueDefinition.{InputValueDefinition}
use Rattle.gql_diag_messages.specs.declared.rule.Rule.TheVariants.{OneOfField}
use Rattle.gql_diag_messages.specs.declared.diagnostic_data.DiagnosticData.{DiagnosticData}
use Rattle.gql_rules_values.specs.Faults.{fault, only_if}
use Rattle.gql_rules_values.specs.Written.{is_written}
use Rattle.gql_schema_types.specs.Types.{is_one_of}
use Rattle.gql_schema_types.specs.declared.types.InputObjectType.{InputObjectType}

-- nothing stands for the field where it is not given
abbrev pub may_be_left_out : InputValueDefinition → Bool
may_be_left_out field = not (is_non_null field.ty) && is_none field.default_value

-- a field of the one-of input object of this name
abbrev pub one_of_field : Named → InputValueDefinition → List DiagnosticData
one_of_field owner field =
    only_if (is_written field.location && not (may_be_left_out field)) (fault OneOfField (owner.text ∷ field.name.text ∷ []) field.location None)

abbrev pub one_of_fields : InputObjectType → List DiagnosticData
one_of_fields it = if is_one_of it then flat_map (one_of_field it.name) it.fields else []
