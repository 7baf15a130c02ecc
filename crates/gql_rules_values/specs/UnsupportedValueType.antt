-- A literal is written as values of its type are: section 5.6.1 of GraphQL October 2021.
use Rattle.std.specs.Prelude.{not, List, [], ◌∷◌, None}
use Rattle.gql_ast.specs.TypeText.{type_text}
use Rattle.gql_ast.specs.ValueText.{value_text}
use Rattle.gql_ast_base.specs.declared.type_ref.TypeRef.{TypeRef}
use Rattle.gql_ast_base.specs.declared.value.Value.{Value}
use Rattle.gql_diag_messages.specs.declared.rule.Rule.TheVariants.{UnsupportedValueType}
use Rattle.gql_diag_messages.specs.declared.diagnostic_data.DiagnosticData.{DiagnosticData}
use Rattle.gql_rules_values.specs.Faults.{fault, only_if}
use Rattle.gql_rules_values.specs.TypeShape.{single_type}
use Rattle.gql_rules_values.specs.ValueTypes.{form_of, fits}
use Rattle.gql_rules_values.specs.declared.value_types.ValueForm.{ValueForm}
use Rattle.gql_rules_values.specs.declared.value_types.ValueForm.TheVariants as form
use Rattle.gql_schema_types.specs.declared.types.ExtendedType.{ExtendedType}

-- the type that is told: of a single value at a list's type that of an item
abbrev pub told : TypeRef → ValueForm → TypeRef
told ty form.Null = ty
told ty _ = single_type ty

abbrev pub unsupported_value_type : List ExtendedType → TypeRef → Value → List DiagnosticData
unsupported_value_type types ty literal =
    only_if (not (fits types ty (form_of literal)))
    (fault UnsupportedValueType (type_text (told ty (form_of literal)) ∷ value_text literal ∷ []) literal.location None)
