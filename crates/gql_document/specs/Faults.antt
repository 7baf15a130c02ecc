-- Faults of building a document, as diagnostics.
use Rattle.std.specs.Prelude.{ℕ, List, [], ◌∷◌, Option}
use Rattle.std.specs.Option.{option_map_or}
use Rattle.gql_source.specs.Span.{Span}
use Rattle.gql_ast_base.specs.Names.{Named}
use Rattle.gql_ast.specs.declared.operation.OperationDefinition.{OperationDefinition}
use Rattle.gql_diag_messages.specs.declared.rule.Rule.{Rule}
use Rattle.gql_diag_messages.specs.declared.diagnostic_data.DiagnosticData.{DiagnosticData}
pub use Rattle.gql_diag_messages.specs.Family.{fault}

-- what has this name breaks a rule
abbrev pub name_fault : Rule → Named → Option Span → DiagnosticData
name_fault rule name other = fault rule (name.text ∷ []) name.location other

-- the name that messages tell of an operation: empty where it has none
abbrev pub operation_text : OperationDefinition → List ℕ
operation_text operation = option_map_or (λ (name : Named). name.text) operation.name []
