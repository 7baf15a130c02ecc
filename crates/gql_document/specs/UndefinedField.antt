-- A field is defined on the type of its set: section 5.3.1 of GraphQL October 2021.
use Rattle.std.specs.Prelude.{List, [], ◌∷◌, None, is_some, if◌then◌else◌}
use Rattle.gql_ast_base.specs.Names.{Named}
use Rattle.gql_diag_messages.specs.declared.rule.Rule.TheVariants.{UndefinedField}
use Rattle.gql_diag_messages.specs.declared.diagnostic_data.DiagnosticData.{DiagnosticData}
use Rattle.gql_document.specs.Faults.{fault}
use Rattle.gql_document.specs.Nodes.{FieldNode}

abbrev pub told : Named → Named → DiagnosticData
told ty name = fault UndefinedField (ty.text ∷ name.text ∷ []) name.location None

-- a field without a definition
abbrev pub undefined_field : FieldNode → List DiagnosticData
undefined_field node = if is_some node.definition then [] else told node.ty node.name ∷ []
