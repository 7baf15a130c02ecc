-- An inline fragment is on a type that is defined: section 5.5.1.2 of GraphQL October 2021.
use Rattle.std.specs.Prelude.{List, [], ◌∷◌, Option, None, if◌then◌else◌}
use Rattle.std.specs.Option.{option_map_or}
use Rattle.gql_ast_base.specs.Names.{Named}
use Rattle.gql_diag_messages.specs.declared.rule.Rule.TheVariants.{UndefinedTypeInInlineFragmentTypeCondition}
use Rattle.gql_diag_messages.specs.declared.diagnostic_data.DiagnosticData.{DiagnosticData}
use Rattle.gql_schema_types.specs.declared.schema.Schema.{Schema}
use Rattle.gql_document.specs.Faults.{name_fault}
use Rattle.gql_document.specs.Nodes.{is_defined}

abbrev pub undefined_condition : Schema → Named → List DiagnosticData
undefined_condition schema name = if is_defined schema name then [] else name_fault UndefinedTypeInInlineFragmentTypeCondition name None ∷ []

-- a condition that is not defined
abbrev pub undefined_type_in_inline_fragment_type_condition : Schema → Option Named → List DiagnosticData
undefined_type_in_inline_fragment_type_condition schema condition = option_map_or (undefined_condition schema) condition []
