-- What only private clauses and proofs cite, beside `DocumentNodes`.
use Rattle.std.specs.Prelude.{false, List, [], ◌++◌, Option}
use Rattle.std.specs.Option.{option_map_or}
use Rattle.gql_source.specs.Span.{Span}
use Rattle.gql_ast_base.specs.Names.{Named}
use Rattle.gql_diag_messages.specs.declared.diagnostic_data.DiagnosticData.{DiagnosticData}
use Rattle.gql_document_types.specs.declared.selection.Field.{Field}
use Rattle.gql_document_types.specs.declared.selection.InlineFragment.{InlineFragment}
use Rattle.gql_rules_values.specs.declared.known.Defined.TheVariants.{Types}
use Rattle.gql_rules_values.specs.Arguments.{argument_faults}
use Rattle.gql_schema_types.specs.declared.schema.Schema.{Schema}
use Rattle.gql_schema_types.specs.declared.types.ExtendedType.{ExtendedType}
use Rattle.gql_rules_nodes.specs.InvalidFragmentSpread.{invalid_spread}
use Rattle.gql_rules_nodes.specs.InvalidFragmentTarget.{invalid_target}

module _ (types : List ExtendedType) (parent : Named) where
  abbrev pub one_condition : Option Span → Named → List DiagnosticData
  one_condition place condition = invalid_target types [] condition.text place ++ invalid_spread types [] parent.text condition.text place

  abbrev pub condition_at : InlineFragment → List DiagnosticData
  condition_at it = option_map_or (one_condition it.location) it.type_condition []

module _ (schema : Schema) where
  -- the arguments of a field
  abbrev pub arguments_at : Field → List DiagnosticData
  arguments_at it = argument_faults Types schema.types false it.name.text it.location it.definition.arguments it.arguments
