-- What coercion makes of the variables of an operation: section 6.1.2 of GraphQL October 2021.
use Rattle.gql_coerce.specs.Filled.{Members}
use Rattle.gql_coerce.specs.Variables.{coerced_variables}
use Rattle.gql_valid_laws.specs.Unmarked.{IsUnmarked}
use Rattle.gql_document_types.specs.declared.operation.Operation.{Operation}
use Rattle.gql_schema_types.specs.declared.schema.Schema.{Schema}

-- whatever values are given for them, no fault is marked
abbrev pub LeavesNoMark : Schema → Operation → Type 0
LeavesNoMark schema operation = (values : Members) → IsUnmarked (coerced_variables schema.types operation.variables values)
