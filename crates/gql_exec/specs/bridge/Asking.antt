-- What comes of a field, as the code has it.
use Rattle.std.specs.Prelude.{◌≡◌, Some}
use Rattle.std.specs.Option.{option_copied}
use Rattle.gql_schema_types.specs.Schemas.{field_of}
use Rattle.gql_schema_types.specs.declared.schema.Schema.{Schema}
use Rattle.gql_schema_types.specs.declared.types.ObjectType.{ObjectType}
use Rattle.gql_schema_types.specs.Schemas.{type_named}
use Rattle.gql_resolvers.specs.Resolved.{fails_with, Outcome, answered, refused}
use Rattle.gql_collect.specs.declared.planned_field.PlannedField.{PlannedField}
use Rattle.gql_resolvers.specs.Meaning.{meaning_by}
use Rattle.gql_exec.specs.Asks.{fault_of}
use Rattle.gql_exec.specs.declared.asking.Asked.{Asked}
use Rattle.gql_exec.specs.declared.asking.Asked.TheVariants.{Gave, Failed, Refused}

-- a resolver's answer, its failure among them, or the fault of an argument
abbrev pub outcome_of : {O X : Type 0} → (O → X) → Asked O → Outcome X
outcome_of see (Gave resolved) = answered (meaning_by see resolved)
outcome_of see (Failed error) = answered (fails_with error.message)
outcome_of see (Refused fault) = refused (fault_of fault)

-- the object type has the field as it is planned
pub record IsDefined (schema : Schema) (U : ObjectType) (field : PlannedField) : Type 0 where
  pub definition : field_of schema U.name.text field.group.first.now.name.text ≡ Some field.definition.now
  pub named : option_copied field.named ≡ type_named schema field.definition.now.ty
