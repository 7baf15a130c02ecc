-- What comes of a field on an object: sections 6.4.1 and 6.4.2 of GraphQL October 2021.
use Rattle.std.specs.Prelude.{ℕ, Bool, ◌&&◌, ◌||◌, if◌then◌else◌, List, Result, Ok, Err, codes}
use Rattle.std.specs.Option.{unwrap_or}
use Rattle.std.specs.Str.{bytes_eq}
use Rattle.jb_tree.specs.declared.value.Value.TheVariants as json
use Rattle.gql_ast.specs.declared.field_definition.FieldDefinition.{FieldDefinition}
use Rattle.gql_coerce.specs.Arguments.{coerced_arguments}
use Rattle.gql_coerce.specs.Outcome.{told_as}
use Rattle.gql_coerce.specs.Told.{argument_fault}
use Rattle.gql_coerce.specs.declared.told.ArgumentFault.{ArgumentFault}
use Rattle.gql_document_types.specs.declared.selection.Field.{Field}
use Rattle.gql_schema_types.specs.Schemas.{field_of, is_query_root}
use Rattle.gql_schema_types.specs.declared.schema.Schema.{Schema}
use Rattle.gql_schema_types.specs.declared.types.ObjectType.{ObjectType}
use Rattle.gql_resolvers.specs.Resolved.{Meaning, gives_leaf, Fault, Outcome, answered, refused}
use Rattle.gql_exec.specs.Request.{Members, Request}

-- the definition of a field on an object type, which the first field of each group has; else the one where it is selected
abbrev pub definition_on : Schema → ObjectType → Field → FieldDefinition
definition_on schema U f = unwrap_or (field_of schema U.name.text f.name.text) f.definition

-- the arguments by a definition, or the fault of the first that fails
abbrev pub arguments_at : {X : Type 0} → Request X → FieldDefinition → Field → Result Members ArgumentFault
arguments_at r definition f = told_as argument_fault (coerced_arguments r.schema.types r.variables definition.arguments f.arguments)

-- `__typename` is the name of the object type, any other field is as the resolver says
abbrev pub answer : {X : Type 0} → Request X → ObjectType → X → List ℕ → Members → Meaning X
answer r U x f arguments = if bytes_eq f (codes "__typename") then gives_leaf (json.String U.name.text) else r.answers U x f arguments

abbrev pub fault_of : ArgumentFault → Fault
fault_of fault = record { message = fault.message; span = fault.location; marked = fault.suspected }

-- arguments come first
abbrev pub asked : {X : Type 0} → Request X → ObjectType → X → List ℕ → Result Members ArgumentFault → Outcome X
asked r U x f (Ok arguments) = answered (answer r U x f arguments)
asked r U x f (Err fault) = refused (fault_of fault)

abbrev pub asks : {X : Type 0} → Request X → ObjectType → X → Field → Outcome X
asks r U x f = asked r U x f.name.text (arguments_at r (definition_on r.schema U f) f)

-- a field that tells of the schema: section 4.2
abbrev pub is_introspection : Schema → ObjectType → List ℕ → Bool
is_introspection schema U f = (bytes_eq f (codes "__schema") || bytes_eq f (codes "__type")) && is_query_root schema.schema_definition U.name.text
