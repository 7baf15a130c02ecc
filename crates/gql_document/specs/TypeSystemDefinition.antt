-- An executable document has no definitions of a type system and no extensions: section 5.1.1 of GraphQL October 2021. The rule on
-- schemas, which have no operations, is ExecutableDefinition.
use Rattle.std.specs.Prelude.{ℕ, List, [], ◌∷◌, Option, None, codes}
use Rattle.std.specs.List.{flat_map}
use Rattle.gql_source.specs.Span.{Span}
use Rattle.gql_ast.specs.declared.definition.Definition.{Definition}
use Rattle.gql_ast.specs.declared.definition.Definition.TheVariants as definition
use Rattle.gql_diag_messages.specs.declared.rule.Rule.TheVariants.{TypeSystemDefinition}
use Rattle.gql_diag_messages.specs.declared.diagnostic_data.DiagnosticData.{DiagnosticData}
use Rattle.gql_document.specs.Faults.{fault}

abbrev pub told : List ℕ → List ℕ → Option Span → DiagnosticData
told kind name location = fault TypeSystemDefinition (kind ∷ name ∷ []) location None

-- a definition of another kind than operations and fragments, with the name that it defines or extends
abbrev pub type_system_definition : Definition → List DiagnosticData
type_system_definition (definition.OperationDefinition it) = []
type_system_definition (definition.FragmentDefinition it) = []
type_system_definition (definition.SchemaDefinition it) = told (codes "a schema definition") [] it.location ∷ []
type_system_definition (definition.SchemaExtension it) = told (codes "a schema extension") [] it.location ∷ []
type_system_definition (definition.DirectiveDefinition it) = told (codes "a directive definition") it.name.text it.location ∷ []
type_system_definition (definition.ScalarTypeDefinition it) = told (codes "a scalar type definition") it.name.text it.location ∷ []
type_system_definition (definition.ObjectTypeDefinition it) = told (codes "an object type definition") it.name.text it.location ∷ []
type_system_definition (definition.InterfaceTypeDefinition it) = told (codes "an interface type definition") it.name.text it.location ∷ []
type_system_definition (definition.UnionTypeDefinition it) = told (codes "a union type definition") it.name.text it.location ∷ []
type_system_definition (definition.EnumTypeDefinition it) = told (codes "an enum type definition") it.name.text it.location ∷ []
type_system_definition (definition.InputObjectTypeDefinition it) = told (codes "an input object type definition") it.name.text it.location ∷ []
type_system_definition (definition.ScalarTypeExtension it) = told (codes "a scalar type extension") it.name.text it.location ∷ []
type_system_definition (definition.ObjectTypeExtension it) = told (codes "an object type extension") it.name.text it.location ∷ []
type_system_definition (definition.InterfaceTypeExtension it) = told (codes "an interface type extension") it.name.text it.location ∷ []
type_system_definition (definition.UnionTypeExtension it) = told (codes "a union type extension") it.name.text it.location ∷ []
type_system_definition (definition.EnumTypeExtension it) = told (codes "an enum type extension") it.name.text it.location ∷ []
type_system_definition (definition.InputObjectTypeExtension it) = told (codes "an input object type extension") it.name.text it.location ∷ []

-- one for each of them
abbrev pub type_system_definitions : List Definition → List DiagnosticData
type_system_definitions definitions = flat_map type_system_definition definitions
