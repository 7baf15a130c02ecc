-- The definitions and extensions of a type system, sorted by what they are: section 3.1 of GraphQL October 2021.
use Rattle.std.specs.Prelude.{List, [], ◌∷◌, ◌++◌, fold}
use Rattle.gql_ast.specs.declared.definition.Definition.{Definition}
use Rattle.gql_ast.specs.declared.definition.Definition.TheVariants as definition
use Rattle.gql_schema_build.specs.declared.type_definition.TypeDefinition.TheVariants as type
use Rattle.gql_schema_build.specs.declared.type_extension.TypeExtension.TheVariants as extension
use Rattle.gql_schema_build.specs.declared.type_system.TypeSystem.{TypeSystem}

abbrev pub no_definitions : TypeSystem
no_definitions = record { schemas = []; schema_extensions = []; directives = []; types = []; type_extensions = [] }

-- with a definition last among those of its kind; operations and fragments are left out
abbrev pub with_definition : TypeSystem → Definition → TypeSystem
with_definition s (definition.OperationDefinition it) = s
with_definition s (definition.FragmentDefinition it) = s
with_definition s (definition.SchemaDefinition it) = record s { schemas = s.schemas ++ it ∷ [] }
with_definition s (definition.SchemaExtension it) = record s { schema_extensions = s.schema_extensions ++ it ∷ [] }
with_definition s (definition.DirectiveDefinition it) = record s { directives = s.directives ++ it ∷ [] }
with_definition s (definition.ScalarTypeDefinition it) = record s { types = s.types ++ type.Scalar it ∷ [] }
with_definition s (definition.ObjectTypeDefinition it) = record s { types = s.types ++ type.Object it ∷ [] }
with_definition s (definition.InterfaceTypeDefinition it) = record s { types = s.types ++ type.Interface it ∷ [] }
with_definition s (definition.UnionTypeDefinition it) = record s { types = s.types ++ type.Union it ∷ [] }
with_definition s (definition.EnumTypeDefinition it) = record s { types = s.types ++ type.Enum it ∷ [] }
with_definition s (definition.InputObjectTypeDefinition it) = record s { types = s.types ++ type.InputObject it ∷ [] }
with_definition s (definition.ScalarTypeExtension it) = record s { type_extensions = s.type_extensions ++ extension.Scalar it ∷ [] }
with_definition s (definition.ObjectTypeExtension it) = record s { type_extensions = s.type_extensions ++ extension.Object it ∷ [] }
with_definition s (definition.InterfaceTypeExtension it) = record s { type_extensions = s.type_extensions ++ extension.Interface it ∷ [] }
with_definition s (definition.UnionTypeExtension it) = record s { type_extensions = s.type_extensions ++ extension.Union it ∷ [] }
with_definition s (definition.EnumTypeExtension it) = record s { type_extensions = s.type_extensions ++ extension.Enum it ∷ [] }
with_definition s (definition.InputObjectTypeExtension it) = record s { type_extensions = s.type_extensions ++ extension.InputObject it ∷ [] }

-- with those of a document, in order
abbrev pub with_definitions : TypeSystem → List Definition → TypeSystem
with_definitions s ds = fold with_definition s ds
