-- The operations and fragments of documents: section 2.2 of GraphQL October 2021.
use Rattle.std.specs.Prelude.{List, [], ◌∷◌, ◌++◌, fold}
use Rattle.gql_ast.specs.declared.definition.Definition.{Definition}
use Rattle.gql_ast.specs.declared.definition.Definition.TheVariants as definition
use Rattle.gql_document.specs.declared.executable_definitions.ExecutableDefinitions.{ExecutableDefinitions}

abbrev pub no_definitions : ExecutableDefinitions
no_definitions = record { operations = []; fragments = [] }

-- with a definition last among those of its kind; those of a type system are left out
abbrev pub with_definition : ExecutableDefinitions → Definition → ExecutableDefinitions
with_definition taken (definition.OperationDefinition it) = record taken { operations = taken.operations ++ it ∷ [] }
with_definition taken (definition.FragmentDefinition it) = record taken { fragments = taken.fragments ++ it ∷ [] }
with_definition taken _ = taken

-- with those of a document, in order
abbrev pub with_definitions : ExecutableDefinitions → List Definition → ExecutableDefinitions
with_definitions taken definitions = fold with_definition taken definitions
