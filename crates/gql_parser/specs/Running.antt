-- What execution asks of a document and its schema: section 6 of GraphQL October 2021.
use Rattle.std.specs.Prelude.{◌≡◌, [], Some}
use Rattle.std.specs.List.{All}
use Rattle.gql_document_types.specs.declared.document.ExecutableDocument.{ExecutableDocument}
use Rattle.gql_document_types.specs.declared.operation.Operation.{Operation}
use Rattle.gql_rules_nodes.specs.UndefinedFragment.{undefined_fragments}
use Rattle.gql_schema_types.specs.Schemas.{root_of}
use Rattle.gql_schema_types.specs.declared.schema.Schema.{Schema}

-- the operation is on the root type that the schema names for its kind: section 3.3.1
abbrev pub IsOnRoot : Schema → Operation → Type 0
IsOnRoot schema operation = root_of operation.operation_type schema.schema_definition ≡ Some operation.selection_set.ty

abbrev pub AreOnRoots : Schema → ExecutableDocument → Type 0
AreOnRoots schema document = All (IsOnRoot schema) document.operations

-- each fragment that is spread, in operations and in fragments, is defined: section 5.5.2.1
abbrev pub AreSpreadsDefined : ExecutableDocument → Type 0
AreSpreadsDefined document = undefined_fragments document ≡ []
