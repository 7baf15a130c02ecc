-- An operation selects something: section 2.4 of GraphQL October 2021.
use Rattle.std.specs.Prelude.{◌<◌, length}
use Rattle.std.specs.List.{All}
use Rattle.gql_document_types.specs.declared.document.ExecutableDocument.{ExecutableDocument}
use Rattle.gql_document_types.specs.declared.operation.Operation.{Operation}

abbrev pub SelectsSomething : Operation → Type 0
SelectsSomething operation = 0 < length operation.selection_set.selections

abbrev pub SelectSomething : ExecutableDocument → Type 0
SelectSomething document = All SelectsSomething document.operations
