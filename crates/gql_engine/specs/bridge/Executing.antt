-- What an execution asks of its document: no fragment leads back to itself. Section 5.5.2.2 of GraphQL October 2021.
use Rattle.gql_document_types.specs.Spreads.{AreAcyclic}
use Rattle.gql_document_types.specs.declared.document.ExecutableDocument.{ExecutableDocument}

abbrev pub IsAcyclic : ExecutableDocument → Type 0
IsAcyclic document = AreAcyclic document.fragments
