-- Operations and fragments as a document in which no type is known: section 2.2 of GraphQL October 2021.
use Rattle.std.specs.Prelude.{[], map}
use Rattle.gql_ast.specs.declared.operation.FragmentDefinition.{FragmentDefinition}
use Rattle.gql_ast.specs.declared.operation.OperationDefinition.{OperationDefinition}
use Rattle.gql_document.specs.declared.executable_definitions.ExecutableDefinitions.{ExecutableDefinitions}
use Rattle.gql_document_types.specs.RootFields.{fragment_name}
use Rattle.gql_document_types.specs.declared.document.ExecutableDocument.{ExecutableDocument}
use Rattle.gql_document_types.specs.declared.fragment.Fragment.{Fragment}
use Rattle.gql_document_types.specs.declared.operation.Operation.{Operation}
use Rattle.gql_rules.specs.UntypedSelections.{untyped_set}
use Rattle.gql_schema_types.specs.Entries.{joined}

abbrev pub untyped_operation : OperationDefinition → Operation
untyped_operation it = record {
  operation_type = it.operation_type;
  name = it.name;
  variables = it.variables;
  directives = it.directives;
  selection_set = untyped_set it.selection_set;
  location = it.location;
}

-- what it is on is not known
abbrev pub untyped_fragment : FragmentDefinition → Fragment
untyped_fragment it = record {
  name = it.name;
  directives = it.directives;
  selection_set = untyped_set it.selection_set;
  location = it.location;
}

-- of the fragments of each name the first
abbrev pub untyped_document : ExecutableDefinitions → ExecutableDocument
untyped_document definitions = record {
  sources = [];
  operations = map untyped_operation definitions.operations;
  fragments = joined fragment_name [] (map untyped_fragment definitions.fragments);
}
