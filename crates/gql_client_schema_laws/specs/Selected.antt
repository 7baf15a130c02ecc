-- The document that the full query builds against a schema: its selections with the definitions of their fields. Sections 2.5 and 2.8 of GraphQL October 2021.
use Rattle.std.specs.Prelude.{ℕ, ◌+◌, Bool, List, [], ◌∷◌, length, None}
use Rattle.std.specs.Option.{unwrap_or}
use Rattle.gql_ast_base.specs.Names.{Named}
use Rattle.gql_ast_base.specs.TypeParts.{named_type}
use Rattle.gql_ast.specs.declared.field_definition.FieldDefinition.{FieldDefinition}
use Rattle.gql_ast.specs.declared.operation.FragmentDefinition.{FragmentDefinition}
use Rattle.gql_document_types.specs.declared.document.ExecutableDocument.{ExecutableDocument}
use Rattle.gql_document_types.specs.declared.fragment.Fragment.{Fragment}
use Rattle.gql_document_types.specs.declared.operation.Operation.{Operation}
use Rattle.gql_document_types.specs.declared.selection.Field.{Field}
use Rattle.gql_document_types.specs.declared.selection.Selection.{Selection}
use Rattle.gql_document_types.specs.declared.selection.Selection.TheVariants as selection
use Rattle.gql_client_schema.specs.Query.{full_query}
use Rattle.gql_parser.specs.DocumentText.{its_given}
use Rattle.gql_parser.specs.Parsers.{its_file}
use Rattle.gql_schema_types.specs.MetaFields.{type_name_field}
use Rattle.gql_schema_types.specs.Schemas.{field_of}
use Rattle.gql_schema_types.specs.declared.schema.Schema.{Schema}
use Rattle.gql_source.specs.File.{Files}
use Rattle.gql_client_schema_laws.specs.Asked.{Asked, asks_nothing, asks_field, asks_fragment, name_at, place, arguments_at}
use Rattle.gql_client_schema_laws.specs.FullQuery as full

-- the file of the query
abbrev pub full_files : Files
full_files = its_file (its_given full_query)

module _ (schema : Schema) where
  -- the definition of a type's field; there is one for each that the full query asks for
  abbrev pub definition_in : Named → List ℕ → FieldDefinition
  definition_in ty name = unwrap_or (field_of schema ty.text name) type_name_field

  -- a field of a type of which these are selected
  abbrev pub field_with : Named → ℕ → ℕ → List ℕ → Bool → List Selection → Field
  field_with ty start end name deprecated within = record {
    alias = None;
    name = name_at start name;
    arguments = arguments_at (start + length name + 1) deprecated;
    directives = [];
    selection_set = record { ty = named_type (definition_in ty name).ty; selections = within };
    location = place start end;
    definition = definition_in ty name;
  }

  -- what is asked for, selected on a type
  abbrev pub selected : Named → Asked → List Selection
  selected ty asks_nothing = []
  selected ty (asks_field start end name deprecated within rest) =
      selection.Field (field_with ty start end name deprecated (selected (named_type (definition_in ty name).ty) within)) ∷ selected ty rest
  selected ty (asks_fragment start name rest) =
      selection.FragmentSpread (record { fragment_name = name_at (start + 3) name; directives = []; location = place start (start + 3 + length name) })
      ∷ selected ty rest

  abbrev pub fragment_on : FragmentDefinition → Asked → Fragment
  fragment_on it asked = record {
    name = it.name;
    directives = [];
    selection_set = record { ty = it.type_condition; selections = selected it.type_condition asked };
    location = it.location;
  }

  abbrev pub full_fragments : List Fragment
  full_fragments =
      fragment_on full.type_fragment full.type_asked ∷ fragment_on full.input_fragment full.input_asked
      ∷ fragment_on full.reference_fragment full.reference_asked ∷ []

  -- the operation on a root type of queries
  abbrev pub full_operation : Named → Operation
  full_operation root = record {
    operation_type = full.the_operation.operation_type;
    name = full.the_operation.name;
    variables = [];
    directives = [];
    selection_set = record { ty = root; selections = selected root full.full_asked };
    location = full.the_operation.location;
  }

  -- the document on a root type, read from these files
  abbrev pub full_document : Files → Named → ExecutableDocument
  full_document files root = record { sources = files; operations = full_operation root ∷ []; fragments = full_fragments }
