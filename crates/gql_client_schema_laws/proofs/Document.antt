-- The document that the full query builds against a schema.
use Rattle.std.proofs.Common.{◌≡◌, ℕ, true, if◌then◌else◌, Option, Some, is_some, List, [], ◌∷◌, ◌++◌, codes, refl, ap, ◌∙◌}
use Rattle.std.specs.Option.{option_map_or}
use Rattle.gql_ast.specs.declared.definition.Definition.{Definition}
use Rattle.gql_ast_base.specs.Names.{Named}
use Rattle.gql_ast.specs.declared.operation.FragmentDefinition.{FragmentDefinition}
use Rattle.gql_ast_laws.specs.Meant.{IsDocumentOf}
use Rattle.gql_client_schema.specs.Query.{full_query}
use Rattle.gql_document.specs.Build.{built_operations, built_fragments, built_fragment, fragment_on as fragment_built_on, operation_on}
use Rattle.gql_document.specs.BuiltSelections.{built_set}
use Rattle.gql_document.specs.Builders.{built}
use Rattle.gql_document.specs.FragmentNameCollision.{first_fragments}
use Rattle.gql_document.specs.Nodes.{is_defined}
use Rattle.gql_document.specs.OperationNameCollision.{first_operations}
use Rattle.gql_document_types.specs.declared.document.ExecutableDocument.{ExecutableDocument}
use Rattle.gql_document_types.specs.declared.fragment.Fragment.{Fragment}
use Rattle.gql_document_types.specs.declared.operation.Operation.{Operation}
use Rattle.gql_document_types.specs.declared.selection.SelectionSet.{SelectionSet}
use Rattle.gql_client_schema_laws.specs.Asked.{Asked, query_file, written}
use Rattle.gql_client_schema_laws.specs.bridge.Built.{AreDefinedOn}
use Rattle.gql_client_schema_laws.specs.FullQuery as full
use Rattle.gql_client_schema_laws.specs.Introspection.{HasIntrospection}
use Rattle.gql_client_schema_laws.specs.Selected.{full_document, full_fragments, full_operation, fragment_on, full_files}
use Rattle.gql_client_schema_laws.specs.Whole.{HasSchemaField}
use Rattle.gql_client_schema_laws.proofs.Built.{set-built}
use Rattle.gql_client_schema_laws.proofs.Defined.{type-defined, input-defined, reference-defined, full-defined}
use Rattle.gql_client_schema_laws.proofs.Known.{SoundLaw, known as known_document}
use Rattle.gql_parser.specs.DocumentAnswers.{IsBuiltOf}
use Rattle.gql_parser.specs.DocumentText.{all_of, its_given}
use Rattle.gql_parser.specs.Parsers.{its_file}
use Rattle.gql_schema_types.specs.Types.{type_called}
use Rattle.gql_schema_types.specs.declared.schema.Schema.{Schema}
use Rattle.gql_source.specs.declared.file_id.FileId.{FileId}

abbrev pub OneDocument : Type 0
OneDocument = (text : List ℕ) (file : FileId) (one other : List Definition) → IsDocumentOf text file one → IsDocumentOf text file other → one ≡ other

-- what the text means is one
pub only-definitions : SoundLaw → OneDocument → (definitions : List Definition) → IsDocumentOf full_query query_file definitions → definitions ≡ full.full_definitions
unfolding full_query
only-definitions sound once definitions means = once full_query query_file definitions full.full_definitions means (known_document sound)

pub means-definitions : SoundLaw → IsDocumentOf full_query query_file full.full_definitions
unfolding full_query
means-definitions sound = known_document sound

module _ (schema : Schema) (known : HasIntrospection schema) where
  fragment-built : (it : FragmentDefinition) (asked : Asked) → it.selection_set ≡ written asked → it.directives ≡ [] → is_defined schema it.type_condition ≡ true
      → AreDefinedOn schema it.type_condition.text asked → built_fragment schema it ≡ fragment_on schema it asked ∷ []
  fragment-built it asked same none there defined =
      ap (λ b. if b then fragment_built_on schema it ∷ [] else []) there
      ∙ (λ i. (let f : Fragment = record {
        name = it.name;
        directives = none i;
        selection_set = (ap (built_set schema it.type_condition) same ∙ set-built schema it.type_condition asked defined) i;
        location = it.location;
      } in f) ∷ [])

  type-there : is_some (type_called (codes "__Type") schema.types) ≡ true
  type-there = ap is_some known.type_type.called

  input-there : is_some (type_called (codes "__InputValue") schema.types) ≡ true
  input-there = ap is_some known.input_type.called

  fragments-built : built_fragments schema (first_fragments (full.type_fragment ∷ full.input_fragment ∷ full.reference_fragment ∷ [])) ≡ full_fragments schema
  fragments-built =
      λ i. fragment-built full.type_fragment full.type_asked refl refl type-there (type-defined schema known) i
      ++ (fragment-built full.input_fragment full.input_asked refl refl input-there (input-defined schema known) i
      ++ (fragment-built full.reference_fragment full.reference_asked refl refl type-there (reference-defined schema known) i ++ []))

  module _ (root : Named) (is_root : schema.schema_definition.query ≡ Some root) (own : HasSchemaField schema root) where
    operations-built : built_operations schema (first_operations (full.the_operation ∷ [])) ≡ full_operation schema root ∷ []
    operations-built =
        ap (λ (o : Option Named). option_map_or (λ (r : Named). operation_on schema r full.the_operation ∷ []) o [] ++ []) is_root
        ∙ ap (λ (set : SelectionSet). (let o : Operation = record {
          operation_type = full.the_operation.operation_type;
          name = full.the_operation.name;
          variables = [];
          directives = [];
          selection_set = set;
          location = full.the_operation.location;
        } in o) ∷ []) (set-built schema root full.full_asked (full-defined schema known root own))

    built-is : built (all_of schema (record { sources = its_file (its_given full_query); definitions = full.full_definitions })) ≡ full_document schema full_files root
    built-is = λ i. record { sources = full_files; operations = operations-built i; fragments = fragments-built i }

    pub only-document : SoundLaw → OneDocument → (document : ExecutableDocument) → IsBuiltOf schema full_query document → document ≡ full_document schema full_files root
    only-document sound once document of =
        let d = of.definitions in
        of.is ∙ ap built d.all
        ∙ ap (λ (definitions : List Definition). built (all_of schema (record { sources = its_file (its_given full_query); definitions = definitions })))
        (only-definitions sound once d.definitions d.mean)
        ∙ built-is
