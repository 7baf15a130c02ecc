-- Selections whose fields have the definitions that the types of their sets give them: sections 2.5 and 5.3.1 of GraphQL October 2021.
use Rattle.std.specs.Prelude.{◌≡◌, ℕ, zero, suc, List, Some}
use Rattle.std.specs.List.{AllByRecursion}
use Rattle.std.specs.Option.{unwrap_or}
use Rattle.gql_ast_base.specs.Names.{Named}
use Rattle.gql_ast_base.specs.TypeParts.{named_type}
use Rattle.gql_document_types.specs.RootFields.{fragment_name}
use Rattle.gql_document_types.specs.declared.document.ExecutableDocument.{ExecutableDocument}
use Rattle.gql_document_types.specs.declared.fragment.Fragment.{Fragment}
use Rattle.gql_document_types.specs.declared.operation.Operation.{Operation}
use Rattle.gql_document_types.specs.declared.selection.Field.{Field}
use Rattle.gql_document_types.specs.declared.selection.InlineFragment.{InlineFragment}
use Rattle.gql_document_types.specs.declared.selection.Selection.{Selection, out-Selection}
use Rattle.gql_document_types.specs.declared.selection.Selection.TheOpen.{Selection-F}
use Rattle.gql_document_types.specs.declared.selection.SelectionSet.{SelectionSet}
use Rattle.gql_schema_types.specs.Entries.{entry}
use Rattle.gql_schema_types.specs.Schemas.{field_of}
use Rattle.gql_schema_types.specs.declared.schema.Schema.{Schema}

module _ (schema : Schema) where
  -- one selection of a set on the type of this name, where what is inside it is so
  abbrev pub typed_at : (Named → List Selection → Type 0) → Named → Selection-F Selection Field InlineFragment SelectionSet → Type 0
  typed_at Inside ty (Selection-F.Field it) =
      (field_of schema ty.text it.name.text ≡ Some it.definition) × Inside (named_type it.definition.ty) it.selection_set.selections
  typed_at Inside ty (Selection-F.FragmentSpread it) = Unit {0}
  typed_at Inside ty (Selection-F.InlineFragment it) = Inside (unwrap_or it.type_condition ty) it.selection_set.selections

  abbrev pub TypedTo : ℕ → Named → List Selection → Type 0
  TypedTo zero ty selections = Unit {0}
  TypedTo (suc n) ty selections = AllByRecursion (λ x. typed_at (TypedTo n) ty (out-Selection x)) selections

  -- selections on the type of this name, at every depth
  abbrev pub AreTyped : Named → List Selection → Type 0
  AreTyped ty selections = (n : ℕ) → TypedTo n ty selections

  abbrev pub AreOperationsTyped : List Operation → Type 0
  AreOperationsTyped operations = AllByRecursion (λ (it : Operation). AreTyped it.selection_set.ty it.selection_set.selections) operations

  -- the fragment that a spread finds by its name
  abbrev pub AreFragmentsTyped : List Fragment → Type 0
  AreFragmentsTyped fragments =
      (name : List ℕ) (it : Fragment) → entry fragment_name name fragments ≡ Some it → AreTyped it.selection_set.ty it.selection_set.selections

  pub record IsDocumentTyped (document : ExecutableDocument) : Type 0 where
    pub operations : AreOperationsTyped document.operations
    pub fragments : AreFragmentsTyped document.fragments
