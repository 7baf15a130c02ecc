-- Fields with the definitions that the types of their sets give them, and sets on the types of what they stand in.
use Rattle.std.proofs.Common.{◌≡◌, ℕ, zero, suc, List, ◌∷◌, Some, unwrap_or, subst}
use Rattle.std.specs.List.{AllByRecursion}
use Rattle.gql_ast_base.specs.Names.{Named}
use Rattle.gql_ast_base.specs.TypeParts.{named_type}
use Rattle.gql_collect.specs.Flat.{Shape}
use Rattle.gql_document_types.proofs.Variants.{out-field, out-inline}
use Rattle.gql_document_types.specs.RootFields.{fragment_name}
use Rattle.gql_document_types.specs.declared.document.ExecutableDocument.{ExecutableDocument}
use Rattle.gql_document_types.specs.declared.fragment.Fragment.{Fragment}
use Rattle.gql_document_types.specs.declared.operation.Operation.{Operation}
use Rattle.gql_document_types.specs.declared.selection.Field.{Field}
use Rattle.gql_document_types.specs.declared.selection.InlineFragment.{InlineFragment}
use Rattle.gql_document_types.specs.declared.selection.Selection.{Selection, out-Selection}
use Rattle.gql_document_types.specs.declared.selection.Selection.TheOpen.{Selection-F}
use Rattle.gql_document_types.specs.declared.selection.Selection.TheVariants as selection
use Rattle.gql_schema_types.specs.Entries.{entry}
use Rattle.gql_schema_types.specs.Schemas.{field_of}
use Rattle.gql_schema_types.specs.declared.schema.Schema.{Schema}

module _ (schema : Schema) where
  abbrev pub based_at : (Named → List Selection → Type 0) → Named → Shape → Type 0
  based_at Inside ty (Selection-F.Field it) =
      (field_of schema ty.text it.name.text ≡ Some it.definition)
      × (it.selection_set.ty ≡ named_type it.definition.ty)
      × Inside it.selection_set.ty it.selection_set.selections
  based_at Inside ty (Selection-F.FragmentSpread it) = Unit {0}
  based_at Inside ty (Selection-F.InlineFragment it) =
      (it.selection_set.ty ≡ unwrap_or it.type_condition ty) × Inside it.selection_set.ty it.selection_set.selections

  abbrev pub BasedTo : ℕ → Named → List Selection → Type 0
  BasedTo zero ty selections = Unit {0}
  BasedTo (suc n) ty selections = AllByRecursion (λ x. based_at (BasedTo n) ty (out-Selection x)) selections

  abbrev pub AreBased : Named → List Selection → Type 0
  AreBased ty selections = (n : ℕ) → BasedTo n ty selections

  -- of a whole document
  pub record IsDocumentBased (document : ExecutableDocument) : Type 0 where
    pub operations : AllByRecursion (λ (it : Operation). AreBased it.selection_set.ty it.selection_set.selections) document.operations
    pub fragments : (name : List ℕ) (it : Fragment) → entry fragment_name name document.fragments ≡ Some it → AreBased it.selection_set.ty it.selection_set.selections

  pub based-rest : (ty : Named) (x : Selection) (xs : List Selection) → AreBased ty (x ∷ xs) → AreBased ty xs
  based-rest ty x xs based zero = tt
  based-rest ty x xs based (suc n) = (based (suc n)).1

  pub record IsFieldBased (ty : Named) (it : Field) : Type 0 where
    pub defined : field_of schema ty.text it.name.text ≡ Some it.definition
    pub type : it.selection_set.ty ≡ named_type it.definition.ty
    pub inside : AreBased it.selection_set.ty it.selection_set.selections

  pub record IsInlineBased (ty : Named) (it : InlineFragment) : Type 0 where
    pub type : it.selection_set.ty ≡ unwrap_or it.type_condition ty
    pub inside : AreBased it.selection_set.ty it.selection_set.selections

  pub based-field : (ty : Named) (it : Field) (xs : List Selection) → AreBased ty (selection.Field it ∷ xs) → IsFieldBased ty it
  based-field ty it xs based = record { defined = (at 0).0; type = (at 0).1; inside = λ n. (at n).2 }
    where
      at : (n : ℕ) → based_at (BasedTo n) ty (Selection-F.Field it)
      at n = subst (based_at (BasedTo n) ty) (out-field it) (based (suc n)).0

  pub based-inline : (ty : Named) (it : InlineFragment) (xs : List Selection) → AreBased ty (selection.InlineFragment it ∷ xs) → IsInlineBased ty it
  based-inline ty it xs based = record { type = (at 0).0; inside = λ n. (at n).1 }
    where
      at : (n : ℕ) → based_at (BasedTo n) ty (Selection-F.InlineFragment it)
      at n = subst (based_at (BasedTo n) ty) (out-inline it) (based (suc n)).0
