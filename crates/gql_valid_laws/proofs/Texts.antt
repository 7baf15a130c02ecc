-- Documents that texts mean have no conflicts, so their fields merge.
use Rattle.std.proofs.Common.{◌≡◌, ℕ, List, [], ◌∷◌, ◌++◌, sym, subst}
use Rattle.std.specs.List.{Contains}
use Rattle.gql_collect.specs.Flat.{flat, enough}
use Rattle.gql_collect.specs.Kept.{Variables}
use Rattle.gql_diag_messages.specs.declared.diagnostic_data.DiagnosticData.{DiagnosticData}
use Rattle.gql_document_types.specs.declared.document.ExecutableDocument.{ExecutableDocument}
use Rattle.gql_document_types.specs.Contents.{HaveContents}
use Rattle.gql_document_types.specs.Expanded.{expanded}
use Rattle.gql_document_types.specs.declared.fragment.Fragment.{Fragment}
use Rattle.gql_document_types.specs.declared.operation.Operation.{Operation}
use Rattle.gql_parser.specs.DocumentText.{DocumentText}
use Rattle.gql_parser.specs.OutputFields.{HaveNoReservedFields, HaveOutputTypes}
use Rattle.gql_rules.specs.DocumentFaults.{AreDocumentFaults, AreOtherFaults, AreFirstOrAll}
use Rattle.gql_rules_merging.specs.FieldSelectionMerging.{AreConflicts}
use Rattle.gql_schema_types.specs.declared.schema.Schema.{Schema}
use Rattle.gql_schema_types.specs.declared.types.ObjectType.{ObjectType}
use Rattle.gql_valid_laws.proofs.Built.{text-based}
use Rattle.gql_valid_laws.proofs.Depths.{one-depth}
use Rattle.gql_valid_laws.proofs.Expanded.{expanded-names}
use Rattle.gql_valid_laws.proofs.Merging.{names-merge, one-name, operation-merges}
use Rattle.gql_valid_laws.specs.Covariant.{Stands}
use Rattle.gql_valid_laws.specs.Merge.{HaveOneDepth, HaveOneName, AreOfOneName, OperationsMerge, on}

last-empty : {A : Type 0} (xs ys : List A) → [] ≡ xs ++ ys → ys ≡ []
last-empty [] ys is = sym is
last-empty (x ∷ xs) ys is = absurd (let e : [] ≡ x ∷ (xs ++ ys) = is in cc)

no-conflicts : (schema : Schema) (document : ExecutableDocument) → AreDocumentFaults schema document [] → AreConflicts schema.types document []
no-conflicts schema document holds = by holds.spreads holds.whole
  where
    of_others : AreOtherFaults schema document [] → AreConflicts schema.types document []
    of_others others = subst (AreConflicts schema.types document) (last-empty _ others.conflicts others.whole) others.are_conflicts

    by : (spreads : List DiagnosticData) → AreFirstOrAll (AreOtherFaults schema document) spreads [] → AreConflicts schema.types document []
    by [] whole = of_others whole
    by (first ∷ firsts) whole = absurd (let e : [] ≡ first ∷ firsts = whole in cc)

module _ (schema : Schema) (text : List ℕ) (document : ExecutableDocument) (means : DocumentText schema text document) where
  pub text-names : OperationsMerge HaveOneName schema document
  text-names operation among T stands variables =
      names-merge schema document (text-based schema text document means) (no-conflicts schema document means.holds) operation among T stands variables

  pub text-root : (operation : Operation) → Contains document.operations operation → (T : ObjectType) → Stands schema T operation.selection_set.ty.text
      → (variables : Variables) → AreOfOneName (flat (on HaveOneName schema document.fragments variables T) operation.selection_set.selections)
  unfolding flat
  text-root operation among T stands variables =
      one-name schema document (text-based schema text document means) (no-conflicts schema document means.holds) operation among T stands variables
      (enough (on HaveOneName schema document.fragments variables T) operation.selection_set.selections)

  -- the same of what is left when each spread is replaced, in a document of any fragments
  pub text-expanded : HaveContents document.fragments → (operation : Operation) → Contains document.operations operation
      → (T : ObjectType) → Stands schema T operation.selection_set.ty.text → (variables : Variables) (others : List Fragment)
      → AreOfOneName (flat (on HaveOneName schema others variables T) (expanded document.fragments operation.selection_set.selections))
  text-expanded have operation among T stands variables others =
      expanded-names document.fragments others schema T variables have operation.selection_set.selections
      (one-name schema document (text-based schema text document means) (no-conflicts schema document means.holds) operation among T stands variables)

  pub text-depths : HaveOutputTypes schema → HaveNoReservedFields schema → OperationsMerge HaveOneDepth schema document
  text-depths outputs unreserved operation among T stands variables =
      let are_based = text-based schema text document means in
      let none = no-conflicts schema document means.holds in
      operation-merges schema document are_based none HaveOneDepth (one-depth schema outputs unreserved document are_based none) variables operation among T stands
