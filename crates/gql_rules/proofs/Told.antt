-- What is told of the operations of a document, one after another.
use Rattle.std.proofs.Common.{◌≡◌, List, [], ◌∷◌, ◌++◌, map, refl, sym, ap, ◌∙◌, append_assoc}
use Rattle.std.specs.List.{All, flat_map}
use Rattle.std.proofs.lemmas.Grind.{flat_map-append}
use Rattle.std.proofs.lemmas.List.{map-append, append-nil}
use Rattle.std.proofs.lemmas.List.Elements.{All-append, All-cons, All-nil}
use Rattle.gql_diag_messages.specs.declared.diagnostic_data.DiagnosticData.{DiagnosticData}
use Rattle.gql_document_types.specs.declared.document.ExecutableDocument.{ExecutableDocument}
use Rattle.gql_document_types.specs.declared.fragment.Fragment.{Fragment}
use Rattle.gql_document_types.specs.declared.operation.Operation.{Operation}
use Rattle.gql_rules.proofs.Reaches.{rows_for, rows-fresh, rows-one_more, rows-told, operation-told}
use Rattle.gql_rules.specs.bridge.Judged.{Judged}
use Rattle.gql_rules.specs.bridge.Operations.{fresh_rows, rows_told, rows_after, operation_told, IsJudged}
use Rattle.gql_rules.specs.VariableFaults.{Reach, IsReach, fragments_faults, operation_faults, AreVariableFaults}
use Rattle.gql_schema_types.specs.declared.schema.Schema.{Schema}

-- these operations are judged: what is left of the uses in fragments, and what the list has now
pub record AreSoFar
    (schema : Schema)
    (fragments : List Fragment)
    (operations : List Operation)
    (old : List DiagnosticData)
    (rows : List (List Judged))
    (new : List DiagnosticData) : Type 0 where
  pub reaches : List Reach
  pub of_operations : map (λ (reach : Reach). reach.operation) reaches ≡ operations
  pub reached : All (IsReach fragments) reaches
  pub rows_are : rows ≡ rows_for schema reaches 0 fragments
  pub listed : new ≡ old ++ flat_map (operation_faults schema fragments) reaches

module _ (schema : Schema) (fragments : List Fragment) where
  pub none-yet : (old : List DiagnosticData) (rows : List (List Judged)) → rows ≡ fresh_rows schema fragments → AreSoFar schema fragments [] old rows old
  none-yet old rows are = record {
    reaches = [];
    of_operations = refl;
    reached = All-nil (IsReach fragments);
    rows_are = are ∙ rows-fresh schema 0 fragments;
    listed = sym (append-nil old);
  }

  pub one-more : (operations : List Operation) (operation : Operation) (old : List DiagnosticData) (rows judged : List (List Judged)) (mid new : List DiagnosticData)
      → AreSoFar schema fragments operations old rows mid → IsJudged schema fragments operation rows mid judged new
      → AreSoFar schema fragments (operations ++ operation ∷ []) old judged new
  one-more operations operation old rows judged mid new before now =
      let reach : Reach = record { operation = operation; states = now.states } in
      let all = before.reaches ++ reach ∷ [] in
      let told = operation_faults schema fragments in
      record {
        reaches = all;
        of_operations = map-append (λ (r : Reach). r.operation) before.reaches (reach ∷ []) ∙ ap (λ l. l ++ operation ∷ []) before.of_operations;
        reached = All-append (IsReach fragments) before.reaches (reach ∷ []) before.reached (All-cons (IsReach fragments) reach [] now.reach (All-nil (IsReach fragments)));
        rows_are = now.rows_are ∙ ap (rows_after schema operation now.states) before.rows_are ∙ rows-one_more schema before.reaches reach 0 fragments;
        listed =
            now.listed
            ∙ ap (λ r. mid ++ operation_told schema operation now.states r) before.rows_are
            ∙ ap (λ l. mid ++ l) (operation-told schema before.reaches reach fragments)
            ∙ ap (λ l. l ++ told reach) before.listed
            ∙ append_assoc old (flat_map told before.reaches) (told reach)
            ∙ ap (λ l. old ++ (flat_map told before.reaches ++ l)) (sym (append-nil (told reach)))
            ∙ ap (λ l. old ++ l) (sym (flat_map-append told before.reaches (reach ∷ [])));
      }

pub all-told : (schema : Schema) (document : ExecutableDocument) (old : List DiagnosticData) (rows : List (List Judged)) (mid new : List DiagnosticData)
    → AreSoFar schema document.fragments document.operations old rows mid → new ≡ mid ++ rows_told rows
    → (told : List DiagnosticData) × AreVariableFaults schema document told × (new ≡ old ++ told)
all-told schema document old rows mid new all then =
    let first = flat_map (operation_faults schema document.fragments) all.reaches in
    let last = fragments_faults schema all.reaches 0 document.fragments in (
      first ++ last,
      record { reaches = all.reaches; of_operations = all.of_operations; reached = all.reached; whole = refl },
      then
          ∙ ap (λ r. mid ++ rows_told r) all.rows_are
          ∙ ap (λ l. mid ++ l) (rows-told schema all.reaches 0 document.fragments)
          ∙ ap (λ l. l ++ last) all.listed
          ∙ append_assoc old first last,
    )
