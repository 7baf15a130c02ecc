-- Some diagnostics alone, or such ones where there are none.
use Rattle.std.proofs.Common.{◌≡◌, ◌≢◌, ◌++◌, Result, Ok, Err, IfOk, Bool, true, false, List, [], ◌∷◌, refl, sym, ap, ◌∙◌, subst}
use Rattle.std.proofs.lemmas.Bool.{false≢true}
use Rattle.gql_ast.specs.declared.definition.Definition.{Definition}
use Rattle.gql_diag_messages.specs.declared.diagnostic_data.DiagnosticData.{DiagnosticData}
use Rattle.gql_document.specs.DistinctDefinitions.{definition_faults, distinct_definitions}
use Rattle.gql_document.specs.declared.executable_definitions.ExecutableDefinitions.{ExecutableDefinitions}
use Rattle.gql_rules.specs.UntypedDocument.{untyped_document}
use Rattle.gql_rules.specs.DocumentFaults.{AreFirstOrAll}
use Rattle.gql_rules.specs.UntypedFaults.{AreDocumentFaults, AreUntypedFaults}

pub not_empty : (b : Bool) (faults : List DiagnosticData) → (faults ≡ [] → b ≡ true) → b ≡ false → faults ≢ []
not_empty b faults is test none = false≢true (sym test ∙ is none)

module _ (AreOthers : List DiagnosticData → Type 0) where
  pub alone : (faults : List DiagnosticData) → faults ≢ [] → AreFirstOrAll AreOthers faults faults
  alone [] some = absurd (some refl)
  alone (fault ∷ faults) some = refl

  all_made : (firsts faults : List DiagnosticData) → firsts ≡ [] → AreOthers faults → AreFirstOrAll AreOthers firsts faults
  all_made [] faults none are = are
  all_made (first ∷ firsts) faults none are = absurd cc

  -- the same of what is answered
  pub all_answered : {E : Type 0} (r : Result (List DiagnosticData) E) (firsts : List DiagnosticData) → firsts ≡ [] → IfOk r AreOthers
      → IfOk r (λ faults. AreFirstOrAll AreOthers firsts faults)
  all_answered (Ok faults) firsts none are = all_made firsts faults none are
  all_answered (Err e) firsts none are = tt

  -- the first diagnostics under another name
  pub of_same : (firsts same faults : List DiagnosticData) → same ≡ firsts → AreFirstOrAll AreOthers same faults → AreFirstOrAll AreOthers firsts faults
  of_same firsts same faults is are = subst (λ l. AreFirstOrAll AreOthers l faults) is are

-- the same of definitions, with what is distinct among them and what is wrong with them by themselves under other names
module _ (definitions : List Definition) (distinct : ExecutableDefinitions) (firsts : List DiagnosticData) (made : distinct ≡ distinct_definitions definitions)
    (listed : firsts ≡ definition_faults definitions) where
  of_these : (faults : List DiagnosticData) → AreFirstOrAll (AreDocumentFaults (untyped_document distinct)) firsts faults → AreUntypedFaults definitions faults
  of_these faults are = record {
    whole =
        subst (λ (e : ExecutableDefinitions). AreFirstOrAll (AreDocumentFaults (untyped_document e)) (definition_faults definitions) faults) made
        (of_same (AreDocumentFaults (untyped_document distinct)) (definition_faults definitions) firsts faults listed are);
  }

  pub of_definitions : {E : Type 0} (r : Result (List DiagnosticData) E)
      → IfOk r (λ faults. AreFirstOrAll (AreDocumentFaults (untyped_document distinct)) firsts faults) → IfOk r (λ faults. AreUntypedFaults definitions faults)
  of_definitions (Ok faults) are = of_these faults are
  of_definitions (Err e) are = tt

-- four lists, added one after another to none
pub added : (none one two three four us vs ws xs : List DiagnosticData) → none ≡ [] → one ≡ none ++ us → two ≡ one ++ vs → three ≡ two ++ ws → four ≡ three ++ xs
    → four ≡ ((us ++ vs) ++ ws) ++ xs
added none one two three four us vs ws xs a b c d e =
    e ∙ ap (λ l. l ++ xs) (d ∙ ap (λ l. l ++ ws) (c ∙ ap (λ l. l ++ vs) (b ∙ ap (λ l. l ++ us) a)))
