-- Some diagnostics alone, or such ones where there are none.
use Rattle.std.proofs.Common.{◌≡◌, List, [], ◌∷◌, refl, subst}
use Rattle.gql_diag_messages.specs.declared.diagnostic_data.DiagnosticData.{DiagnosticData}
use Rattle.gql_rules.specs.DocumentFaults.{AreFirstOrAll}

module _ (AreOthers : List DiagnosticData → Type 0) where
  pub alone : (faults : List DiagnosticData) → (faults ≡ [] → ⊥) → AreFirstOrAll AreOthers faults faults
  alone [] some = absurd (some refl)
  alone (fault ∷ faults) some = refl

  -- the first diagnostics under another name
  pub of_same : (firsts same new : List DiagnosticData) → same ≡ firsts → AreFirstOrAll AreOthers same new → AreFirstOrAll AreOthers firsts new
  of_same firsts same new is are = subst (λ l. AreFirstOrAll AreOthers l new) is are
