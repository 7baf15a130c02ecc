-- What only private clauses and proofs cite, beside `Execution`.
use Rattle.std.specs.Prelude.{◌≡◌, ℕ, List, Result, Ok, Err}
use Rattle.jb_text.specs.declared.refused.Refused.{Refused}
use Rattle.jb_text.specs.declared.refused.Refused.TheVariants.{Fault, Memory}
use Rattle.gql_response.specs.declared.request_error.RequestError.{RequestError}
use Rattle.gql_response.specs.declared.execution_response.ExecutionResponse.{ExecutionResponse}
use Rattle.gql_exec.specs.ThingMeaning.{Resolving}
use Rattle.gql_exec.specs.Response.{IsExecuted, IsExplained}
use Rattle.gql_exec.specs.Looks.{AreLooks}
use Rattle.gql_exec.specs.declared.execution.Execution.{Execution}
use Rattle.gql_exec.specs.Execution.{undefined_root, Prepared, request_in}

abbrev pub IsUndefinedRoot : Refused RequestError → Type 0
IsUndefinedRoot (Fault fault) = fault ≡ undefined_root
IsUndefinedRoot Memory = Unit {0}

-- the answer, and the looks for it
abbrev pub IsCounted : {X : Type 0} → Execution → (X → List ℕ) → Resolving X → X → (before after : ℕ) → Result Prepared RequestError
    → Result ExecutionResponse (Refused RequestError) → Type 0
IsCounted execution types resolves x before after wanted (Ok response) =
    (p : Prepared) × (wanted ≡ Ok p)
    × IsExecuted (request_in execution p.variables types resolves) p.root x p.operation.selection_set.selections response
    × IsExplained (request_in execution p.variables types resolves) p.root x p.operation.selection_set.selections response
    × AreLooks (request_in execution p.variables types resolves) p.root x p.operation.selection_set.selections before after
IsCounted execution types resolves x before after wanted (Err (Fault fault)) = wanted ≡ Err fault
IsCounted execution types resolves x before after wanted (Err Memory) = Unit {0}
