-- What a list has where memory ran out.
use Rattle.std.proofs.Common.{◌≡◌, ◌⊎◌, inl, inr, Result, Ok, Err, OnErr, List}
use Rattle.gql_diag_messages.specs.declared.diagnostic_data.DiagnosticData.{DiagnosticData}
use Rattle.gql_diag.specs.Taken.{HasTakenSome, HasListedSome}

-- what has taken some of the faults lists some of them
pub some_listed : (AreFaults : List DiagnosticData → Type 0) (faults old new : List DiagnosticData) → AreFaults faults → HasTakenSome old faults new
    → (new ≡ old) ⊎ ((faults : List DiagnosticData) × AreFaults faults × HasListedSome old faults new)
some_listed AreFaults faults old new are taken =
    inr (faults, are, record { some = taken.some; rest = taken.rest; all = taken.all; listed = inl taken.taken })

-- what follows from what a refusal tells
pub on_refusal : {T E P Q : Type 0} (r : Result T E) → (P → Q) → OnErr r P → OnErr r Q
on_refusal (Ok x) f told = tt
on_refusal (Err e) f told = f told
