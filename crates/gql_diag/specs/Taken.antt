-- What a list has after some of the diagnostics that it was to take.
use Rattle.std.specs.Prelude.{◌≡◌, ◌⊎◌, List, ◌++◌}
use Rattle.gql_diag.specs.List.{IsStableSort}
use Rattle.gql_diag.specs.Order.{list_order}
use Rattle.gql_diag_messages.specs.declared.diagnostic_data.DiagnosticData.{DiagnosticData}

pub record HasTakenSome (old faults new : List DiagnosticData) : Type 0 where
  pub some : List DiagnosticData
  pub rest : List DiagnosticData
  pub all : faults ≡ some ++ rest
  pub taken : new ≡ old ++ some

-- the same, where the list may have been sorted since
pub record HasListedSome (old faults new : List DiagnosticData) : Type 0 where
  pub some : List DiagnosticData
  pub rest : List DiagnosticData
  pub all : faults ≡ some ++ rest
  pub listed : (new ≡ old ++ some) ⊎ IsStableSort list_order (old ++ some) new
