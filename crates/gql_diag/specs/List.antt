-- Lists of diagnostics, and what sorting one leaves.
use Rattle.std.specs.Prelude.{List}
use Rattle.std.specs.declared.cmp.Ordering.{Ordering}
use Rattle.std.specs.List.Sorted.{IsPermutation, IsSorted, IsStable}
use Rattle.gql_source.specs.File.{Files}
use Rattle.gql_diag_messages.specs.declared.diagnostic_data.DiagnosticData.{DiagnosticData}

-- diagnostics, and the files that they are of
pub record Diagnostics : Type 0 where
  pub sources : Files
  pub items : List DiagnosticData

-- the same items in this order, where those that tie stand as they stood
pub record IsStableSort (order : DiagnosticData → DiagnosticData → Ordering) (old new : List DiagnosticData) : Type 0 where
  pub permutation : IsPermutation old new
  pub sorted : IsSorted order new
  pub stable : IsStable order old new
