-- Lists of diagnostics that tell the same.
use Rattle.std.specs.Prelude.{◌≡◌}
use Rattle.std.specs.List.{AllZip}
use Rattle.std.specs.List.Sorted.{IsPermutation}
use Rattle.std.specs.declared.cmp.Ordering.TheVariants.{Equal}
use Rattle.gql_diag.specs.List.{Diagnostics}
use Rattle.gql_diag.specs.Order.{list_order}

-- the same files and the same diagnostics; and item by item the same place, rule and names, and the same other place, be it that the
-- ranges from there end apart
pub record TellTheSame (one other : Diagnostics) : Type 0 where
  pub sources : one.sources ≡ other.sources
  pub items : IsPermutation one.items other.items
  pub places : AllZip (λ item told. list_order item told ≡ Equal) one.items other.items
