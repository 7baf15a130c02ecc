-- When a cost is above a limit.
use Rattle.std.specs.Prelude.{◌<◌, ℕ, List}
use Rattle.jb_text.specs.declared.refused.Refused.{Refused}
use Rattle.jb_text.specs.declared.refused.Refused.TheVariants.{Fault, Memory}
use Rattle.gql_document_types.specs.declared.fragment.Fragment.{Fragment}
use Rattle.gql_document_types.specs.declared.selection.Selection.{Selection}
use Rattle.gql_cost.specs.Sum.{cost}
use Rattle.gql_cost.specs.declared.costing.CostFault.{CostFault}

abbrev pub IsTooCostly : ℕ → List Fragment → List Selection → ℕ → Refused CostFault → Type 0
IsTooCostly items fragments selections limit (Fault fault) = limit < cost items fragments selections
IsTooCostly items fragments selections limit Memory = Unit {0}
