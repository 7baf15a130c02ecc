-- What only private clauses and proofs cite, beside `Costs`.
use Rattle.std.specs.Prelude.{box_value}
use Rattle.gql_c.specs.declared.operation_cost.Costing.{Costing}
use Rattle.gql_c.specs.declared.operation_cost.Costing.TheVariants.{TooCostly, NoMemory}
use Rattle.gql_c.specs.Costs.{SaysTooCostly}

-- the reply says so
abbrev pub IsTooCostlyTold : Costing → Type 0
IsTooCostlyTold (TooCostly held) = SaysTooCostly (box_value held)
IsTooCostlyTold NoMemory = Unit {0}
IsTooCostlyTold costing = ⊥
