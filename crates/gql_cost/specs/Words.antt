-- What the words of the program ask for.
use Rattle.std.specs.Prelude.{ℕ, List, [], ◌∷◌, codes}
use Rattle.gql_engine.specs.DecimalWord.{IsDecimalWord}
use Rattle.gql_engine.specs.Serving.{line}
use Rattle.gql_cost.specs.declared.cost_limit.CostLimit.{CostLimit}

-- what is written where the words are no command
abbrev pub usage : List ℕ
usage = line (codes "usage: gql_cost ITEMS LIMIT")

-- two numbers in decimal, without a leading zero: how many items lists are taken to have, and how many nodes may be
pub data Asks : List (List ℕ) → CostLimit → Type 0 where
  by_numbers : (items nodes : List ℕ) (limit : CostLimit) → IsDecimalWord items limit.items → IsDecimalWord nodes limit.nodes
      → Asks (items ∷ nodes ∷ []) limit

-- they ask for none
abbrev pub IsNoCommand : List (List ℕ) → Type 0
IsNoCommand words = (limit : CostLimit) → Asks words limit → ⊥
