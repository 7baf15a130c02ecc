-- What the words of the program ask for.
use Rattle.std.specs.Prelude.{◌≡◌, ◌≤◌, ℕ, List, [], ◌∷◌, codes}
use Rattle.std.specs.Fmt.{decimal}
use Rattle.gql_engine.specs.declared.task.Task.{Task}
use Rattle.gql_engine.specs.declared.task.Task.TheVariants.{Request, SelfTest}
use Rattle.gql_engine.specs.declared.task.TheConstants.{MOST_ITEMS}
use Rattle.gql_engine.specs.declared.task.Wish.{Wish}
use Rattle.gql_engine.specs.declared.task.Wish.TheVariants.{Answer, Check}

-- the word is a number of items in decimal, without a leading zero
abbrev pub IsCount : List ℕ → ℕ → Type 0
IsCount word n = (word ≡ decimal n) × (n ≤ MOST_ITEMS)

abbrev pub name_of : Wish → List ℕ
name_of Answer = codes "answer"
name_of Check = codes "check"

-- the words ask for this task: its name alone, or `selftest` and a number of items
pub data Asks : List (List ℕ) → Task → Type 0 where
  by_name : (wish : Wish) → Asks (name_of wish ∷ []) (Request wish)
  by_count : (word : List ℕ) (n : ℕ) → IsCount word n → Asks (codes "selftest" ∷ word ∷ []) (SelfTest n)

-- they ask for none
abbrev pub IsNoCommand : List (List ℕ) → Type 0
IsNoCommand words = (task : Task) → Asks words task → ⊥

-- they ask for one that reads a request
abbrev pub ReadsInput : List (List ℕ) → Type 0
ReadsInput words = (wish : Wish) × Asks words (Request wish)
