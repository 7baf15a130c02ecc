-- What only private clauses and proofs cite, beside `Wanted`.
use Rattle.std.specs.Prelude.{ℕ, zero, suc, List, [], ◌∷◌, ◌++◌}
use Rattle.gql_document_types.specs.declared.selection.Selection.{Selection}
use Rattle.gql_exec.specs.Group.{Group}
use Rattle.gql_exec.specs.Request.{Request}
use Rattle.gql_exec.specs.RequestWorld.{plain_world}
use Rattle.gql_resolvers.specs.World.{World}
use Rattle.gql_schema_types.specs.declared.types.ObjectType.{ObjectType}
use Rattle.gql_rounds.specs.Known.{Known}
use Rattle.gql_rounds.specs.Levels.{level}
use Rattle.gql_rounds.specs.Table.{with_answer}
use Rattle.gql_rounds.specs.declared.ask.Ask.{Ask}
use Rattle.gql_rounds.specs.Wanted.{KnownStand, wanted, key_of}

abbrev pub KnownWorld : Type 0
KnownWorld = World Known ObjectType Group (List (List Selection))

module _ (r : Request Known) where
  -- at the levels above this one
  abbrev pub wanted_above : KnownStand → ℕ → List Ask
  wanted_above root zero = []
  wanted_above root (suc n) = wanted_above root n ++ wanted r (level (plain_world r) root n)

-- each once, by its key
abbrev pub noted : List (List ℕ × Ask) → Ask → List (List ℕ × Ask)
noted asks ask = with_answer asks (key_of ask) ask

abbrev pub all_noted : List (List ℕ × Ask) → List Ask → List (List ℕ × Ask)
all_noted asks [] = asks
all_noted asks (ask ∷ more) = all_noted (noted asks ask) more
