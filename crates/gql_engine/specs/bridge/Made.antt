-- What was made before of the texts that a response is wanted of.
use Rattle.std.specs.Prelude.{◌≡◌, ℕ, List}
use Rattle.gql_engine.specs.declared.made.Made.{Made}
use Rattle.gql_engine.specs.declared.made.Made.TheVariants.{Nothing, Schema, Both}
use Rattle.gql_engine.specs.bridge.Phases.{Mean}

-- it was made of these texts
abbrev pub IsMadeOf : (schema query : List ℕ) → Made → Type 0
IsMadeOf schema query (Nothing schema_text query_text) = (schema ≡ schema_text.now) × (query ≡ query_text.now)
IsMadeOf schema query (Schema service query_text) = (schema ≡ service.now) × (query ≡ query_text.now)
IsMadeOf schema query (Both texts) = Mean schema query texts

-- there are such texts
abbrev pub IsMadeOfSome : Made → Type 0
IsMadeOfSome made = (schema query : List ℕ) × IsMadeOf schema query made
