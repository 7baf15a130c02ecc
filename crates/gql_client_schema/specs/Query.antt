-- The query that a schema is read from.
use Rattle.std.specs.Prelude.{ℕ, List}
use Rattle.gql_client_schema.specs.declared.full_query.TheConstants.{FULL_QUERY}

unfoldable pub full_query : List ℕ
full_query = FULL_QUERY.now
