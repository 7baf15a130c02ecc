-- The roots of two schemas.
use Rattle.gql_client_schema_laws.proofs.Duplicates.{none_doubled_again}
use Rattle.gql_client_schema_laws.proofs.RootRules.{has_query, roots_right}
use Rattle.gql_client_schema_laws.proofs.laws.shown_roots_are_right_alike.Goals as goal

pub returns : goal.returns
returns c = record { query = has_query; roots = roots_right; apart = none_doubled_again }
