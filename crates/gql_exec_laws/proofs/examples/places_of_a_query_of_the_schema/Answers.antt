use Rattle.gql_exec_laws.proofs.DeepFields.{place-none, place-field, place-spread}
use Rattle.gql_exec_laws.proofs.examples.places_of_a_query_of_the_schema.Goals as goal

pub returns-clause-none : goal.returns-clause-none
returns-clause-none c = place-none

pub returns-clause-field : goal.returns-clause-field
returns-clause-field c = place-field

pub returns-clause-spread : goal.returns-clause-spread
returns-clause-spread c = place-spread
