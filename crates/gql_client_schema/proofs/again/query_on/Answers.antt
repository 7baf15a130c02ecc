use Rattle.gql_client_schema.proofs.again.query_on.Goals as goal

pub returns-in-None : goal.returns-in-None
returns-in-None c = λ document query. (rw c.in-None.is at c.in_ok-document.ensures) document query.built
