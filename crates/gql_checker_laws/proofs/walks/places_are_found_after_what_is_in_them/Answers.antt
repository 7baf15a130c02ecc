use Rattle.gql_checker_laws.proofs.Inside.{list-found, typed-found}
use Rattle.gql_checker_laws.proofs.walks.places_are_found_after_what_is_in_them.Goals as goal

pub returns-clause-list : goal.returns-clause-list
returns-clause-list types c see w spot items v cs vs given before between after p q fits is some finds own =
    list-found see w spot items v cs vs given before between after p q fits is some finds own

pub returns-clause-object : goal.returns-clause-object
returns-clause-object types c r U groups spot same x v cs ms given outer before between after p q at is some finds own =
    typed-found r U groups spot same x v cs ms given outer before between after p q at is some finds own
