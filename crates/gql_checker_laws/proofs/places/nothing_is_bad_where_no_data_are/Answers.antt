use Rattle.gql_checker_laws.proofs.Quiet.{items-quiet, groups-quiet, set-quiet}
use Rattle.gql_checker_laws.proofs.places.nothing_is_bad_where_no_data_are.Goals as goal

pub returns-clause-items : goal.returns-clause-items
returns-clause-items types c w run list i ms cs = items-quiet w run list i ms cs

pub returns-clause-groups : goal.returns-clause-groups
returns-clause-groups types c w run U x outer gs cs = groups-quiet w run U x outer gs cs

pub returns-clause-set : goal.returns-clause-set
returns-clause-set types c w depth U x outer s cs = set-quiet w depth U x outer s cs
