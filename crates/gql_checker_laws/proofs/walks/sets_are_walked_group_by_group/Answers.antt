use Rattle.gql_checker_laws.proofs.Walking.{visiting-begun, visiting-more, visiting-ends}
use Rattle.gql_checker_laws.proofs.walks.sets_are_walked_group_by_group.Goals as goal

pub returns-clause-begun : goal.returns-clause-begun
returns-clause-begun types c w U x outer ms cs before left all is = visiting-begun w U x outer ms cs before left all is

pub returns-clause-more : goal.returns-clause-more
returns-clause-more types c w U x outer ms cs passes comes now next before i left rest all g v own is value shared finds so_far =
    visiting-more w U x outer ms cs passes comes now next before i left rest all g v own is value shared finds so_far

pub returns-clause-ends : goal.returns-clause-ends
returns-clause-ends types c w U x outer ms cs passes now before i left all is so_far = visiting-ends w U x outer ms cs passes now before i left all is so_far
