use Rattle.gql_checker_laws.proofs.Walking.{walking-begun, walking-more, walking-ends}
use Rattle.gql_checker_laws.proofs.walks.lists_are_walked_item_by_item.Goals as goal

pub returns-clause-begun : goal.returns-clause-begun
returns-clause-begun types c w list vs cs before left all is = walking-begun w list vs cs before left all is

pub returns-clause-more : goal.returns-clause-more
returns-clause-more types c w list vs cs passes comes now next before i left rest all m v own is value shared finds so_far =
    walking-more w list vs cs passes comes now next before i left rest all m v own is value shared finds so_far

pub returns-clause-ends : goal.returns-clause-ends
returns-clause-ends types c w list vs cs passes now before i left all is so_far = walking-ends w list vs cs passes now before i left all is so_far
