use Rattle.gql_resolvers.proofs.Distinct.{distinct_paths}
use Rattle.gql_resolvers.proofs.Faults.{true_faults}
use Rattle.gql_resolvers.proofs.laws.listed_errors_are_true_faults.Goals as goal

pub returns : goal.returns
returns types c = record {
  true_faults = λ w depth root initial all. true_faults w root initial all depth;
  distinct = λ w lawful depth root initial all. distinct_paths w lawful.distinct_keys depth root initial all;
}
