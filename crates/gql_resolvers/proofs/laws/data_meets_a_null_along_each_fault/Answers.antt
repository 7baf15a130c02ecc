use Rattle.std.specs.Prelude.{Contains}
use Rattle.std.proofs.Common.{subst, sym, ap}
use Rattle.gql_resolvers.specs.Along.{MeetsNull}
use Rattle.gql_resolvers.proofs.Meets.{meets_null}
use Rattle.gql_resolvers.proofs.laws.data_meets_a_null_along_each_fault.Goals as goal

pub returns : goal.returns
returns types c = λ w root initial all listed members fields error fault.
    subst (MeetsNull members) (ap (λ e. e.path) (sym fault.1.is)) (meets_null w root initial all (Contains listed) members fields fault.1.fault fault.1.reached fault.1.told)
