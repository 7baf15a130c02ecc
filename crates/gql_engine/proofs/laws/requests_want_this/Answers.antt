use Rattle.std.proofs.Common.{[], refl}
use Rattle.std.specs.Option.{unwrap_or}
use Rattle.gql_engine.proofs.Replies.{begins_at, wanted_is}
use Rattle.gql_engine.proofs.laws.requests_want_this.Goals as goal

pub returns-clause-wanted : goal.returns-clause-wanted
returns-clause-wanted c = λ request none empty. wanted_is request none (unwrap_or request.variables none) empty refl

pub returns-clause-root : goal.returns-clause-root
returns-clause-root c = λ request none found empty is. begins_at request none found empty is (record { type_name = []; members = found.now }) refl
