use Rattle.gql_exec.proofs.ThingSkips.{things-never-skip}
use Rattle.gql_exec.proofs.laws.introspected_things_never_skip.Goals as goal

pub returns : goal.returns
returns g c = λ resolves never. things-never-skip resolves never
