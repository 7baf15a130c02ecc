use Rattle.gql_exec.proofs.Alike.{blind, collected-distinct, collected-runs}
use Rattle.gql_exec.proofs.field_laws.repeats_change_nothing.Goals as goal

pub returns : goal.returns
returns types c = record {
  runs = λ r U gs sets same depth enough. collected-runs r U gs sets same depth enough;
  keys = λ r U gs sets same. collected-distinct r U gs sets same;
  sets = λ r depth U x outer sets others same. blind r depth U x outer sets others same;
}
