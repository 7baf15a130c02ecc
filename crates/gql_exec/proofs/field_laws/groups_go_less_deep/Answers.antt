use Rattle.gql_exec.specs.RequestWorld.{setting_on}
use Rattle.gql_exec.proofs.Nests.{groups-below, suffices}
use Rattle.gql_exec.proofs.field_laws.groups_go_less_deep.Goals as goal

pub returns : goal.returns
returns types c = record {
  below = λ r ranked U gs sets same. groups-below (setting_on r U) ranked.0 ranked.1 gs sets same;
  enough = λ r ranked U sets. suffices r ranked.0 ranked.1 U sets;
}
