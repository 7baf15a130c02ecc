use Rattle.std.proofs.Common.{refl}
use Rattle.tests_requests.proofs.execution.settings.by_name.Goals as goal

pub named-requires : goal.named-requires
named-requires c = record {
  no_operation = rw c.new-execution.ensures refl;
  acyclic = rw c.new-execution.ensures c.requires;
}
