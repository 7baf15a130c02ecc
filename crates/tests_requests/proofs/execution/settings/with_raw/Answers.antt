use Rattle.std.proofs.Common.{refl}
use Rattle.tests_requests.proofs.execution.settings.with_raw.Goals as goal

pub named-requires : goal.named-requires
named-requires c = record {
  no_operation = rw (c.raw_variable_values-execution.ensures, c.new.ensures) refl;
  acyclic = rw (c.raw_variable_values-execution.ensures, c.new.ensures) c.requires;
}
