use Rattle.std.proofs.Common.{refl}
use Rattle.tests_requests.proofs.execution.settings.with_coerced.Goals as goal

pub named-requires : goal.named-requires
named-requires c = record {
  no_operation = rw (c.coerced_variable_values-execution.ensures, c.implementers_map-2.ensures, c.new.ensures) refl;
  acyclic = rw (c.coerced_variable_values-execution.ensures, c.implementers_map-2.ensures, c.new.ensures) c.requires;
}
