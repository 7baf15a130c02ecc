use Rattle.std.proofs.Common.{refl}
use Rattle.tests_requests.proofs.execution.settings.introspected.Goals as goal

pub named-requires : goal.named-requires
named-requires c = record {
  no_operation = rw (c.enable_schema_introspection-execution.ensures, c.new.ensures) refl;
  acyclic = rw (c.enable_schema_introspection-execution.ensures, c.new.ensures) c.requires;
}
