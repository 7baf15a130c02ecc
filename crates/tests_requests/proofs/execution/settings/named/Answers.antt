use Rattle.tests_requests.proofs.execution.settings.named.Goals as goal

pub execute_sync-requires : goal.execute_sync-requires
execute_sync-requires c = record { acyclic = rw c.in-Ok.ensures.2 c.requires.acyclic }
