use Rattle.tests_requests.proofs.execution.settings.by_operation.Goals as goal

pub execute_sync-answer-requires : goal.execute_sync-answer-requires
execute_sync-answer-requires c = record { acyclic = rw (c.operation-execution.ensures, c.new.ensures) c.requires }
