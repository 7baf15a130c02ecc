use Rattle.tests_requests.proofs.execution.settings.with_nothing.Goals as goal

pub execute_sync-answer-requires : goal.execute_sync-answer-requires
execute_sync-answer-requires c = record { acyclic = rw c.new-execution.ensures c.requires }
