use Rattle.gql_c.proofs.Documents.{document_send, document_sync}
use Rattle.gql_c.proofs.sending_laws.documents_cross_threads.Goals as goal

pub returns-clause-send : goal.returns-clause-send
returns-clause-send c = document_send

pub returns-clause-sync : goal.returns-clause-sync
returns-clause-sync c = document_sync
