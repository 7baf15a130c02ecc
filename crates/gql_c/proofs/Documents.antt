-- Documents may go from one thread to another, and be shared among threads.
use denote.Param.Send.{IsSend, IsSync, sendable}
use denote.Param.SendFields.{declared_send, declared_sync}
use Rattle.std.proofs.Crossing.{crosses}
use Rattle.gql_ast_base.proofs.name.Name.TheSendSync as name
use Rattle.gql_ast_base.proofs.operation_type.OperationType.TheSendSync as kind
use Rattle.gql_source.proofs.source_map.SourceMap.TheSendSync as sources
use Rattle.gql_source.proofs.span.SourceSpan.TheSendSync as span
use Rattle.jb_text.proofs.listed.Listed.TheSendSync as listed
use Rattle.gql_schema_types.proofs.table.Table.TheSendSync as table
use Rattle.gql_document_types.proofs.selection.Selection.TheLaws.TheKnot as selection
use Rattle.gql_document_types.specs.contracts.selection.SelectionSet as set
use Rattle.gql_document_types.specs.contracts.fragment.Fragment as fragment
use Rattle.gql_document_types.specs.contracts.operation.Operation as operation
use Rattle.gql_document_types.specs.contracts.document.ExecutableDocument as document
use Rattle.gql_c.proofs.Syntax.{argument_send, argument_sync, directive_send, directive_sync}
use Rattle.gql_c.proofs.Definitions.{field_send, field_sync, variable_send, variable_sync}

pub set_send : IsSend set.the_row
set_send = search (sendable, crosses, selection.crosses, argument_send, directive_send, field_send, field_sync, name.the_send, listed.the_send, span.the_send) depth 60 fits 20000

pub fragment_send : IsSend fragment.the_row
fragment_send = declared_send fragment.the_type (name.the_send, (search (sendable, crosses, directive_send, listed.the_send) depth 60 fits 20000, (set_send, (search (sendable, crosses, span.the_send) depth 60 fits 20000, tt))))

pub operation_send : IsSend operation.the_row
operation_send = declared_send operation.the_type (kind.the_send, (search (sendable, crosses, name.the_send) depth 60 fits 20000, (search (sendable, crosses, variable_send, listed.the_send) depth 60 fits 20000, (search (sendable, crosses, directive_send, listed.the_send) depth 60 fits 20000, (set_send, (search (sendable, crosses, span.the_send) depth 60 fits 20000, tt))))))

pub document_send : IsSend document.the_row
document_send = declared_send document.the_type (sources.the_send, (search (sendable, crosses, operation_send, listed.the_send) depth 60 fits 20000, (search (sendable, crosses, fragment_send, table.the_send) depth 60 fits 20000, tt)))

pub set_sync : IsSync set.the_row
set_sync = search (sendable, crosses, selection.crosses, argument_sync, directive_sync, field_send, field_sync, name.the_sync, listed.the_sync, span.the_sync) depth 60 fits 20000

pub fragment_sync : IsSync fragment.the_row
fragment_sync = declared_sync fragment.the_type (name.the_sync, (search (sendable, crosses, directive_sync, listed.the_sync) depth 60 fits 20000, (set_sync, (search (sendable, crosses, span.the_sync) depth 60 fits 20000, tt))))

pub operation_sync : IsSync operation.the_row
operation_sync = declared_sync operation.the_type (kind.the_sync, (search (sendable, crosses, name.the_sync) depth 60 fits 20000, (search (sendable, crosses, variable_sync, listed.the_sync) depth 60 fits 20000, (search (sendable, crosses, directive_sync, listed.the_sync) depth 60 fits 20000, (set_sync, (search (sendable, crosses, span.the_sync) depth 60 fits 20000, tt))))))

pub document_sync : IsSync document.the_row
document_sync = declared_sync document.the_type (sources.the_sync, (search (sendable, crosses, operation_sync, listed.the_sync) depth 60 fits 20000, (search (sendable, crosses, fragment_sync, table.the_sync) depth 60 fits 20000, tt)))
