-- Syntax trees may go from one thread to another.
use denote.Param.Send.{IsSend, IsSync, sendable}
use Rattle.std.proofs.Crossing.{crosses}
use Rattle.gql_ast_base.proofs.name.Name.TheSendSync as name
use Rattle.gql_ast_base.proofs.value.ValueKind.TheLaws.TheKnot as value
use Rattle.gql_source.proofs.span.SourceSpan.TheSendSync as span
use Rattle.jb_text.proofs.listed.Listed.TheSendSync as listed
use Rattle.jb_text.proofs.text.Text.TheSendSync as text
use Rattle.gql_ast_base.specs.contracts.directive.Directive as directive
use Rattle.gql_ast_base.specs.contracts.directive.Argument as argument

pub argument_send : IsSend argument.the_row
argument_send = search (sendable, crosses, value.crosses, name.the_send, text.the_send, listed.the_send, span.the_send) depth 60 fits 20000

pub argument_sync : IsSync argument.the_row
argument_sync = search (sendable, crosses, value.crosses, name.the_sync, text.the_sync, listed.the_sync, span.the_sync) depth 60 fits 20000

pub directive_send : IsSend directive.the_row
directive_send = search (sendable, crosses, argument_send, name.the_send, listed.the_send, span.the_send) depth 60 fits 20000

pub directive_sync : IsSync directive.the_row
directive_sync = search (sendable, crosses, argument_sync, name.the_sync, listed.the_sync, span.the_sync) depth 60 fits 20000
