-- Definitions may go from one thread to another.
use denote.Param.Send.{IsSend, IsSync, sendable}
use Rattle.std.proofs.Crossing.{crosses}
use Rattle.gql_ast_base.proofs.name.Name.TheSendSync as name
use Rattle.gql_ast_base.proofs.type_ref.TypeRef.TheLaws.TheKnot as type_ref
use Rattle.gql_ast_base.proofs.value.ValueKind.TheLaws.TheKnot as value
use Rattle.gql_source.proofs.span.SourceSpan.TheSendSync as span
use Rattle.jb_text.proofs.listed.Listed.TheSendSync as listed
use Rattle.jb_text.proofs.text.Text.TheSendSync as text
use Rattle.gql_ast.proofs.schema_definition.DirectiveLocation.TheSendSync as place
use Rattle.gql_ast.specs.contracts.field_definition.InputValueDefinition as input_value
use Rattle.gql_ast.specs.contracts.field_definition.FieldDefinition as field
use Rattle.gql_ast.specs.contracts.field_definition.EnumValueDefinition as enum_value
use Rattle.gql_ast.specs.contracts.schema_definition.DirectiveDefinition as directive
use Rattle.gql_ast.specs.contracts.operation.VariableDefinition as variable
use Rattle.gql_c.proofs.Syntax.{directive_send, directive_sync}

pub input_value_send : IsSend input_value.the_row
input_value_send = search (sendable, crosses, type_ref.crosses, value.crosses, directive_send, name.the_send, text.the_send, listed.the_send, span.the_send) depth 60 fits 20000

pub input_value_sync : IsSync input_value.the_row
input_value_sync = search (sendable, crosses, type_ref.crosses, value.crosses, directive_sync, name.the_sync, text.the_sync, listed.the_sync, span.the_sync) depth 60 fits 20000

pub field_send : IsSend field.the_row
field_send = search (sendable, crosses, type_ref.crosses, input_value_send, directive_send, name.the_send, text.the_send, listed.the_send, span.the_send) depth 60 fits 20000

pub field_sync : IsSync field.the_row
field_sync = search (sendable, crosses, type_ref.crosses, input_value_sync, directive_sync, name.the_sync, text.the_sync, listed.the_sync, span.the_sync) depth 60 fits 20000

pub enum_value_send : IsSend enum_value.the_row
enum_value_send = search (sendable, crosses, directive_send, name.the_send, text.the_send, listed.the_send, span.the_send) depth 60 fits 20000

pub enum_value_sync : IsSync enum_value.the_row
enum_value_sync = search (sendable, crosses, directive_sync, name.the_sync, text.the_sync, listed.the_sync, span.the_sync) depth 60 fits 20000

pub directive_definition_send : IsSend directive.the_row
directive_definition_send = search (sendable, crosses, input_value_send, place.the_send, name.the_send, text.the_send, listed.the_send, span.the_send) depth 60 fits 20000

pub directive_definition_sync : IsSync directive.the_row
directive_definition_sync = search (sendable, crosses, input_value_sync, place.the_sync, name.the_sync, text.the_sync, listed.the_sync, span.the_sync) depth 60 fits 20000

pub variable_send : IsSend variable.the_row
variable_send = search (sendable, crosses, type_ref.crosses, value.crosses, directive_send, name.the_send, listed.the_send, span.the_send) depth 60 fits 20000

pub variable_sync : IsSync variable.the_row
variable_sync = search (sendable, crosses, type_ref.crosses, value.crosses, directive_sync, name.the_sync, listed.the_sync, span.the_sync) depth 60 fits 20000
