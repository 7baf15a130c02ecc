-- Schemas may go from one thread to another, and be shared among threads.
use denote.Param.Send.{IsSend, IsSync, sendable}
use denote.Param.SendFields.{declared_send, declared_sync, variants_send, variants_sync}
use Rattle.std.proofs.Crossing.{crosses}
use Rattle.gql_ast_base.proofs.name.Name.TheSendSync as name
use Rattle.gql_source.proofs.source_map.SourceMap.TheSendSync as sources
use Rattle.gql_source.proofs.span.SourceSpan.TheSendSync as span
use Rattle.jb_text.proofs.listed.Listed.TheSendSync as listed
use Rattle.jb_text.proofs.text.Text.TheSendSync as text
use Rattle.gql_schema_types.proofs.shared.Shared.TheSendSync as shared
use Rattle.gql_schema_types.proofs.table.Table.TheSendSync as table
use Rattle.gql_schema_types.specs.contracts.types.ScalarType as scalar
use Rattle.gql_schema_types.specs.contracts.types.ObjectType as object
use Rattle.gql_schema_types.specs.contracts.types.InterfaceType as interface
use Rattle.gql_schema_types.specs.contracts.types.UnionType as union_type
use Rattle.gql_schema_types.specs.contracts.types.EnumType as enum_type
use Rattle.gql_schema_types.specs.contracts.types.InputObjectType as input_object
use Rattle.gql_schema_types.specs.contracts.types.ExtendedType as extended
use Rattle.gql_schema_types.specs.contracts.schema.SchemaDefinition as definition
use Rattle.gql_schema_types.specs.contracts.meta_fields.MetaFields as meta_fields
use Rattle.gql_schema_types.specs.contracts.schema.Schema as schema
use Rattle.gql_c.proofs.Syntax.{directive_send, directive_sync}
use Rattle.gql_c.proofs.Definitions.{directive_definition_send, directive_definition_sync, enum_value_send, enum_value_sync, field_send, field_sync, input_value_send, input_value_sync}

pub scalar_send : IsSend scalar.the_row
scalar_send = search (sendable, crosses, directive_send, name.the_send, text.the_send, listed.the_send, span.the_send) depth 60 fits 20000

pub scalar_sync : IsSync scalar.the_row
scalar_sync = search (sendable, crosses, directive_sync, name.the_sync, text.the_sync, listed.the_sync, span.the_sync) depth 60 fits 20000

pub object_send : IsSend object.the_row
object_send = search (sendable, crosses, directive_send, field_send, field_sync, name.the_send, text.the_send, listed.the_send, span.the_send, shared.the_send, table.the_send) depth 60 fits 20000

pub object_sync : IsSync object.the_row
object_sync = search (sendable, crosses, directive_sync, field_send, field_sync, name.the_sync, text.the_sync, listed.the_sync, span.the_sync, shared.the_sync, table.the_sync) depth 60 fits 20000

pub interface_send : IsSend interface.the_row
interface_send = search (sendable, crosses, directive_send, field_send, field_sync, name.the_send, text.the_send, listed.the_send, span.the_send, shared.the_send, table.the_send) depth 60 fits 20000

pub interface_sync : IsSync interface.the_row
interface_sync = search (sendable, crosses, directive_sync, field_send, field_sync, name.the_sync, text.the_sync, listed.the_sync, span.the_sync, shared.the_sync, table.the_sync) depth 60 fits 20000

pub union_type_send : IsSend union_type.the_row
union_type_send = search (sendable, crosses, directive_send, name.the_send, text.the_send, listed.the_send, span.the_send) depth 60 fits 20000

pub union_type_sync : IsSync union_type.the_row
union_type_sync = search (sendable, crosses, directive_sync, name.the_sync, text.the_sync, listed.the_sync, span.the_sync) depth 60 fits 20000

pub enum_type_send : IsSend enum_type.the_row
enum_type_send = search (sendable, crosses, directive_send, enum_value_send, name.the_send, text.the_send, listed.the_send, span.the_send, table.the_send) depth 60 fits 20000

pub enum_type_sync : IsSync enum_type.the_row
enum_type_sync = search (sendable, crosses, directive_sync, enum_value_sync, name.the_sync, text.the_sync, listed.the_sync, span.the_sync, table.the_sync) depth 60 fits 20000

pub input_object_send : IsSend input_object.the_row
input_object_send = search (sendable, crosses, directive_send, input_value_send, name.the_send, text.the_send, listed.the_send, span.the_send, table.the_send) depth 60 fits 20000

pub input_object_sync : IsSync input_object.the_row
input_object_sync = search (sendable, crosses, directive_sync, input_value_sync, name.the_sync, text.the_sync, listed.the_sync, span.the_sync, table.the_sync) depth 60 fits 20000

pub extended_send : IsSend extended.the_row
extended_send = variants_send extended.enum ((scalar_send, tt), ((object_send, tt), ((interface_send, tt), ((union_type_send, tt), ((enum_type_send, tt), ((input_object_send, tt), tt))))))

pub extended_sync : IsSync extended.the_row
extended_sync = variants_sync extended.enum ((scalar_sync, tt), ((object_sync, tt), ((interface_sync, tt), ((union_type_sync, tt), ((enum_type_sync, tt), ((input_object_sync, tt), tt))))))

pub definition_send : IsSend definition.the_row
definition_send = search (sendable, crosses, directive_send, name.the_send, text.the_send, listed.the_send, span.the_send) depth 60 fits 20000

pub definition_sync : IsSync definition.the_row
definition_sync = search (sendable, crosses, directive_sync, name.the_sync, text.the_sync, listed.the_sync, span.the_sync) depth 60 fits 20000

pub meta_fields_send : IsSend meta_fields.the_row
meta_fields_send = search (sendable, crosses, field_send, field_sync, shared.the_send) depth 60 fits 20000

pub meta_fields_sync : IsSync meta_fields.the_row
meta_fields_sync = search (sendable, crosses, field_send, field_sync, shared.the_sync) depth 60 fits 20000

pub schema_send : IsSend schema.the_row
schema_send = declared_send schema.the_type (sources.the_send, (definition_send, (search (sendable, crosses, table.the_send, directive_definition_send) depth 60 fits 20000, (search (sendable, crosses, table.the_send, extended_send) depth 60 fits 20000, (meta_fields_send, tt)))))

pub schema_sync : IsSync schema.the_row
schema_sync = declared_sync schema.the_type (sources.the_sync, (definition_sync, (search (sendable, crosses, table.the_sync, directive_definition_sync) depth 60 fits 20000, (search (sendable, crosses, table.the_sync, extended_sync) depth 60 fits 20000, (meta_fields_sync, tt)))))
