-- What stands where no type is known: a schema that defines nothing, a type that no schema defines, and a field of which nothing is
-- said.
use Rattle.std.specs.Prelude.{true, [], None, codes}
use Rattle.gql_ast_base.specs.Names.{Named}
use Rattle.gql_ast.specs.declared.field_definition.FieldDefinition.{FieldDefinition}
use Rattle.gql_ast_base.specs.declared.type_ref.TypeRef.TheVariants as type
use Rattle.gql_schema_types.specs.declared.schema.Schema.{Schema}
use Rattle.gql_schema_types.specs.declared.schema.SchemaDefinition.{SchemaDefinition}

abbrev pub no_roots : SchemaDefinition
no_roots = record { description = None; directives = []; query = None; mutation = None; subscription = None; location = None }

abbrev pub no_schema : Schema
no_schema = record { sources = []; schema_definition = no_roots; directive_definitions = []; types = []; meta_fields = true }

abbrev pub unknown_type : Named
unknown_type = record { text = codes "_"; location = None }

-- it has no arguments
abbrev pub unknown_field : FieldDefinition
unknown_field = record { description = None; name = unknown_type; arguments = []; ty = type.Named unknown_type; directives = []; location = None }
