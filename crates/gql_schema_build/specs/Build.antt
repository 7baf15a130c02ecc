-- What a schema is built of, the schema, and the faults.
use Rattle.std.specs.Prelude.{Bool, true, List, ◌++◌}
use Rattle.gql_source.specs.File.{Files}
use Rattle.gql_diag_messages.specs.declared.diagnostic_data.DiagnosticData.{DiagnosticData}
use Rattle.gql_schema_types.specs.declared.schema.Schema.{Schema}
use Rattle.gql_schema_types.specs.declared.types.ExtendedType.{ExtendedType}
use Rattle.gql_schema_build.specs.BuiltInScalarTypeRedefinition.{built_in_scalar_type_redefinitions}
use Rattle.gql_schema_build.specs.Considered.{considered, type_definitions}
use Rattle.gql_schema_build.specs.DirectiveDefinitionCollision.{directive_definition_collisions}
use Rattle.gql_schema_build.specs.Directives.{directives}
use Rattle.gql_schema_build.specs.SchemaDefinitions.{schema_definition, schema_faults}
use Rattle.gql_schema_build.specs.TypeTable.{types, type_faults}
use Rattle.gql_schema_build.specs.declared.built_in.BuiltIn.{BuiltIn}
use Rattle.gql_schema_build.specs.declared.type_system.TypeSystem.{TypeSystem}

-- those of the built-in definitions first, then the others, each with what extensions add
abbrev pub all_types : Bool → BuiltIn → TypeSystem → List ExtendedType
all_types ignores built_in user = types (type_definitions ignores built_in.types user.types) user.type_extensions

-- the schema that is built, whatever the faults: what a fault lists is left out of it
abbrev pub built : Files → Bool → BuiltIn → TypeSystem → Schema
built sources ignores built_in user = record {
  sources = sources;
  schema_definition = schema_definition user.schemas user.schema_extensions (all_types ignores built_in user);
  directive_definitions = directives built_in.directives user.directives;
  types = all_types ignores built_in user;
  meta_fields = true;
}

abbrev pub faults_of_types : Bool → BuiltIn → TypeSystem → List DiagnosticData
faults_of_types ignores built_in user =
    built_in_scalar_type_redefinitions built_in.types (considered ignores built_in.types user.types)
    ++ type_faults (type_definitions ignores built_in.types user.types) user.type_extensions

-- every fault, of each rule a filter of its own
abbrev pub build_faults : Bool → BuiltIn → TypeSystem → List DiagnosticData
build_faults ignores built_in user =
    directive_definition_collisions user.directives
    ++ (faults_of_types ignores built_in user ++ schema_faults user.schemas user.schema_extensions (all_types ignores built_in user))
