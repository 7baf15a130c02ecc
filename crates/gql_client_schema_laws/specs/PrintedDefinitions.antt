-- Definitions as printing leaves them, each by itself: they stand in other files than the built-in one, use directives only to tell what
-- introspection shows, and have constant defaults.
use Rattle.std.specs.Prelude.{[], Option}
use Rattle.std.specs.List.{AllByRecursion}
use Rattle.gql_ast_base.specs.declared.value.Value.{Value}
use Rattle.gql_ast.specs.declared.schema_definition.DirectiveDefinition.{DirectiveDefinition}
use Rattle.gql_ast.specs.declared.schema_definition.SchemaDefinition.{SchemaDefinition}
use Rattle.gql_client_schema_laws.specs.AsPrinted.{TypeUses, DirectiveUses, HasConstantParts, HasConstantParameters}
use Rattle.gql_client_schema_laws.specs.Throughout.{IsTypeThroughout, IsDirectiveThroughout}
use Rattle.gql_client_schema_laws.specs.Uses.{AreUses}
use Rattle.gql_schema_build.specs.Built.{built}
use Rattle.gql_schema_build.specs.declared.type_definition.TypeDefinition.{TypeDefinition}
use Rattle.gql_schema_build.specs.declared.type_system.TypeSystem.{TypeSystem}
use Rattle.gql_schema_types.specs.declared.types.ExtendedType.{ExtendedType}

-- `why` is the reason that counts where `@deprecated` gives none
module _ (why : Option Value) where
  pub record IsTypeAsPrinted (ty : ExtendedType) : Type 0 where
    pub place : IsTypeThroughout ty
    pub uses : TypeUses why ty
    pub constant : HasConstantParts ty

  pub record IsDirectiveAsPrinted (directive : DirectiveDefinition) : Type 0 where
    pub place : IsDirectiveThroughout directive
    pub uses : DirectiveUses why directive
    pub constant : HasConstantParameters directive

  abbrev pub IsDefinitionAsPrinted : TypeDefinition → Type 0
  IsDefinitionAsPrinted definition = IsTypeAsPrinted (built definition)

  abbrev pub IsSchemaAsPrinted : SchemaDefinition → Type 0
  IsSchemaAsPrinted schema = AreUses [] schema.directives

  pub record AreAsPrinted (user : TypeSystem) : Type 0 where
    pub schemas : AllByRecursion IsSchemaAsPrinted user.schemas
    pub types : AllByRecursion IsDefinitionAsPrinted user.types
    pub directives : AllByRecursion IsDirectiveAsPrinted user.directives
