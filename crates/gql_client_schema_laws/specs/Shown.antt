-- What introspection shows of a schema, all in one: section 4.2 of GraphQL October 2021.
use Rattle.std.specs.Prelude.{◌≡◌, ℕ, Bool, true, false, not, ◌&&◌, ◌||◌, if◌then◌else◌}
use Rattle.std.specs.Prelude.{List, [], ◌∷◌, ◌++◌, map, Option, Some, None}
use Rattle.std.specs.List.{AllByRecursion, filter, list_any}
use Rattle.std.specs.Option.{option_map}
use Rattle.std.specs.Str.{bytes_eq}
use Rattle.gql_ast_base.specs.Names.{Named, is_reserved}
use Rattle.gql_ast_base.specs.TypeParts.{named_type}
use Rattle.gql_ast_base.specs.declared.operation_type.OperationType.{OperationType}
use Rattle.gql_ast_base.specs.declared.operation_type.OperationType.TheVariants.{Query, Mutation, Subscription}
use Rattle.gql_ast_base.specs.declared.type_ref.TypeRef.{TypeRef}
use Rattle.gql_ast_base.specs.declared.type_ref.TypeRef.TheVariants as ref
use Rattle.gql_ast_base.specs.declared.value.Value.{Value}
use Rattle.gql_ast.specs.declared.schema_definition.SchemaDefinition.{SchemaDefinition}
use Rattle.gql_ast_laws.specs.Printed.{from_nowhere}
use Rattle.gql_introspection.specs.Deprecation.{default_reason}
use Rattle.gql_client_schema_laws.specs.Parts.{shown_directive, said_definition, said_type}
use Rattle.gql_schema_build.specs.DefinitionNames.{definition_name}
use Rattle.gql_schema_build.specs.DirectiveDefinitionCollision.{directive_name}
use Rattle.gql_schema_build.specs.ExtensionNames.{extension_name}
use Rattle.gql_schema_build.specs.declared.built_in.BuiltIn.{BuiltIn}
use Rattle.gql_schema_build.specs.declared.type_system.TypeSystem.{TypeSystem}
use Rattle.gql_schema_types.specs.declared.schema.Schema.{Schema}
use Rattle.gql_sdl.specs.Schemas.{is_directive_name, is_scalar_name, is_built_in}
use Rattle.gql_sdl.specs.declared.shown.ShownDirective.{ShownDirective}
use Rattle.gql_sdl.specs.declared.shown.ShownSchema.{ShownSchema}
use Rattle.gql_sdl.specs.declared.shown.ShownType.{ShownType}
use Rattle.gql_sdl.specs.declared.shown.TypeKind.{TypeKind}
use Rattle.gql_sdl.specs.declared.shown.TypeKind.TheVariants as kind

abbrev pub is_interface : TypeKind → Bool
is_interface kind.Interface = true
is_interface _ = false

abbrev pub is_object : TypeKind → Bool
is_object kind.Object = true
is_object _ = false

-- an object type that says that it implements the interface
abbrev pub implements : List ℕ → ShownType → Bool
implements interface ty = is_object ty.kind && list_any (λ reference. bytes_eq interface (named_type reference).text) ty.interfaces

abbrev pub its_reference : ShownType → TypeRef
its_reference ty = ref.Named ty.name

-- an interface with the types that it can be among these
abbrev pub finished : List ShownType → ShownType → ShownType
finished all ty = if is_interface ty.kind then record ty { possible_types = map its_reference (filter (implements ty.name.text) all) } else ty

-- and without
abbrev pub unfinished : ShownType → ShownType
unfinished ty = if is_interface ty.kind then record ty { possible_types = [] } else ty

abbrev pub all_finished : List ShownType → List ShownType
all_finished said = map (finished said) said

-- what is shown of a schema whose roots, interfaces and members of unions are defined
pub record Shows (schema : Schema) (shown : ShownSchema) : Type 0 where
  pub description : shown.description ≡ schema.schema_definition.description
  pub query : Some shown.query ≡ option_map from_nowhere schema.schema_definition.query
  pub mutation : shown.mutation ≡ option_map from_nowhere schema.schema_definition.mutation
  pub subscription : shown.subscription ≡ option_map from_nowhere schema.schema_definition.subscription
  pub types : shown.types ≡ all_finished (map (said_type (default_reason schema)) schema.types)
  pub directives : shown.directives ≡ map (shown_directive (default_reason schema)) schema.directive_definitions

-- ---- definitions that say what is shown

abbrev pub ShownRoot : Type 0
ShownRoot = OperationType × List ℕ

abbrev pub said_root : OperationType × Named → ShownRoot
said_root root = (root.0, root.1.text)

abbrev pub root_if : OperationType → Option Named → List ShownRoot
root_if operation None = []
root_if operation (Some name) = (operation, name.text) ∷ []

abbrev pub roots_of : ShownSchema → List ShownRoot
roots_of shown = (Query, shown.query.text) ∷ (root_if Mutation shown.mutation ++ root_if Subscription shown.subscription)

abbrev pub own_types : ShownSchema → List ShownType
own_types shown = map unfinished (filter (λ ty. not (is_built_in ty)) shown.types)

abbrev pub own_directives : ShownSchema → List ShownDirective
own_directives shown = filter (λ directive. not (is_directive_name directive.name.text)) shown.directives

-- One `schema`, and the directives and types that are not built in, in their order: what the printed text of the schema says.
pub record Says (why : Option Value) (user : TypeSystem) (shown : ShownSchema) : Type 0 where
  pub schema : SchemaDefinition
  pub only : user.schemas ≡ schema ∷ []
  pub description : schema.description ≡ shown.description
  pub roots : map said_root schema.root_operations ≡ roots_of shown
  pub directives : map (shown_directive why) user.directives ≡ own_directives shown
  pub types : map (said_definition why) user.types ≡ own_types shown
  pub no_schema_extensions : user.schema_extensions ≡ []
  pub no_type_extensions : user.type_extensions ≡ []

-- ---- what is built in, and what is not

-- neither reserved nor the name of a built-in scalar
abbrev pub is_own_name : List ℕ → Bool
is_own_name name = not (is_reserved name || is_scalar_name name)

-- nothing that is built in is defined or extended
pub record IsOwn (user : TypeSystem) : Type 0 where
  pub directives : AllByRecursion (λ d. is_directive_name (directive_name d).text ≡ false) user.directives
  pub types : AllByRecursion (λ d. is_own_name (definition_name d).text ≡ true) user.types
  pub type_extensions : AllByRecursion (λ e. is_own_name (extension_name e).text ≡ true) user.type_extensions

-- what is built in has the names that printing leaves out
pub record HasBuiltInNames (built_in : BuiltIn) : Type 0 where
  pub directives : AllByRecursion (λ d. is_directive_name (directive_name d).text ≡ true) built_in.directives
  pub types : AllByRecursion (λ d. is_built_in (said_definition None d) ≡ true) built_in.types
