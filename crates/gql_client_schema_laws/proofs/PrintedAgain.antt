-- A schema that is built of definitions as printing leaves them is as printing leaves schemas.
use Rattle.std.proofs.Common.{◌≡◌, Bool, true, false, if◌then◌else◌, Option, is_some, List, [], ◌∷◌, map, fold, refl, sym, ap, ◌∙◌, subst}
use Rattle.std.specs.List.{AllByRecursion}
use Rattle.gql_ast_base.specs.Names.{Named}
use Rattle.gql_ast_base.specs.declared.operation_type.OperationType.{OperationType}
use Rattle.gql_ast_base.specs.declared.operation_type.OperationType.TheVariants.{Query, Mutation, Subscription}
use Rattle.gql_ast_base.specs.declared.value.Value.{Value}
use Rattle.gql_client_schema_laws.specs.AsPrinted.{TypeUses, DirectiveUses, UsesAsPrinted, HasConstantParts, HasConstantParameters, AreConstantDefaults}
use Rattle.gql_client_schema_laws.specs.PrintedDefinitions.{IsTypeAsPrinted, IsDirectiveAsPrinted, IsSchemaAsPrinted, AreAsPrinted}
use Rattle.gql_client_schema_laws.specs.Shown.{Shows, Says, IsOwn, HasBuiltInNames}
use Rattle.gql_client_schema_laws.specs.Throughout.{IsTypeThroughout, IsDirectiveThroughout, IsPlacedThroughout}
use Rattle.gql_client_schema_laws.proofs.BuiltInParts.{types_as_printed, directives_as_printed}
use Rattle.gql_client_schema_laws.proofs.BuiltIns.{OneDocument, have_names}
use Rattle.gql_client_schema_laws.proofs.Rebuilt.{types_again, directives_again, definition_again}
use Rattle.gql_introspection.specs.Deprecation.{default_reason}
use Rattle.gql_schema.proofs.Known.{SoundLaw}
use Rattle.gql_schema.specs.BuiltInSchema.{IsBuiltIn}
use Rattle.gql_client_schema_laws.specs.Uses.{AreUses}
use Rattle.gql_client_schema_laws.proofs.Pairs.{all_append, all_mapped, all_weaker}
use Rattle.gql_schema_build.specs.Build as build
use Rattle.gql_schema_build.specs.Built.{built}
use Rattle.gql_schema_build.specs.DirectiveDefinitionCollision.{directive_name}
use Rattle.gql_schema_build.specs.Roots.{Root, root_put, with_root}
use Rattle.gql_schema_build.specs.declared.built_in.BuiltIn.{BuiltIn}
use Rattle.gql_schema_build.specs.declared.type_system.TypeSystem.{TypeSystem}
use Rattle.gql_schema_types.specs.Entries.{put}
use Rattle.gql_schema_types.specs.Schemas.{root_of}
use Rattle.gql_schema_types.specs.declared.schema.Schema.{Schema}
use Rattle.gql_schema_types.specs.declared.schema.SchemaDefinition.{SchemaDefinition}
use Rattle.gql_sdl.specs.declared.shown.ShownSchema.{ShownSchema}
use Rattle.gql_source.specs.File.{Files}

-- roots leave the uses of directives as they are
put_kept : (operation : OperationType) (name : Named) (d : SchemaDefinition) → (root_put operation name d).directives ≡ d.directives
put_kept Query name d = refl
put_kept Mutation name d = refl
put_kept Subscription name d = refl

kept_directives : (d : SchemaDefinition) (roots : List Root) → (fold with_root d roots).directives ≡ d.directives
kept_directives d [] = refl
kept_directives d (root ∷ roots) = kept_directives (with_root d root) roots ∙ by_test (is_some (root_of root.0 d))
  where
    by_test : (b : Bool) → (if b then d else root_put root.0 root.1 d).directives ≡ d.directives
    by_test true = refl
    by_test false = put_kept root.0 root.1 d

module _ (sound : SoundLaw) (once : OneDocument) (sources files : Files) (built_in : BuiltIn) (is : IsBuiltIn built_in) (first : TypeSystem) (own : IsOwn first)
    (right : build.build_faults false built_in first ≡ []) (shown : ShownSchema) (shows : Shows (build.built sources false built_in first) shown) (user : TypeSystem)
    (says : Says (default_reason (build.built sources false built_in first)) user shown)
    (are : AreAsPrinted (default_reason (build.built files false built_in user)) user) where
  abbrev other : Schema
  other = build.built files false built_in user

  abbrev why : Option Value
  why = default_reason other

  names : HasBuiltInNames built_in
  names = have_names sound once built_in is

  every_type : AllByRecursion (IsTypeAsPrinted why) other.types
  every_type =
      subst (AllByRecursion (IsTypeAsPrinted why)) (sym (types_again sources built_in first own names right shown shows user says))
      (all_append (IsTypeAsPrinted why) (map built built_in.types) (map built user.types) (types_as_printed sound once built_in is why)
      (all_mapped (IsTypeAsPrinted why) built user.types are.types))

  every_directive : AllByRecursion (IsDirectiveAsPrinted why) other.directive_definitions
  every_directive =
      subst (AllByRecursion (IsDirectiveAsPrinted why)) (sym (directives_again sources built_in first own names right shown shows user says))
      (all_append (IsDirectiveAsPrinted why) (fold (put directive_name) [] built_in.directives) user.directives (directives_as_printed sound once built_in is why) are.directives)

  schema_unused : AreUses [] other.schema_definition.directives
  schema_unused =
      let only : AllByRecursion (IsSchemaAsPrinted why) (says.schema ∷ []) = subst (AllByRecursion (IsSchemaAsPrinted why)) says.only are.schemas in
      subst (AreUses [])
      (sym (ap (λ (d : SchemaDefinition). d.directives) (definition_again sources built_in first own names right shown shows user says other.types)
      ∙ kept_directives _ says.schema.root_operations)) only.0

  pub placed : IsPlacedThroughout other
  placed = record {
    types = all_weaker (IsTypeAsPrinted why) IsTypeThroughout (λ t as_is. as_is.place) other.types every_type;
    directives = all_weaker (IsDirectiveAsPrinted why) IsDirectiveThroughout (λ d as_is. as_is.place) other.directive_definitions every_directive;
  }

  pub constant : AreConstantDefaults other
  constant = record {
    types = all_weaker (IsTypeAsPrinted why) HasConstantParts (λ t as_is. as_is.constant) other.types every_type;
    directives = all_weaker (IsDirectiveAsPrinted why) HasConstantParameters (λ d as_is. as_is.constant) other.directive_definitions every_directive;
  }

  pub uses : UsesAsPrinted other
  uses = record {
    itself = schema_unused;
    types = all_weaker (IsTypeAsPrinted why) (TypeUses why) (λ t as_is. as_is.uses) other.types every_type;
    directives = all_weaker (IsDirectiveAsPrinted why) (DirectiveUses why) (λ d as_is. as_is.uses) other.directive_definitions every_directive;
  }
