-- Definitions of own names: what extensions leave of others, and what is redefined.
use Rattle.std.proofs.Common.{◌≡◌, ℕ, Bool, true, false, not, cond, if◌then◌else◌, Option, Some, None, List, [], ◌∷◌, ◌++◌, map, fold, refl, sym, ap, ◌∙◌}
use Rattle.std.specs.Prelude.{is_some}
use Rattle.std.specs.List.{AllByRecursion, filter, flat_map}
use Rattle.std.specs.Option.{option_map, option_map_or}
use Rattle.std.specs.Str.{bytes_eq}
use Rattle.gql_ast_base.specs.Names.{Named}
use Rattle.gql_ast_base.specs.declared.operation_type.OperationType.{OperationType}
use Rattle.gql_ast_base.specs.declared.operation_type.OperationType.TheVariants.{Query, Mutation, Subscription}
use Rattle.gql_ast_base.specs.declared.value.Value.{Value}
use Rattle.gql_ast_laws.specs.Printed.{from_nowhere}
use Rattle.gql_client_schema_laws.specs.Parts.{said_definition, said_type}
use Rattle.gql_client_schema_laws.specs.Shown.{unfinished, is_own_name}
use Rattle.gql_client_schema_laws.proofs.Lists.{apart}
use Rattle.gql_client_schema_laws.proofs.Pairs.{all_weaker}
use Rattle.gql_client_schema_laws.proofs.OwnTypes.{not_built_in, no_own_name, built_said_name, said_name, same_built_in, said_unfinished}
use Rattle.gql_schema_build.proofs.Whole.{extended_name}
use Rattle.gql_schema_build.specs.Built.{built, part_faults}
use Rattle.gql_schema_build.specs.BuiltInScalarTypeRedefinition.{is_scalar, redefines, redefinition, other, built_in_scalar_type_redefinitions, without_redefinitions}
use Rattle.gql_schema_build.specs.DefinitionNames.{definition_name}
use Rattle.gql_schema_build.specs.Extended.{extended}
use Rattle.gql_schema_build.specs.ExtensionNames.{extension_name}
use Rattle.gql_schema_build.specs.Roots.{Root, with_root, root_put}
use Rattle.gql_schema_build.specs.TypeTable.{all_extended}
use Rattle.gql_schema_build.specs.declared.type_definition.TypeDefinition.{TypeDefinition}
use Rattle.gql_schema_build.specs.declared.type_definition.TypeDefinition.TheVariants as definition
use Rattle.gql_schema_build.specs.declared.type_extension.TypeExtension.{TypeExtension}
use Rattle.gql_schema_types.specs.Entries.{texts, is_called, entry}
use Rattle.gql_schema_types.specs.Schemas.{root_of}
use Rattle.gql_schema_types.specs.declared.schema.SchemaDefinition.{SchemaDefinition}
use Rattle.gql_schema_types.specs.declared.types.ExtendedType.{ExtendedType}
use Rattle.gql_sdl.specs.Schemas.{is_directive_name, is_built_in}
use Rattle.gql_sdl.specs.declared.shown.ShownDirective.{ShownDirective}
use Rattle.gql_sdl.specs.declared.shown.ShownType.{ShownType}

abbrev pub type_text : ShownType → List ℕ
type_text ty = ty.name.text

abbrev pub directive_text : ShownDirective → List ℕ
directive_text directive = directive.name.text

abbrev pub is_own_directive : ShownDirective → Bool
is_own_directive directive = not (is_directive_name directive.name.text)

-- ---- extensions of other names

none_called : (name : List ℕ) (es : List TypeExtension) → AllByRecursion (λ e. bytes_eq name (extension_name e).text ≡ false) es
    → filter (is_called extension_name name) es ≡ []
none_called name [] all = refl
none_called name (e ∷ es) all =
    ap (λ b. cond b (e ∷ filter (is_called extension_name name) es) (filter (is_called extension_name name) es)) all.0 ∙ none_called name es all.1

another : (n m : List ℕ) → is_own_name n ≡ false → is_own_name m ≡ true → bytes_eq n m ≡ false
another n m one other = apart (λ k. not (is_own_name k)) n m (ap not one) (ap not other)

abbrev pub extended_type : List TypeExtension → TypeDefinition → ExtendedType
extended_type es d = built (all_extended es d)

module _ (es : List TypeExtension) (own : AllByRecursion (λ e. is_own_name (extension_name e).text ≡ true) es) where
  pub unextended : (d : TypeDefinition) → is_own_name (definition_name d).text ≡ false → all_extended es d ≡ d
  unextended d not_own =
      ap (fold extended d)
      (none_called (definition_name d).text es
      (all_weaker (λ e. is_own_name (extension_name e).text ≡ true) (λ e. bytes_eq (definition_name d).text (extension_name e).text ≡ false)
      (λ e is. another (definition_name d).text (extension_name e).text not_own is) es own))

  pub built_unextended : (ds : List TypeDefinition) → AllByRecursion (λ d. is_own_name (definition_name d).text ≡ false) ds
      → map (λ d. built (all_extended es d)) ds ≡ map built ds
  built_unextended [] all = refl
  built_unextended (d ∷ ds) all = λ i. built (unextended d all.0 i) ∷ built_unextended ds all.1 i

  pub faults_unextended : (ds : List TypeDefinition) → AllByRecursion (λ d. is_own_name (definition_name d).text ≡ false) ds
      → flat_map (λ d. part_faults (all_extended es d)) ds ≡ flat_map part_faults ds
  faults_unextended [] all = refl
  faults_unextended (d ∷ ds) all = λ i. part_faults (unextended d all.0 i) ++ faults_unextended ds all.1 i

  module _ (why : Option Value) where
    pub own_name : (d : TypeDefinition) → (said_type why (extended_type es d)).name.text ≡ (definition_name d).text
    own_name d =
        built_said_name why (all_extended es d)
        ∙ ap (λ n. n.text) (extended_name (filter (is_called extension_name (definition_name d).text) es) d)

    pub own_texts : (ds : List TypeDefinition) → map type_text (map (said_type why) (map (extended_type es) ds)) ≡ texts definition_name ds
    own_texts [] = refl
    own_texts (d ∷ ds) = λ i. own_name d i ∷ own_texts ds i

    pub are_own : (ds : List TypeDefinition) → AllByRecursion (λ d. is_own_name (definition_name d).text ≡ true) ds
        → AllByRecursion (λ ty. is_built_in ty ≡ false) (map (said_type why) (map (extended_type es) ds))
    are_own [] all = tt
    are_own (d ∷ ds) all = (not_built_in (said_type why (extended_type es d)) (ap is_own_name (own_name d) ∙ all.0), are_own ds all.1)

pub all_unfinished : (why : Option Value) (ts : List ExtendedType) → AllByRecursion (λ ty. unfinished ty ≡ ty) (map (said_type why) ts)
all_unfinished why [] = tt
all_unfinished why (t ∷ ts) = (said_unfinished why t, all_unfinished why ts)

pub are_built_in : (why : Option Value) (ds : List TypeDefinition) → AllByRecursion (λ d. is_built_in (said_definition None d) ≡ true) ds
    → AllByRecursion (λ ty. is_built_in ty ≡ true) (map (said_type why) (map built ds))
are_built_in why [] all = tt
are_built_in why (d ∷ ds) all = (same_built_in why d ∙ all.0, are_built_in why ds all.1)

pub not_own_names : (ds : List TypeDefinition) → AllByRecursion (λ d. is_built_in (said_definition None d) ≡ true) ds
    → AllByRecursion (λ d. is_own_name (definition_name d).text ≡ false) ds
not_own_names ds all =
    all_weaker (λ d. is_built_in (said_definition None d) ≡ true) (λ d. is_own_name (definition_name d).text ≡ false)
    (λ d is. ap is_own_name (sym (said_name None d)) ∙ no_own_name (said_definition None d) is) ds all

-- ---- definitions of names that are not built in

module _ (built_ins : List TypeDefinition) where
  pub kept_own : (P : TypeDefinition → Type 0) (ds : List TypeDefinition) → AllByRecursion P ds → AllByRecursion P (without_redefinitions built_ins ds)
  kept_own P [] all = tt
  kept_own P (d ∷ ds) all = by_test (redefines built_ins d) (kept_own P ds all.1)
    where
      by_test : (b : Bool) → AllByRecursion P (without_redefinitions built_ins ds) → AllByRecursion P ((if b then [] else d ∷ []) ++ without_redefinitions built_ins ds)
      by_test true later = later
      by_test false later = (all.0, later)

  not_redefined : (d : TypeDefinition) → entry definition_name (definition_name d).text built_ins ≡ None → redefines built_ins d ≡ false
  not_redefined (definition.Scalar d) none = ap (λ o. option_map_or is_scalar o false) none
  not_redefined (definition.Object d) none = refl
  not_redefined (definition.Interface d) none = refl
  not_redefined (definition.Union d) none = refl
  not_redefined (definition.Enum d) none = refl
  not_redefined (definition.InputObject d) none = refl

  pub none_redefined : (ds : List TypeDefinition) → AllByRecursion (λ d. entry definition_name (definition_name d).text built_ins ≡ None) ds
      → built_in_scalar_type_redefinitions built_ins ds ≡ []
  none_redefined [] all = refl
  none_redefined (d ∷ ds) all =
      ap (λ b. (if b then redefinition built_ins d ∷ [] else []) ++ built_in_scalar_type_redefinitions built_ins ds) (not_redefined d all.0) ∙ none_redefined ds all.1

  pub all_kept : (ds : List TypeDefinition) → AllByRecursion (λ d. entry definition_name (definition_name d).text built_ins ≡ None) ds
      → without_redefinitions built_ins ds ≡ ds
  all_kept [] all = refl
  all_kept (d ∷ ds) all =
      ap (λ b. (if b then [] else d ∷ []) ++ without_redefinitions built_ins ds) (not_redefined d all.0) ∙ ap (λ l. d ∷ l) (all_kept ds all.1)

-- ---- names without places

placed_nowhere : (o : Option Named) → option_map from_nowhere (option_map from_nowhere o) ≡ option_map from_nowhere o
placed_nowhere None = refl
placed_nowhere (Some n) = refl

pub from_nowhere_already : (shown : Option Named) (o : Option Named) → shown ≡ option_map from_nowhere o → option_map from_nowhere shown ≡ shown
from_nowhere_already shown o is = ap (option_map from_nowhere) is ∙ placed_nowhere o ∙ sym is

pub kept_description : (d : SchemaDefinition) (roots : List Root) → (fold with_root d roots).description ≡ d.description
kept_description d [] = refl
kept_description d (root ∷ roots) = kept_description (with_root d root) roots ∙ by_test (is_some (root_of root.0 d)) root.0
  where
    put_kept : (operation : OperationType) → (root_put operation root.1 d).description ≡ d.description
    put_kept Query = refl
    put_kept Mutation = refl
    put_kept Subscription = refl

    by_test : (b : Bool) → (operation : OperationType)
        → (if b then d else root_put operation root.1 d).description ≡ d.description
    by_test true operation = refl
    by_test false operation = put_kept operation
