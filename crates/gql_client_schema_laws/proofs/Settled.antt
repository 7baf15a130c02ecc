-- What validation drops of a schema can be told from what is shown of it.
use Rattle.std.proofs.Common.{◌≡◌, ℕ, Bool, true, false, not, ◌&&◌, ◌||◌, cond, if◌then◌else◌, Option, None, is_some, List, [], ◌∷◌, ◌++◌, map, refl, sym, ap, ◌∙◌}
use Rattle.std.specs.Prelude.{codes}
use Rattle.std.specs.List.{AllByRecursion, list_any}
use Rattle.std.specs.Str.{bytes_eq}
use Rattle.gql_ast_base.specs.TypeParts.{named_type}
use Rattle.gql_ast_base.specs.declared.value.Value.{Value}
use Rattle.gql_ast.specs.declared.field_definition.FieldDefinition.{FieldDefinition}
use Rattle.gql_ast.specs.declared.field_definition.InputValueDefinition.{InputValueDefinition}
use Rattle.gql_ast.specs.declared.schema_definition.DirectiveDefinition.{DirectiveDefinition}
use Rattle.gql_client_schema_laws.specs.Parts.{shown_input, shown_field, shown_directive, said_type}
use Rattle.gql_client_schema_laws.specs.Settled as shown
use Rattle.gql_client_schema_laws.specs.Settled.{PartsAre, FieldsAre, InputsAre, IsInPlace, IsDirectiveInPlace, IsPlaced, settled, left, all_left, others}
use Rattle.gql_client_schema_laws.specs.Shown.{Shows, unfinished, all_finished}
use Rattle.gql_client_schema_laws.proofs.LookUps.{its_name, all_unfinished}
use Rattle.gql_introspection.specs.Deprecation.{default_reason}
use Rattle.gql_rules_values.specs.Written.{is_written}
use Rattle.gql_client_schema_laws.proofs.References.{name_unplaced}
use Rattle.gql_schema_rules.specs.Scalars.{names, field_names, type_names, directive_names, is_named, built_in_scalars, new_scalar, with_missing, unless_unused, validated_types, validated}
use Rattle.gql_schema_types.specs.Entries.{is_called, without}
use Rattle.gql_schema_types.specs.Types.{type_name, type_called}
use Rattle.gql_schema_types.specs.declared.schema.Schema.{Schema}
use Rattle.gql_schema_types.specs.declared.types.ExtendedType.{ExtendedType}
use Rattle.gql_schema_types.specs.declared.types.ExtendedType.TheVariants as type
use Rattle.gql_sdl.specs.Schemas.{is_built_in}
use Rattle.gql_sdl.specs.declared.shown.ShownSchema.{ShownSchema}
use Rattle.gql_sdl.specs.declared.shown.ShownType.{ShownType}

-- ---- tests of lists

any_mapped : {X Y : Type 0} (test : X → Bool) (shown_test : Y → Bool) (f : X → Y) → ((x : X) → test x ≡ shown_test (f x)) → (xs : List X)
    → list_any test xs ≡ list_any shown_test (map f xs)
any_mapped test shown_test f same [] = refl
any_mapped test shown_test f same (x ∷ xs) = λ i. same x i || any_mapped test shown_test f same xs i

nothing_of : (b : Bool) → false ≡ (b && false)
nothing_of true = refl
nothing_of false = refl

or_nothing : (b : Bool) → (b || false) ≡ b
or_nothing true = refl
or_nothing false = refl

any_written : {X Y : Type 0} (written : X → Bool) (test : X → Bool) (shown_test : Y → Bool) (f : X → Y) → ((x : X) → test x ≡ shown_test (f x)) → (b : Bool) → (xs : List X)
    → AllByRecursion (λ x. written x ≡ b) xs → list_any (λ x. written x && test x) xs ≡ (b && list_any shown_test (map f xs))
any_written written test shown_test f same b [] all = nothing_of b
any_written written test shown_test f same b (x ∷ xs) all =
    (λ i. (all.0 i && same x i) || any_written written test shown_test f same b xs all.1 i) ∙ joined b (shown_test (f x)) (list_any shown_test (map f xs))
  where
    joined : (b one rest : Bool) → ((b && one) || (b && rest)) ≡ (b && (one || rest))
    joined true one rest = refl
    joined false one rest = refl

module _ (why : Option Value) where
  module _ (name : List ℕ) where
    input_said : (input : InputValueDefinition) → names name input ≡ shown.input_names name (shown_input why input)
    input_said input = ap (bytes_eq name) (sym (name_unplaced input.ty))

    field_said : (field : FieldDefinition)
        → (bytes_eq name (named_type field.ty).text || list_any (names name) field.arguments) ≡ shown.field_names name (shown_field why field)
    field_said field =
        λ i. bytes_eq name (sym (name_unplaced field.ty) i) || any_mapped (names name) (shown.input_names name) (shown_input why) input_said field.arguments i

    abbrev names_by_field : FieldDefinition → Bool
    names_by_field field = bytes_eq name (named_type field.ty).text || list_any (names name) field.arguments

    abbrev place_of : FieldDefinition → Bool
    place_of field = is_written field.location

    abbrev input_place : InputValueDefinition → Bool
    input_place input = is_written input.location

    fields_said : (b : Bool) (fields : List FieldDefinition) → FieldsAre b fields
        → list_any (field_names name) fields ≡ (b && (list_any (shown.field_names name) (map (shown_field why) fields) || false))
    fields_said b fields are =
        any_written place_of names_by_field (shown.field_names name) (shown_field why) field_said b fields are
        ∙ ap (λ c. b && c) (sym (or_nothing (list_any (shown.field_names name) (map (shown_field why) fields))))

    type_said : (b : Bool) (ty : ExtendedType) → PartsAre b ty
        → type_names name ty ≡ (b && (list_any (shown.field_names name) (said_type why ty).fields || list_any (shown.input_names name) (said_type why ty).input_fields))
    type_said b (type.Scalar t) are = nothing_of b
    type_said b (type.Object t) are = fields_said b t.fields are
    type_said b (type.Interface t) are = fields_said b t.fields are
    type_said b (type.Union t) are = nothing_of b
    type_said b (type.Enum t) are = nothing_of b
    type_said b (type.InputObject t) are = any_written input_place (names name) (shown.input_names name) (shown_input why) input_said b t.fields are

    same_built_in : (ty : ExtendedType) → is_built_in (said_type None ty) ≡ is_built_in (said_type why ty)
    same_built_in (type.Scalar t) = refl
    same_built_in (type.Object t) = refl
    same_built_in (type.Interface t) = refl
    same_built_in (type.Union t) = refl
    same_built_in (type.Enum t) = refl
    same_built_in (type.InputObject t) = refl

    types_said : (types : List ExtendedType) → AllByRecursion IsInPlace types
        → list_any (type_names name) types ≡ list_any (shown.type_names name) (map (said_type why) types)
    types_said [] are = refl
    types_said (ty ∷ types) are =
        let s : ShownType = said_type why ty in
        let parts : Bool = list_any (shown.field_names name) s.fields || list_any (shown.input_names name) s.input_fields in
        λ i. (type_said (not (is_built_in (said_type None ty))) ty are.0 ∙ ap (λ b. not b && parts) (same_built_in ty)) i || types_said types are.1 i

    directives_said : (ds : List DirectiveDefinition) → AllByRecursion IsDirectiveInPlace ds
        → list_any (directive_names name) ds ≡ list_any (shown.directive_names name) (map (shown_directive why) ds)
    directives_said [] are = refl
    directives_said (d ∷ ds) are =
        λ i. (are.0 i && any_mapped (names name) (shown.input_names name) (shown_input why) input_said d.arguments i) || directives_said ds are.1 i

    others_said : (types : List ExtendedType) → map (said_type why) (without type_name name types) ≡ others name (map (said_type why) types)
    others_said [] = refl
    others_said (ty ∷ types) =
        by_test (bytes_eq name (type_name ty).text) (others_said types)
        ∙ ap (λ n. cond (not (bytes_eq name n)) (said_type why ty ∷ others name (map (said_type why) types)) (others name (map (said_type why) types))) (sym (its_name why ty))
      where
        by_test : (b : Bool) → map (said_type why) (without type_name name types) ≡ others name (map (said_type why) types)
            → map (said_type why) (cond (not b) (ty ∷ without type_name name types) (without type_name name types))
            ≡ cond (not b) (said_type why ty ∷ others name (map (said_type why) types)) (others name (map (said_type why) types))
        by_test true later = later
        by_test false later = ap (λ l. said_type why ty ∷ l) later

    still_placed : (types : List ExtendedType) → AllByRecursion IsInPlace types → AllByRecursion IsInPlace (without type_name name types)
    still_placed [] are = tt
    still_placed (ty ∷ types) are = by_test (is_called type_name name ty) (still_placed types are.1)
      where
        by_test : (b : Bool) → AllByRecursion IsInPlace (without type_name name types) → AllByRecursion IsInPlace (cond (not b) (ty ∷ without type_name name types) (without type_name name types))
        by_test true later = later
        by_test false later = (are.0, later)

  module _ (ds : List DirectiveDefinition) (placed : AllByRecursion IsDirectiveInPlace ds) where
    left_said : (name : List ℕ) (types : List ExtendedType) → AllByRecursion IsInPlace types
        → map (said_type why) (unless_unused ds name types) ≡ left (map (shown_directive why) ds) name (map (said_type why) types)
    left_said name types are =
        by_test (is_named ds types name)
        ∙ (λ i. if (directives_said name ds placed i || types_said name types are i) then map (said_type why) types else others name (map (said_type why) types))
      where
        by_test : (b : Bool) → map (said_type why) (if b then types else without type_name name types) ≡ (if b then map (said_type why) types else others name (map (said_type why) types))
        by_test true = refl
        by_test false = others_said name types

    left_placed : (name : List ℕ) (types : List ExtendedType) → AllByRecursion IsInPlace types → AllByRecursion IsInPlace (unless_unused ds name types)
    left_placed name types are = by_test (is_named ds types name)
      where
        by_test : (b : Bool) → AllByRecursion IsInPlace (if b then types else without type_name name types)
        by_test true = are
        by_test false = still_placed name types are

    none_missing : (names : List (List ℕ)) (types : List ExtendedType) → AllByRecursion (λ name. is_some (type_called name types) ≡ true) names → with_missing ds types names ≡ types
    none_missing [] types all = refl
    none_missing (name ∷ rest) types all =
        ap (λ b. with_missing ds (if b then types ++ new_scalar name ∷ [] else types) rest) (there (is_named ds types name) (is_some (type_called name types)) all.0)
        ∙ none_missing rest types all.1
      where
        there : (named found : Bool) → found ≡ true → (named && not found) ≡ false
        there named true is = sym (nothing_of named)
        there named false is = absurd cc

    all_left_said : (types : List ExtendedType) → AllByRecursion IsInPlace types → AllByRecursion (λ name. is_some (type_called name types) ≡ true) built_in_scalars
        → map (said_type why) (validated_types ds types) ≡ all_left (map (shown_directive why) ds) (map (said_type why) types)
    all_left_said types are scalars =
        let sd = map (shown_directive why) ds in
        let one : List ExtendedType = unless_unused ds (codes "Int") types in
        let two : List ExtendedType = unless_unused ds (codes "Float") one in
        let one_placed = left_placed (codes "Int") types are in
        ap (λ ts. map (said_type why) (unless_unused ds (codes "ID") (unless_unused ds (codes "Float") (unless_unused ds (codes "Int") ts)))) (none_missing built_in_scalars types scalars)
        ∙ left_said (codes "ID") two (left_placed (codes "Float") one one_placed)
        ∙ ap (left sd (codes "ID")) (left_said (codes "Float") one one_placed ∙ ap (left sd (codes "Float")) (left_said (codes "Int") types are))

pub shows_settled : (schema : Schema) (shown : ShownSchema) → Shows schema shown → IsPlaced schema → Shows (validated schema) (settled shown)
shows_settled schema shown shows placed =
    let why : Option Value = default_reason schema in
    record {
      description = shows.description;
      query = shows.query;
      mutation = shows.mutation;
      subscription = shows.subscription;
      types =
          ap all_finished
          ((λ i. all_left (shows.directives i) ((ap (map unfinished) shows.types ∙ all_unfinished why (map (said_type why) schema.types) schema.types) i))
          ∙ sym (all_left_said why schema.directive_definitions placed.directives schema.types placed.types placed.scalars));
      directives = shows.directives;
    }
