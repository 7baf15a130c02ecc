-- Types of schemas of which the same is shown are found alike.
use Rattle.std.proofs.Common.{◌≡◌, ℕ, Bool, true, false, not, ◌&&◌, ◌||◌, cond, Option, Some, None, is_some, List, [], ◌∷◌, map, refl, sym, ap, ◌∙◌}
use Rattle.std.specs.List.{find}
use Rattle.std.specs.Option.{option_map, option_map_or}
use Rattle.std.specs.Str.{bytes_eq}
use Rattle.gql_ast_base.specs.declared.value.Value.{Value}
use Rattle.gql_client_schema_laws.specs.Alike.{is_found, FindAlike}
use Rattle.gql_client_schema_laws.specs.Parts.{said_type}
use Rattle.gql_client_schema_laws.specs.Shown.{Shows, finished, unfinished}
use Rattle.gql_client_schema_laws.proofs.OwnTypes.{said_unfinished, unfinished_again}
use Rattle.gql_introspection.specs.Deprecation.{default_reason}
use Rattle.gql_schema_rules_parts.specs.OutputType.{is_input_object}
use Rattle.gql_rules_values.specs.Known.{is_known, is_built_in_scalar}
use Rattle.gql_schema_types.specs.Implementers.{is_object}
use Rattle.gql_schema_types.specs.Types.{type_called, type_name, is_composite}
use Rattle.gql_schema_types.specs.declared.schema.Schema.{Schema}
use Rattle.gql_schema_types.specs.declared.types.ExtendedType.{ExtendedType}
use Rattle.gql_schema_types.specs.declared.types.ExtendedType.TheVariants as type
use Rattle.gql_sdl.specs.declared.shown.ShownSchema.{ShownSchema}
use Rattle.gql_sdl.specs.declared.shown.ShownType.{ShownType}
use Rattle.gql_sdl.specs.declared.shown.TypeKind.{TypeKind}
use Rattle.gql_sdl.specs.declared.shown.TypeKind.TheVariants as kind

abbrev named : List ℕ → ShownType → Bool
named name ty = bytes_eq name ty.name.text

-- ---- kinds, as they are shown

abbrev object_kind : TypeKind → Bool
object_kind kind.Object = true
object_kind _ = false

abbrev composite_kind : TypeKind → Bool
composite_kind kind.Object = true
composite_kind kind.Interface = true
composite_kind kind.Union = true
composite_kind _ = false

abbrev input_kind : TypeKind → Bool
input_kind kind.InputObject = true
input_kind _ = false

-- a test of types is one of the kinds that are shown
abbrev IsOfKind : (ExtendedType → Bool) → (TypeKind → Bool) → Type 0
IsOfKind test shown = (why : Option Value) (t : ExtendedType) → test t ≡ shown (said_type why t).kind

objects : IsOfKind is_object object_kind
objects why (type.Scalar t) = refl
objects why (type.Object t) = refl
objects why (type.Interface t) = refl
objects why (type.Union t) = refl
objects why (type.Enum t) = refl
objects why (type.InputObject t) = refl

composites : IsOfKind is_composite composite_kind
composites why (type.Scalar t) = refl
composites why (type.Object t) = refl
composites why (type.Interface t) = refl
composites why (type.Union t) = refl
composites why (type.Enum t) = refl
composites why (type.InputObject t) = refl

inputs : IsOfKind is_input_object input_kind
inputs why (type.Scalar t) = refl
inputs why (type.Object t) = refl
inputs why (type.Interface t) = refl
inputs why (type.Union t) = refl
inputs why (type.Enum t) = refl
inputs why (type.InputObject t) = refl

module _ (why : Option Value) where
  pub its_name : (t : ExtendedType) → (said_type why t).name.text ≡ (type_name t).text
  its_name (type.Scalar t) = refl
  its_name (type.Object t) = refl
  its_name (type.Interface t) = refl
  its_name (type.Union t) = refl
  its_name (type.Enum t) = refl
  its_name (type.InputObject t) = refl

  found_said : (name : List ℕ) (types : List ExtendedType) → option_map (said_type why) (type_called name types) ≡ find (named name) (map (said_type why) types)
  found_said name [] = refl
  found_said name (t ∷ ts) =
      by_test (bytes_eq name (type_name t).text)
      ∙ ap (λ o. cond (bytes_eq name (type_name t).text) (Some (said_type why t)) o) (found_said name ts)
      ∙ ap (λ n. cond (bytes_eq name n) (Some (said_type why t)) (find (named name) (map (said_type why) ts))) (sym (its_name t))
    where
      by_test : (b : Bool) → option_map (said_type why) (cond b (Some t) (type_called name ts))
          ≡ cond b (Some (said_type why t)) (option_map (said_type why) (type_called name ts))
      by_test true = refl
      by_test false = refl

  pub all_unfinished : (all : List ShownType) (ts : List ExtendedType) → map unfinished (map (finished all) (map (said_type why) ts)) ≡ map (said_type why) ts
  all_unfinished all [] = refl
  all_unfinished all (t ∷ ts) = λ i. (unfinished_again all (said_type why t) ∙ said_unfinished why t) i ∷ all_unfinished all ts i

  some_said : (o : Option ExtendedType) → is_some o ≡ is_some (option_map (said_type why) o)
  some_said None = refl
  some_said (Some t) = refl

  test_said : (test : ExtendedType → Bool) (shown : TypeKind → Bool) → IsOfKind test shown → (o : Option ExtendedType)
      → option_map_or test o false ≡ option_map_or (λ (s : ShownType). shown s.kind) (option_map (said_type why) o) false
  test_said test shown of_kind None = refl
  test_said test shown of_kind (Some t) = of_kind why t

module _ (schema other : Schema) (shown : ShownSchema) (one : Shows schema shown) (two : Shows other shown) (name : List ℕ) where
  abbrev why : Option Value
  why = default_reason schema

  abbrev reason : Option Value
  reason = default_reason other

  same_said : map (said_type why) schema.types ≡ map (said_type reason) other.types
  same_said =
      sym (all_unfinished why (map (said_type why) schema.types) schema.types) ∙ ap (map unfinished) (sym one.types) ∙ ap (map unfinished) two.types
      ∙ all_unfinished reason (map (said_type reason) other.types) other.types

  same_found : option_map (said_type why) (type_called name schema.types) ≡ option_map (said_type reason) (type_called name other.types)
  same_found = found_said why name schema.types ∙ ap (find (named name)) same_said ∙ sym (found_said reason name other.types)

  same_some : is_some (type_called name schema.types) ≡ is_some (type_called name other.types)
  same_some = some_said why (type_called name schema.types) ∙ ap is_some same_found ∙ sym (some_said reason (type_called name other.types))

  same_test : (test : ExtendedType → Bool) (kinds : TypeKind → Bool) → IsOfKind test kinds → is_found test schema.types name ≡ is_found test other.types name
  same_test test kinds of_kind =
      test_said why test kinds of_kind (type_called name schema.types)
      ∙ ap (λ o. option_map_or (λ (s : ShownType). kinds s.kind) o false) same_found ∙ sym (test_said reason test kinds of_kind (type_called name other.types))

  same_known : is_known schema.types name ≡ is_known other.types name
  same_known = ap (λ b. b || is_built_in_scalar name) same_some

  pub found_alike : FindAlike schema.types other.types name
  found_alike = record {
    known = same_known;
    another_kind =
        ap (λ b. b && not (is_found is_object schema.types name)) same_known
        ∙ ap (λ b. is_known other.types name && not b) (same_test is_object object_kind objects);
    composite = same_test is_composite composite_kind composites;
    input_object = same_test is_input_object input_kind inputs;
  }
