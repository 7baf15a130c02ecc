-- A built-in scalar is a scalar of each schema.
use Rattle.std.proofs.Common.{◌≡◌, ℕ, Bool, true, false, cond, Option, Some, None, List, [], ◌∷◌, ◌++◌, map, fold, refl, ap, ◌∙◌}
use Rattle.std.specs.List.{filter}
use Rattle.std.specs.Option.{option_map_or, option_and_then}
use Rattle.std.specs.Str.{bytes_eq}
use Rattle.gql_schema_build.specs.BuiltInScalarTypeRedefinition.{is_scalar}
use Rattle.gql_schema_build.specs.Built.{built}
use Rattle.gql_schema_build.specs.TypeTable.{all_extended, types}
use Rattle.gql_schema_build.specs.DefinitionNames.{definition_name}
use Rattle.gql_schema_build.specs.Extended.{extended}
use Rattle.gql_schema_build.specs.ExtensionNames.{extension_name}
use Rattle.gql_schema_build.specs.Merged.{firsts}
use Rattle.gql_schema_build.specs.declared.type_definition.TypeDefinition.{TypeDefinition}
use Rattle.gql_schema_build.specs.declared.type_definition.TypeDefinition.TheVariants as type
use Rattle.gql_schema_build.specs.declared.type_extension.TypeExtension.{TypeExtension}
use Rattle.gql_schema_build.specs.declared.type_extension.TypeExtension.TheVariants as extension
use Rattle.gql_schema_types.specs.Entries.{is_called, entry}
use Rattle.gql_schema_types.specs.Types.{type_name, type_called, as_object}
use Rattle.gql_schema_types.specs.declared.types.ExtendedType.TheVariants as made
use Rattle.gql_schema_types.specs.declared.types.ScalarType.{ScalarType}
use Rattle.gql_schema_build.proofs.Whole.{built_name, extended_name}
use Rattle.gql_schema_types.proofs.Entries.{entry-front, joined-first}

-- ---- extensions keep the kind

kept_kind : (d : TypeDefinition) (e : TypeExtension) → is_scalar (extended d e) ≡ is_scalar d
kept_kind (type.Scalar d) (extension.Scalar e) = refl
kept_kind (type.Object d) (extension.Object e) = refl
kept_kind (type.Interface d) (extension.Interface e) = refl
kept_kind (type.Union d) (extension.Union e) = refl
kept_kind (type.Enum d) (extension.Enum e) = refl
kept_kind (type.InputObject d) (extension.InputObject e) = refl
kept_kind d e = refl

all_kinds : (es : List TypeExtension) (d : TypeDefinition) → is_scalar (fold extended d es) ≡ is_scalar d
all_kinds [] d = refl
all_kinds (e ∷ es) d = all_kinds es (extended d e) ∙ kept_kind d e

as_scalar : (d : TypeDefinition) → is_scalar d ≡ true → (it : ScalarType) × (built d ≡ made.Scalar it)
as_scalar (type.Scalar d) scalar = (_, refl)
as_scalar (type.Object d) scalar = absurd cc
as_scalar (type.Interface d) scalar = absurd cc
as_scalar (type.Union d) scalar = absurd cc
as_scalar (type.Enum d) scalar = absurd cc
as_scalar (type.InputObject d) scalar = absurd cc

-- ---- the type of a name is that of its first definition

module _ (es : List TypeExtension) (name : List ℕ) where
  whole_name : (d : TypeDefinition) → type_name (built (all_extended es d)) ≡ definition_name d
  whole_name d = built_name (all_extended es d) ∙ extended_name (filter (is_called extension_name (definition_name d).text) es) d

  pub built-entry : (d : TypeDefinition) (fs : List TypeDefinition) → entry definition_name name fs ≡ Some d
      → type_called name (map (λ f. built (all_extended es f)) fs) ≡ Some (built (all_extended es d))
  built-entry d [] found = absurd cc
  built-entry d (f ∷ fs) found =
      ap (λ n. cond (bytes_eq name n.text) (Some (built (all_extended es f))) (type_called name (map (λ f. built (all_extended es f)) fs))) (whole_name f)
      ∙ by_test (is_called definition_name name f) found (built-entry d fs)
    where
      by_test : (b : Bool) → cond b (Some f) (entry definition_name name fs) ≡ Some d
          → (entry definition_name name fs ≡ Some d → type_called name (map (λ f. built (all_extended es f)) fs) ≡ Some (built (all_extended es d)))
          → cond b (Some (built (all_extended es f))) (type_called name (map (λ f. built (all_extended es f)) fs)) ≡ Some (built (all_extended es d))
      by_test true found later = ap (λ o. option_and_then (λ g. Some (built (all_extended es g))) o) found
      by_test false found later = later found

  -- a scalar among the first definitions is a scalar of the schema
  pub scalar-scalar : (front behind : List TypeDefinition) → option_map_or is_scalar (entry definition_name name front) false ≡ true
      → (it : ScalarType) × (type_called name (types (front ++ behind) es) ≡ Some (made.Scalar it))
  scalar-scalar front behind scalar = by_entry (entry definition_name name front) refl scalar
    where
      by_entry : (o : Option TypeDefinition) → entry definition_name name front ≡ o → option_map_or is_scalar o false ≡ true
          → (it : ScalarType) × (type_called name (types (front ++ behind) es) ≡ Some (made.Scalar it))
      by_entry None is scalar = absurd cc
      by_entry (Some d) is scalar =
          let first : entry definition_name name (firsts (front ++ behind)) ≡ Some d =
          joined-first definition_name name d [] (front ++ behind) refl (entry-front definition_name name d front behind is) in
          let kind : is_scalar (all_extended es d) ≡ true = all_kinds (filter (is_called extension_name (definition_name d).text) es) d ∙ scalar in
          let made_of = as_scalar (all_extended es d) kind in
          (made_of.0, built-entry d (firsts (front ++ behind)) first ∙ ap (λ t. Some t) made_of.1)

  -- and so no object type of it
  pub scalar-no_object : (front behind : List TypeDefinition) → option_map_or is_scalar (entry definition_name name front) false ≡ true
      → option_and_then as_object (type_called name (types (front ++ behind) es)) ≡ None
  scalar-no_object front behind scalar = ap (λ o. option_and_then as_object o) (scalar-scalar front behind scalar).1
