-- Types that validation leaves as they are.
use Rattle.std.proofs.Common.{◌≡◌, ℕ, Bool, true, false, cond, Some, List, [], ◌∷◌, ◌++◌, refl, ◌∙◌}
use Rattle.std.specs.Prelude.{codes}
use Rattle.std.specs.Str.{bytes_eq}
use Rattle.gql_ast.specs.declared.schema_definition.DirectiveDefinition.{DirectiveDefinition}
use Rattle.gql_schema_rules.specs.Scalars.{is_named, new_scalar, built_in_scalars, is_missing, with_missing, unless_unused, validated_types}
use Rattle.gql_schema_types.specs.Entries.{without}
use Rattle.gql_schema_types.specs.Types.{type_name, type_called}
use Rattle.gql_schema_types.specs.declared.types.ExtendedType.{ExtendedType}
use Rattle.gql_schema_types.proofs.Entries.{entry-front, entry-without}

module _ (definitions : List DirectiveDefinition) (name : List ℕ) where
  with_missing-kept : (t : ExtendedType) (types : List ExtendedType) (names : List (List ℕ)) → type_called name types ≡ Some t
      → type_called name (with_missing definitions types names) ≡ Some t
  with_missing-kept t types [] found = found
  with_missing-kept t types (n ∷ names) found =
      with_missing-kept t (cond (is_missing definitions types n) (types ++ new_scalar n ∷ []) types) names (by_test (is_missing definitions types n))
    where
      by_test : (b : Bool) → type_called name (cond b (types ++ new_scalar n ∷ []) types) ≡ Some t
      by_test true = entry-front type_name name t types (new_scalar n ∷ []) found
      by_test false = found

  unless_unused-kept : (n : List ℕ) (types : List ExtendedType) → bytes_eq name n ≡ false → type_called name (unless_unused definitions n types) ≡ type_called name types
  unless_unused-kept n types other = by_test (is_named definitions types n)
    where
      by_test : (b : Bool) → type_called name (cond b types (without type_name n types)) ≡ type_called name types
      by_test true = refl
      by_test false = entry-without type_name name n other types

  pub validated-kept : (t : ExtendedType) (types : List ExtendedType) → bytes_eq name (codes "Int") ≡ false → bytes_eq name (codes "Float") ≡ false
      → bytes_eq name (codes "ID") ≡ false → type_called name types ≡ Some t → type_called name (validated_types definitions types) ≡ Some t
  validated-kept t types int float id found =
      let all = with_missing definitions types built_in_scalars in
      let some = unless_unused definitions (codes "Int") all in
      unless_unused-kept (codes "ID") (unless_unused definitions (codes "Float") some) id
      ∙ unless_unused-kept (codes "Float") some float
      ∙ unless_unused-kept (codes "Int") all int
      ∙ with_missing-kept t types built_in_scalars found
