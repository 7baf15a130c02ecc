-- Types that are no choice of others and have no fields, by their names: validation leaves them so.
use Rattle.std.proofs.Common.{◌≡◌, ℕ, Bool, true, false, not, ◌&&◌, ◌||◌, cond, Some, List, [], ◌∷◌, ◌++◌, refl, sym, ◌∙◌, ap}
use Rattle.std.specs.Prelude.{codes}
use Rattle.std.specs.List.{filter, list_all}
use Rattle.gql_ast.specs.declared.schema_definition.DirectiveDefinition.{DirectiveDefinition}
use Rattle.gql_schema_rules.specs.Scalars.{is_named, new_scalar, built_in_scalars, is_missing, with_missing, unless_unused, validated_types}
use Rattle.gql_schema_types.specs.Entries.{is_called, without}
use Rattle.gql_schema_types.specs.Types.{type_name, type_called, is_composite}
use Rattle.gql_schema_types.specs.declared.types.ExtendedType.{ExtendedType}

and_both : (a b : Bool) → a ≡ true → b ≡ true → (a && b) ≡ true
and_both true b p q = q
and_both false b p q = p

and_left : (a b : Bool) → (a && b) ≡ true → a ≡ true
and_left true b h = refl
and_left false b h = absurd cc

and_right : (a b : Bool) → (a && b) ≡ true → b ≡ true
and_right true b h = h
and_right false b h = absurd cc

or_right : (a : Bool) → (a || true) ≡ true
or_right true = refl
or_right false = refl

module _ (name : List ℕ) where
  -- the type has another name, or no fields
  abbrev pub is_leaf_there : ExtendedType → Bool
  is_leaf_there t = not (is_called type_name name t) || not (is_composite t)

  abbrev pub AreLeaves : List ExtendedType → Type 0
  AreLeaves types = list_all is_leaf_there types ≡ true

  leaves_kept : (q : ExtendedType → Bool) (types : List ExtendedType) → AreLeaves types → AreLeaves (filter q types)
  leaves_kept q [] h = refl
  leaves_kept q (t ∷ types) h = by_test (q t) (leaves_kept q types (and_right (is_leaf_there t) (list_all is_leaf_there types) h))
    where
      by_test : (b : Bool) → AreLeaves (filter q types) → AreLeaves (cond b (t ∷ filter q types) (filter q types))
      by_test true rest = and_both (is_leaf_there t) (list_all is_leaf_there (filter q types)) (and_left (is_leaf_there t) (list_all is_leaf_there types) h) rest
      by_test false rest = rest

  leaf_more : (n : List ℕ) (types : List ExtendedType) → AreLeaves types → AreLeaves (types ++ new_scalar n ∷ [])
  leaf_more n [] h = and_both (is_leaf_there (new_scalar n)) true (or_right (not (is_called type_name name (new_scalar n)))) refl
  leaf_more n (t ∷ types) h =
      and_both (is_leaf_there t) (list_all is_leaf_there (types ++ new_scalar n ∷ [])) (and_left (is_leaf_there t) (list_all is_leaf_there types) h)
      (leaf_more n types (and_right (is_leaf_there t) (list_all is_leaf_there types) h))

  module _ (definitions : List DirectiveDefinition) where
    missing_leaves : (types : List ExtendedType) (names : List (List ℕ)) → AreLeaves types → AreLeaves (with_missing definitions types names)
    missing_leaves types [] h = h
    missing_leaves types (n ∷ names) h = missing_leaves (cond (is_missing definitions types n) (types ++ new_scalar n ∷ []) types) names (by_test (is_missing definitions types n))
      where
        by_test : (b : Bool) → AreLeaves (cond b (types ++ new_scalar n ∷ []) types)
        by_test true = leaf_more n types h
        by_test false = h

    unused_leaves : (n : List ℕ) (types : List ExtendedType) → AreLeaves types → AreLeaves (unless_unused definitions n types)
    unused_leaves n types h = by_test (is_named definitions types n)
      where
        by_test : (b : Bool) → AreLeaves (cond b types (without type_name n types))
        by_test true = h
        by_test false = leaves_kept (λ t. not (is_called type_name n t)) types h

    pub validated_leaves : (types : List ExtendedType) → AreLeaves types → AreLeaves (validated_types definitions types)
    validated_leaves types h =
        let all = with_missing definitions types built_in_scalars in
        let some = unless_unused definitions (codes "Int") all in
        unused_leaves (codes "ID") (unless_unused definitions (codes "Float") some)
        (unused_leaves (codes "Float") some (unused_leaves (codes "Int") all (missing_leaves types built_in_scalars h)))

  pub leaf_called : (types : List ExtendedType) (found : ExtendedType) → AreLeaves types → type_called name types ≡ Some found → is_composite found ≡ false
  leaf_called [] found h is = absurd cc
  leaf_called (t ∷ types) found h is =
      by_test (is_called type_name name t) (and_left (is_leaf_there t) (list_all is_leaf_there types) h) is
      (leaf_called types found (and_right (is_leaf_there t) (list_all is_leaf_there types) h))
    where
      no_fields : (b : Bool) → not b ≡ true → b ≡ false
      no_fields true k = absurd cc
      no_fields false k = refl

      by_test : (b : Bool) → (not b || not (is_composite t)) ≡ true → cond b (Some t) (type_called name types) ≡ Some found
          → (type_called name types ≡ Some found → is_composite found ≡ false) → is_composite found ≡ false
      by_test true k is later = let same : t ≡ found = cc in ap is_composite (sym same) ∙ no_fields (is_composite t) k
      by_test false k is later = later is
