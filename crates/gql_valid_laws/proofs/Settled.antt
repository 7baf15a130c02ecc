-- A type of a schema whose built-in scalars are settled was there before, or is a built-in scalar that was missing.
use Rattle.std.proofs.Common.{◌≡◌, ℕ, Bool, true, false, not, ◌||◌, cond, if◌then◌else◌, Option, Some, None, is_some, List, [], ◌∷◌, ◌++◌, refl, sym, ap, ◌∙◌}
use Rattle.std.specs.Prelude.{codes}
use Rattle.std.specs.List.{list_any}
use Rattle.std.specs.Str.{bytes_eq}
use Rattle.std.proofs.lemmas.Slice.Eq.{bytes_eq-Decides}
use Rattle.gql_ast.specs.declared.schema_definition.DirectiveDefinition.{DirectiveDefinition}
use Rattle.gql_rules_values.specs.Known.{is_built_in_scalar, is_known}
use Rattle.gql_schema_rules.specs.Scalars.{is_named, new_scalar, built_in_scalars, is_missing, with_missing, unless_unused, validated_types}
use Rattle.gql_schema_types.proofs.Entries.{entry-front, entry-last, entry-without}
use Rattle.gql_schema_types.specs.Entries.{is_called, without}
use Rattle.gql_schema_types.specs.Types.{type_name, type_called}
use Rattle.gql_schema_types.specs.declared.types.ExtendedType.{ExtendedType}
use Rattle.gql_schema_types.specs.declared.types.ExtendedType.TheVariants as type

abbrev pub is_scalar : ExtendedType → Bool
is_scalar (type.Scalar it) = true
is_scalar _ = false

or-right : (a b : Bool) → b ≡ true → (a || b) ≡ true
or-right true b is = refl
or-right false b is = is

or-left : (a b : Bool) → a ≡ true → (a || b) ≡ true
or-left true b is = refl
or-left false b is = absurd (let e : false ≡ true = is in cc)

module _ (definitions : List DirectiveDefinition) (n : List ℕ) (t : ExtendedType) where
  -- it was there, or it is one of these scalars and new
  data From (names : List (List ℕ)) (types : List ExtendedType) : Type 0 where
    before : type_called n types ≡ Some t → From names types
    added : type_called n types ≡ None → list_any (bytes_eq n) names ≡ true → is_scalar t ≡ true → From names types

  gone : (types : List ExtendedType) → type_called n (without type_name n types) ≡ None
  gone [] = refl
  gone (y ∷ ys) = by_test (is_called type_name n y) refl (gone ys)
    where
      by_test : (b : Bool) → is_called type_name n y ≡ b → type_called n (without type_name n ys) ≡ None
          → type_called n (cond (not b) (y ∷ without type_name n ys) (without type_name n ys)) ≡ None
      by_test true is later = later
      by_test false is later = ap (λ b. cond b (Some y) (type_called n (without type_name n ys))) is ∙ later

  unless-from : (m : List ℕ) (types : List ExtendedType) → type_called n (unless_unused definitions m types) ≡ Some t → type_called n types ≡ Some t
  unless-from m types found = by_test (is_named definitions types m) found
    where
      by_name : (b : Bool) → bytes_eq n m ≡ b → type_called n (without type_name m types) ≡ Some t → type_called n types ≡ Some t
      by_name false other there = sym (entry-without type_name n m other types) ∙ there
      by_name true is there =
          let same : n ≡ m = (bytes_eq-Decides n m).0 is in
          let e : None ≡ Some t = sym (gone types) ∙ ap (λ k. type_called n (without type_name k types)) same ∙ there in
          absurd cc

      by_test : (b : Bool) → type_called n (if b then types else without type_name m types) ≡ Some t → type_called n types ≡ Some t
      by_test true there = there
      by_test false there = by_name (bytes_eq n m) refl there

  -- ---- one scalar more

  module _ (m : List ℕ) (names : List (List ℕ)) (types : List ExtendedType) where
    more-found : type_called n (types ++ new_scalar m ∷ []) ≡ Some t → From (m ∷ names) types
    more-found found = by_entry (type_called n types) refl
      where
        by_called : type_called n types ≡ None → (b : Bool) → bytes_eq n m ≡ b → cond b (Some (new_scalar m)) None ≡ Some t → From (m ∷ names) types
        by_called missing true is there =
            let new : new_scalar m ≡ t = (let e : Some (new_scalar m) ≡ Some t = there in cc) in
            added missing (or-left (bytes_eq n m) (list_any (bytes_eq n) names) is) (ap is_scalar (sym new))
        by_called missing false is there = absurd (let e : None ≡ Some t = there in cc)

        by_entry : (o : Option ExtendedType) → type_called n types ≡ o → From (m ∷ names) types
        by_entry (Some x) is = before (is ∙ sym (entry-front type_name n x types (new_scalar m ∷ []) is) ∙ found)
        by_entry None is = by_called is (bytes_eq n m) refl (sym (entry-last type_name n (new_scalar m) types is) ∙ found)

    -- what was missing with it was missing without it
    none-before : type_called n (types ++ new_scalar m ∷ []) ≡ None → type_called n types ≡ None
    none-before missing = by_entry (type_called n types) refl
      where
        by_entry : (o : Option ExtendedType) → type_called n types ≡ o → o ≡ None
        by_entry None is = refl
        by_entry (Some x) is = absurd (let e : Some x ≡ None = sym (entry-front type_name n x types (new_scalar m ∷ []) is) ∙ missing in cc)

    one-more : (b : Bool) → From names (if b then types ++ new_scalar m ∷ [] else types) → From (m ∷ names) types
    one-more true (before found) = more-found found
    one-more true (added missing among scalar) = added (none-before missing) (or-right (bytes_eq n m) (list_any (bytes_eq n) names) among) scalar
    one-more false (before found) = before found
    one-more false (added missing among scalar) = added missing (or-right (bytes_eq n m) (list_any (bytes_eq n) names) among) scalar

  missing-from : (names : List (List ℕ)) (types : List ExtendedType) → type_called n (with_missing definitions types names) ≡ Some t → From names types
  missing-from [] types found = before found
  missing-from (m ∷ names) types found =
      one-more m names types (is_missing definitions types m) (missing-from names (if is_missing definitions types m then types ++ new_scalar m ∷ [] else types) found)

  settled-from : (types : List ExtendedType) → type_called n (validated_types definitions types) ≡ Some t → From built_in_scalars types
  settled-from types found =
      let all = with_missing definitions types built_in_scalars in
      let some = unless_unused definitions (codes "Int") all in
      missing-from built_in_scalars types
      (unless-from (codes "Int") all (unless-from (codes "Float") some (unless-from (codes "ID") (unless_unused definitions (codes "Float") some) found)))

  -- ---- what follows

  -- another type than a scalar was there
  pub was-there : (types : List ExtendedType) → is_scalar t ≡ false → type_called n (validated_types definitions types) ≡ Some t → type_called n types ≡ Some t
  was-there types other found = by (settled-from types found)
    where
      by : From built_in_scalars types → type_called n types ≡ Some t
      by (before there) = there
      by (added missing among scalar) = absurd (let e : false ≡ true = sym other ∙ scalar in cc)

  -- where there was one, it is the same
  pub same-type : (types : List ExtendedType) (x : ExtendedType) → type_called n (validated_types definitions types) ≡ Some t → type_called n types ≡ Some x → t ≡ x
  same-type types x found there = by (settled-from types found)
    where
      by : From built_in_scalars types → t ≡ x
      by (before is) = (let e : Some t ≡ Some x = sym is ∙ there in cc)
      by (added missing among scalar) = absurd (let e : None ≡ Some x = sym missing ∙ there in cc)

  -- what is defined counted as defined
  pub was-known : (types : List ExtendedType) → type_called n (validated_types definitions types) ≡ Some t → is_known types n ≡ true
  was-known types found = by (settled-from types found)
    where
      among-five : (a b c d e : Bool) → (a || (b || (c || (d || (e || false))))) ≡ true → (a || (b || (c || (d || e)))) ≡ true
      among-five true b c d e is = refl
      among-five false true c d e is = refl
      among-five false false true d e is = refl
      among-five false false false true e is = refl
      among-five false false false false true is = refl
      among-five false false false false false is = is

      by : From built_in_scalars types → is_known types n ≡ true
      by (before is) = or-left (is_some (type_called n types)) (is_built_in_scalar n) (ap is_some is)
      by (added missing among scalar) =
          or-right (is_some (type_called n types)) (is_built_in_scalar n)
          (among-five (bytes_eq n (codes "Int")) (bytes_eq n (codes "Float")) (bytes_eq n (codes "String")) (bytes_eq n (codes "Boolean")) (bytes_eq n (codes "ID")) among)
