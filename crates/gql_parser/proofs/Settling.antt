-- What a type's fields name stays where validation settles the built-in scalars.
use Rattle.std.proofs.Common.{◌≡◌, ℕ, suc, zero, ◌<◌, Bool, true, false, not, ◌||◌, cond, if◌then◌else◌, Option, Some, None, List, [], ◌∷◌, ◌++◌, length, get_or, refl, sym, ap, ◌∙◌, arith}
use Rattle.std.specs.Prelude.{codes}
use Rattle.std.specs.List.{list_any}
use Rattle.std.specs.Str.{bytes_eq}
use Rattle.std.proofs.lemmas.Slice.Eq.{bytes_eq-Decides}
use Rattle.gql_ast.specs.declared.schema_definition.DirectiveDefinition.{DirectiveDefinition}
use Rattle.gql_ast_laws.proofs.Kept.{Each}
use Rattle.gql_parser.proofs.SourcedFields.{each-append, each-filter}
use Rattle.gql_schema_rules.specs.Scalars.{type_names, directive_names, is_named, new_scalar, built_in_scalars, is_missing, with_missing, unless_unused, validated_types}
use Rattle.gql_schema_types.proofs.Entries.{entry-front, entry-last, entry-without}
use Rattle.gql_schema_types.specs.Entries.{is_called, without}
use Rattle.gql_schema_types.specs.Types.{type_name, type_called}
use Rattle.gql_schema_types.specs.declared.types.ExtendedType.{ExtendedType}
use Rattle.gql_schema_types.specs.declared.types.ExtendedType.TheVariants as type

or-right : (a b : Bool) → b ≡ true → (a || b) ≡ true
or-right true b h = refl
or-right false b h = h

or-left : (a b : Bool) → a ≡ true → (a || b) ≡ true
or-left true b h = refl
or-left false b h = absurd cc

pub any-at : {X : Type 0} (p : X → Bool) (xs : List X) (k : ℕ) (d : X) → k < length xs → p (get_or xs k d) ≡ true → list_any p xs ≡ true
any-at p [] k d lt h = absurd (omega (arith, lt))
any-at p (x ∷ xs) zero d lt h = or-left (p x) (list_any p xs) h
any-at p (x ∷ xs) (suc k) d lt h = or-right (p x) (list_any p xs) (any-at p xs k d (omega (arith, lt)) h)

abbrev pub is_scalar_type : ExtendedType → Bool
is_scalar_type (type.Scalar it) = true
is_scalar_type _ = false

module _ (definitions : List DirectiveDefinition) where
  -- ---- what holds of each type, and of each new scalar

  module _ (Q : ExtendedType → Type 0) (new : (name : List ℕ) → Q (new_scalar name)) where
    each-missing : (names : List (List ℕ)) (types : List ExtendedType) → Each Q types → Each Q (with_missing definitions types names)
    each-missing [] types h = h
    each-missing (m ∷ names) types h = each-missing names (if is_missing definitions types m then types ++ new_scalar m ∷ [] else types) (by_test (is_missing definitions types m))
      where
        by_test : (b : Bool) → Each Q (if b then types ++ new_scalar m ∷ [] else types)
        by_test true = each-append Q types (new_scalar m ∷ []) h (new m, tt)
        by_test false = h

    each-unless : (m : List ℕ) (types : List ExtendedType) → Each Q types → Each Q (unless_unused definitions m types)
    each-unless m types h = by_test (is_named definitions types m)
      where
        by_test : (b : Bool) → Each Q (if b then types else without type_name m types)
        by_test true = h
        by_test false = each-filter Q (λ x. not (is_called type_name m x)) types h

    pub each-settled : (types : List ExtendedType) → Each Q types → Each Q (validated_types definitions types)
    each-settled types h =
        let all = with_missing definitions types built_in_scalars in
        let some = unless_unused definitions (codes "Int") all in
        each-unless (codes "ID") (unless_unused definitions (codes "Float") some)
        (each-unless (codes "Float") some (each-unless (codes "Int") all (each-missing built_in_scalars types h)))

  -- ---- what a type names

  module _ (own n : List ℕ) (ty t : ExtendedType) (named : type_names n ty ≡ true) where
    -- the type and what it names are there
    pub record AreThere (types : List ExtendedType) : Type 0 where
      pub owner : type_called own types ≡ Some ty
      pub target : type_called n types ≡ Some t

    any-names : (types : List ExtendedType) → type_called own types ≡ Some ty → list_any (type_names n) types ≡ true
    any-names [] found = absurd cc
    any-names (y ∷ ys) found = by_test (is_called type_name own y) found (any-names ys)
      where
        by_test : (b : Bool) → cond b (Some y) (type_called own ys) ≡ Some ty → (type_called own ys ≡ Some ty → list_any (type_names n) ys ≡ true)
            → (type_names n y || list_any (type_names n) ys) ≡ true
        by_test true found later =
            let same : y ≡ ty = cc in
            or-left (type_names n y) (list_any (type_names n) ys) (ap (type_names n) same ∙ named)
        by_test false found later = or-right (type_names n y) (list_any (type_names n) ys) (later found)

    is-named : (types : List ExtendedType) → type_called own types ≡ Some ty → is_named definitions types n ≡ true
    is-named types found = or-right (list_any (directive_names n) definitions) (list_any (type_names n) types) (any-names types found)

    missing-there : (names : List (List ℕ)) (types : List ExtendedType) → AreThere types → AreThere (with_missing definitions types names)
    missing-there [] types h = h
    missing-there (m ∷ names) types h = missing-there names (if is_missing definitions types m then types ++ new_scalar m ∷ [] else types) (by_test (is_missing definitions types m))
      where
        by_test : (b : Bool) → AreThere (if b then types ++ new_scalar m ∷ [] else types)
        by_test true = record {
          owner = entry-front type_name own ty types (new_scalar m ∷ []) h.owner;
          target = entry-front type_name n t types (new_scalar m ∷ []) h.target;
        }
        by_test false = h

    unless-there : (m : List ℕ) → bytes_eq own m ≡ false → (types : List ExtendedType) → AreThere types → AreThere (unless_unused definitions m types)
    unless-there m apart types h = by_test (is_named definitions types m) refl
      where
        by_name : (b : Bool) → bytes_eq n m ≡ b → is_named definitions types m ≡ false → type_called n (without type_name m types) ≡ Some t
        by_name false other unused = entry-without type_name n m other types ∙ h.target
        by_name true is unused =
            let same : n ≡ m = (bytes_eq-Decides n m).0 is in
            let e : true ≡ false = sym (is-named types h.owner) ∙ ap (is_named definitions types) same ∙ unused in
            absurd cc

        by_test : (b : Bool) → is_named definitions types m ≡ b → AreThere (if b then types else without type_name m types)
        by_test true used = h
        by_test false unused = record { owner = entry-without type_name own m apart types ∙ h.owner; target = by_name (bytes_eq n m) refl unused }

    pub settled-there : bytes_eq own (codes "Int") ≡ false → bytes_eq own (codes "Float") ≡ false → bytes_eq own (codes "ID") ≡ false → (types : List ExtendedType) → AreThere types
        → AreThere (validated_types definitions types)
    settled-there int float id types h =
        let all = with_missing definitions types built_in_scalars in
        let some = unless_unused definitions (codes "Int") all in
        unless-there (codes "ID") id (unless_unused definitions (codes "Float") some)
        (unless-there (codes "Float") float some (unless-there (codes "Int") int all (missing-there built_in_scalars types h)))

  -- ---- and no type is new but scalars

  module _ (name : List ℕ) (ty : ExtendedType) (other_kind : is_scalar_type ty ≡ false) where
    abbrev Found : List ExtendedType → Type 0
    Found types = type_called name types ≡ Some ty

    before-scalar : (m : List ℕ) (types : List ExtendedType) → Found (types ++ new_scalar m ∷ []) → Found types
    before-scalar m types found = by_entry (type_called name types) refl
      where
        by_test : (b : Bool) → cond b (Some (new_scalar m)) None ≡ Some ty → type_called name types ≡ Some ty
        by_test true is =
            let same : new_scalar m ≡ ty = cc in
            let e : true ≡ false = ap is_scalar_type same ∙ other_kind in
            absurd cc
        by_test false is = absurd cc

        by_entry : (o : Option ExtendedType) → type_called name types ≡ o → type_called name types ≡ Some ty
        by_entry (Some t) is = is ∙ sym (entry-front type_name name t types (new_scalar m ∷ []) is) ∙ found
        by_entry None is = by_test (is_called type_name name (new_scalar m)) (sym (entry-last type_name name (new_scalar m) types is) ∙ found)

    before-missing : (names : List (List ℕ)) (types : List ExtendedType) → Found (with_missing definitions types names) → Found types
    before-missing [] types found = found
    before-missing (m ∷ names) types found =
        by_test (is_missing definitions types m) (before-missing names (if is_missing definitions types m then types ++ new_scalar m ∷ [] else types) found)
      where
        by_test : (b : Bool) → Found (if b then types ++ new_scalar m ∷ [] else types) → Found types
        by_test true h = before-scalar m types h
        by_test false h = h

    gone : (types : List ExtendedType) → type_called name (without type_name name types) ≡ None
    gone [] = refl
    gone (y ∷ ys) = by_test (is_called type_name name y) refl (gone ys)
      where
        by_test : (b : Bool) → is_called type_name name y ≡ b → type_called name (without type_name name ys) ≡ None
            → type_called name (cond (not b) (y ∷ without type_name name ys) (without type_name name ys)) ≡ None
        by_test true is later = later
        by_test false is later = ap (λ b. cond b (Some y) (type_called name (without type_name name ys))) is ∙ later

    before-unused : (m : List ℕ) (types : List ExtendedType) → Found (unless_unused definitions m types) → Found types
    before-unused m types found = by_test (is_named definitions types m) found
      where
        by_name : (b : Bool) → bytes_eq name m ≡ b → Found (without type_name m types) → Found types
        by_name false other h = sym (entry-without type_name name m other types) ∙ h
        by_name true is h =
            let same : name ≡ m = (bytes_eq-Decides name m).0 is in
            let e : None ≡ Some ty = sym (gone types) ∙ ap (λ k. type_called name (without type_name k types)) same ∙ h in
            absurd cc

        by_test : (b : Bool) → Found (if b then types else without type_name m types) → Found types
        by_test true h = h
        by_test false h = by_name (bytes_eq name m) refl h

    pub before-settled : (types : List ExtendedType) → Found (validated_types definitions types) → Found types
    before-settled types found =
        let all = with_missing definitions types built_in_scalars in
        let some = unless_unused definitions (codes "Int") all in
        before-missing built_in_scalars types (before-unused (codes "Int") all (before-unused (codes "Float") some (before-unused (codes "ID") (unless_unused definitions (codes "Float") some) found)))
