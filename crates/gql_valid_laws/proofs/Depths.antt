-- Fields of one response key that one object can have have as many lists in one another.
use Rattle.std.proofs.Common.{rules, arith, ◌≡◌, ℕ, suc, Bool, true, false, not, ◌&&◌, ◌||◌, if◌then◌else◌, Option, Some, None, is_some, List, [], ◌∷◌, All, length, refl, sym, ap, ◌∙◌, subst}
use Rattle.std.specs.Prelude.{codes}
use Rattle.std.specs.Bool.{beq}
use Rattle.std.specs.Option.{option_and_then, option_or}
use Rattle.std.specs.Str.{bytes_eq}
use Rattle.gql_ast_base.specs.Names.{is_reserved}
use Rattle.gql_ast_base.specs.TypeParts.{named_type}
use Rattle.gql_ast_base.specs.declared.type_ref.TypeRef.{TypeRef, roll-TypeRef, the_lemmas}
use Rattle.gql_ast_base.specs.declared.type_ref.TypeRef.TheFolds.{ind-TypeRef, map-TypeRef}
use Rattle.gql_ast_base.specs.declared.type_ref.TypeRef.TheOpen.{TypeRef-F}
use Rattle.gql_ast.specs.declared.field_definition.FieldDefinition.{FieldDefinition}
use Rattle.gql_ast_laws.proofs.Kept.{Each}
use Rattle.gql_collect.proofs.Keys.{text-same}
use Rattle.gql_document_types.specs.declared.document.ExecutableDocument.{ExecutableDocument}
use Rattle.gql_document_types.specs.declared.selection.Field.{Field}
use Rattle.gql_parser.specs.OutputFields.{HaveNoReservedFields, HaveOutputTypes, NamesOutputType}
use Rattle.gql_rules_merging.specs.ConflictingFieldType.{are_known, levels, same_levels, same_named, same_shape}
use Rattle.gql_rules_merging.specs.FieldSelectionMerging.{AreConflicts}
use Rattle.gql_rules_values.specs.Known.{is_built_in_scalar, is_known}
use Rattle.gql_schema_types.specs.Entries.{entry}
use Rattle.gql_schema_types.specs.MetaFields.{schema_field, type_field, type_name_field}
use Rattle.gql_schema_types.specs.Schemas.{field_of, is_query_root, meta_field}
use Rattle.gql_schema_types.specs.Types.{field_name, fields_of, is_composite, type_called}
use Rattle.gql_schema_types.specs.declared.schema.Schema.{Schema}
use Rattle.gql_schema_types.specs.declared.types.ExtendedType.{ExtendedType}
use Rattle.gql_valid_laws.proofs.Bases.{IsDocumentBased}
use Rattle.gql_valid_laws.proofs.Implementing.{of-entry}
use Rattle.gql_valid_laws.proofs.Merging.{AreMet, HaveOneShape, shape_in_order, shape_turned, shape_equal, shapes_conflict}
use Rattle.gql_valid_laws.specs.Covariant.{lists_in}
use Rattle.gql_valid_laws.specs.Merge.{HaveOneDepth}

and-both : (a b : Bool) → (a && b) ≡ true → (a ≡ true) × (b ≡ true)
and-both true b is = (refl, is)
and-both false b is = absurd (let e : false ≡ true = is in cc)

-- ---- as many levels are as many lists

abbrev HasLevels : TypeRef → Type 0
HasLevels ty = length (levels ty) ≡ suc (lists_in ty)

abbrev Child : Type 0
Child = (ty : TypeRef) × HasLevels ty

abbrev plain_level : TypeRef-F Child → TypeRef-F TypeRef
plain_level (TypeRef-F.Named name) = TypeRef-F.Named name
plain_level (TypeRef-F.NonNullNamed name) = TypeRef-F.NonNullNamed name
plain_level (TypeRef-F.List item) = TypeRef-F.List item.0
plain_level (TypeRef-F.NonNullList item) = TypeRef-F.NonNullList item.0

plain-map : (y : TypeRef-F Child) → map-TypeRef Child TypeRef (λ e. e.0) y ≡ plain_level y
plain-map (TypeRef-F.Named name) = refl
plain-map (TypeRef-F.NonNullNamed name) = refl
plain-map (TypeRef-F.List item) = refl
plain-map (TypeRef-F.NonNullList item) = refl

level-lists : (y : TypeRef-F Child) → HasLevels (roll-TypeRef (plain_level y))
level-lists (TypeRef-F.Named name) =
    let a : levels (roll-TypeRef (TypeRef-F.Named name)) ≡ false ∷ [] = search (rules, the_lemmas) in
    let b : lists_in (roll-TypeRef (TypeRef-F.Named name)) ≡ 0 = search (rules, the_lemmas) in
    ap length a ∙ sym (ap suc b)
level-lists (TypeRef-F.NonNullNamed name) =
    let a : levels (roll-TypeRef (TypeRef-F.NonNullNamed name)) ≡ true ∷ [] = search (rules, the_lemmas) in
    let b : lists_in (roll-TypeRef (TypeRef-F.NonNullNamed name)) ≡ 0 = search (rules, the_lemmas) in
    ap length a ∙ sym (ap suc b)
level-lists (TypeRef-F.List item) =
    let a : levels (roll-TypeRef (TypeRef-F.List item.0)) ≡ false ∷ levels item.0 = search (rules, the_lemmas) in
    let b : lists_in (roll-TypeRef (TypeRef-F.List item.0)) ≡ suc (lists_in item.0) = search (rules, the_lemmas) in
    ap length a ∙ ap suc item.1 ∙ sym (ap suc b)
level-lists (TypeRef-F.NonNullList item) =
    let a : levels (roll-TypeRef (TypeRef-F.NonNullList item.0)) ≡ true ∷ levels item.0 = search (rules, the_lemmas) in
    let b : lists_in (roll-TypeRef (TypeRef-F.NonNullList item.0)) ≡ suc (lists_in item.0) = search (rules, the_lemmas) in
    ap length a ∙ ap suc item.1 ∙ sym (ap suc b)

has-levels : (ty : TypeRef) → HasLevels ty
has-levels = ind-TypeRef HasLevels (λ x y is. subst (λ (w : TypeRef-F TypeRef). HasLevels (roll-TypeRef w)) (sym (plain-map y) ∙ is) (level-lists y))

as-many-levels : (xs ys : List Bool) → same_levels xs ys ≡ true → length xs ≡ length ys
as-many-levels [] [] is = refl
as-many-levels [] (y ∷ ys) is = absurd (let e : false ≡ true = is in cc)
as-many-levels (x ∷ xs) [] is = absurd (let e : false ≡ true = is in cc)
as-many-levels (x ∷ xs) (y ∷ ys) is = ap suc (as-many-levels xs ys (and-both (beq x y) (same_levels xs ys) is).1)

as-many-lists : (one other : TypeRef) → same_levels (levels one) (levels other) ≡ true → lists_in one ≡ lists_in other
as-many-lists one other is = omega (arith, has-levels one, has-levels other, as-many-levels (levels one) (levels other) is)

pub each-of : {X : Type 0} (P : X → Type 0) (xs : List X) → All P xs → Each P xs
each-of P [] all = tt
each-of P (x ∷ xs) all = (all 0 x (omega arith), each-of P xs (λ k d less. all (suc k) d (omega arith)))

or-left : (a b : Bool) → a ≡ true → (a || b) ≡ true
or-left true b is = refl
or-left false b is = absurd (let e : false ≡ true = is in cc)

agreed : (a b : Bool) → (a && not b) ≡ false → a ≡ true → b ≡ true
agreed true true is holds = refl
agreed true false is holds = absurd (let e : true ≡ false = is in cc)
agreed false b is holds = absurd (let e : false ≡ true = holds in cc)

module _ (schema : Schema) (outputs : HaveOutputTypes schema) (unreserved : HaveNoReservedFields schema) where
  -- a field of a type is its own, or one of the three that types have besides
  pub data IsOf (name : List ℕ) (it : FieldDefinition) : Type 0 where
    own_field : (ty : List ℕ) (t : ExtendedType) → type_called ty schema.types ≡ Some t → entry field_name name (fields_of t) ≡ Some it → IsOf name it
    name_of_type : name ≡ codes "__typename" → it ≡ type_name_field → IsOf name it
    whole_schema : name ≡ codes "__schema" → it ≡ schema_field → IsOf name it
    type_by_name : name ≡ codes "__type" → it ≡ type_field → IsOf name it

  of-meta : (composite root : Bool) (name : List ℕ) (it : FieldDefinition) → meta_field composite root name ≡ Some it → IsOf name it
  of-meta composite root name it is =
      by composite root (bytes_eq name (codes "__typename")) (bytes_eq name (codes "__schema")) (bytes_eq name (codes "__type")) refl refl refl is
    where
      rest : (root s t : Bool) → bytes_eq name (codes "__schema") ≡ s → bytes_eq name (codes "__type") ≡ t
          → (if root && s then Some schema_field else (if root && t then Some type_field else None)) ≡ Some it → IsOf name it
      rest true true t at_schema at_type is =
          whole_schema (text-same name (codes "__schema") at_schema) (let e : Some schema_field ≡ Some it = is in let same : it ≡ schema_field = cc in same)
      rest true false true at_schema at_type is =
          type_by_name (text-same name (codes "__type") at_type) (let e : Some type_field ≡ Some it = is in let same : it ≡ type_field = cc in same)
      rest true false false at_schema at_type is = absurd (let e : None ≡ Some it = is in cc)
      rest false s t at_schema at_type is = absurd (let e : None ≡ Some it = is in cc)

      by : (composite root n s t : Bool) → bytes_eq name (codes "__typename") ≡ n → bytes_eq name (codes "__schema") ≡ s → bytes_eq name (codes "__type") ≡ t
          → (if composite && n then Some type_name_field
          else (if root && s then Some schema_field
          else (if root && t then Some type_field
          else None))) ≡ Some it → IsOf name it
      by true root true s t at_name at_schema at_type is =
          name_of_type (text-same name (codes "__typename") at_name) (let e : Some type_name_field ≡ Some it = is in let same : it ≡ type_name_field = cc in same)
      by true root false s t at_name at_schema at_type is = rest root s t at_schema at_type is
      by false root n s t at_name at_schema at_type is = rest root s t at_schema at_type is

  pub of-field : (ty name : List ℕ) (it : FieldDefinition) → field_of schema ty name ≡ Some it → IsOf name it
  of-field ty name it is = by (type_called ty schema.types) refl is
    where
      by_entry : (t : ExtendedType) → type_called ty schema.types ≡ Some t → (o : Option FieldDefinition) → entry field_name name (fields_of t) ≡ o
          → option_or o (meta_field (is_composite t) (is_query_root schema.schema_definition ty) name) ≡ Some it → IsOf name it
      by_entry t at (Some x) found is = own_field ty t at (found ∙ is)
      by_entry t at None found is = of-meta (is_composite t) (is_query_root schema.schema_definition ty) name it is

      by : (o : Option ExtendedType) → type_called ty schema.types ≡ o
          → option_and_then (λ t. option_or (entry field_name name (fields_of t)) (meta_field (is_composite t) (is_query_root schema.schema_definition ty) name)) o ≡ Some it → IsOf name it
      by None at is = absurd (let e : None ≡ Some it = is in cc)
      by (Some t) at is = by_entry t at (entry field_name name (fields_of t)) refl is

  own-known : (ty name : List ℕ) (t : ExtendedType) (it : FieldDefinition) → type_called ty schema.types ≡ Some t → entry field_name name (fields_of t) ≡ Some it
      → is_known schema.types (named_type it.ty).text ≡ true
  own-known ty name t it at found =
      let output = of-entry field_name name (NamesOutputType schema.types) (fields_of t) it (each-of (NamesOutputType schema.types) (fields_of t) (outputs ty t at)) found in
      or-left (is_some (type_called (named_type it.ty).text schema.types)) (is_built_in_scalar (named_type it.ty).text) (ap is_some output.defined)

  -- no own field has one of the three names
  own-apart : (ty name reserved : List ℕ) (t : ExtendedType) (it : FieldDefinition) → type_called ty schema.types ≡ Some t → entry field_name name (fields_of t) ≡ Some it
      → name ≡ reserved → is_reserved reserved ≡ true → ⊥
  own-apart ty name reserved t it at found same is =
      let e : None ≡ Some it = sym (unreserved ty name t at (ap is_reserved same ∙ is)) ∙ found in
      cc

  module _ (f g : FieldDefinition) (shapes : (is_known schema.types (named_type f.ty).text ≡ true) → (is_known schema.types (named_type g.ty).text ≡ true) → lists_in f.ty ≡ lists_in g.ty) where
    abbrev Goal : Type 0
    Goal = lists_in f.ty ≡ lists_in g.ty

    equal : (it : FieldDefinition) → f ≡ it → g ≡ it → Goal
    equal it one other = ap (λ (d : FieldDefinition). lists_in d.ty) (one ∙ sym other)

    apart : {A : Type 0} (x y : List ℕ) (name : List ℕ) → name ≡ x → name ≡ y → (length x ≡ length y → ⊥) → A
    apart x y name one other lengths = absurd (lengths (ap length (sym one ∙ other)))

    of-one-name : (name : List ℕ) → IsOf name f → IsOf name g → Goal
    of-one-name name (own_field a t at found) (own_field b u at_too found_too) = shapes (own-known a name t f at found) (own-known b name u g at_too found_too)
    of-one-name name (own_field a t at found) (name_of_type called is) = absurd (own-apart a name (codes "__typename") t f at found called refl)
    of-one-name name (own_field a t at found) (whole_schema called is) = absurd (own-apart a name (codes "__schema") t f at found called refl)
    of-one-name name (own_field a t at found) (type_by_name called is) = absurd (own-apart a name (codes "__type") t f at found called refl)
    of-one-name name (name_of_type called is) (own_field b u at_too found_too) = absurd (own-apart b name (codes "__typename") u g at_too found_too called refl)
    of-one-name name (whole_schema called is) (own_field b u at_too found_too) = absurd (own-apart b name (codes "__schema") u g at_too found_too called refl)
    of-one-name name (type_by_name called is) (own_field b u at_too found_too) = absurd (own-apart b name (codes "__type") u g at_too found_too called refl)
    of-one-name name (name_of_type called is) (name_of_type called_too is_too) = equal type_name_field is is_too
    of-one-name name (whole_schema called is) (whole_schema called_too is_too) = equal schema_field is is_too
    of-one-name name (type_by_name called is) (type_by_name called_too is_too) = equal type_field is is_too
    of-one-name name (name_of_type called is) (whole_schema called_too is_too) = apart (codes "__typename") (codes "__schema") name called called_too (λ e. omega (arith, e))
    of-one-name name (name_of_type called is) (type_by_name called_too is_too) = apart (codes "__typename") (codes "__type") name called called_too (λ e. omega (arith, e))
    of-one-name name (whole_schema called is) (name_of_type called_too is_too) = apart (codes "__schema") (codes "__typename") name called called_too (λ e. omega (arith, e))
    of-one-name name (whole_schema called is) (type_by_name called_too is_too) = apart (codes "__schema") (codes "__type") name called called_too (λ e. omega (arith, e))
    of-one-name name (type_by_name called is) (name_of_type called_too is_too) = apart (codes "__type") (codes "__typename") name called called_too (λ e. omega (arith, e))
    of-one-name name (type_by_name called is) (whole_schema called_too is_too) = apart (codes "__type") (codes "__schema") name called called_too (λ e. omega (arith, e))

  -- ---- two fields that are met

  module _ (document : ExecutableDocument) (are_based : IsDocumentBased schema document) (none : AreConflicts schema.types document []) where
    no-conflict : (f g : FieldDefinition) → shapes_conflict schema document are_based none f g ≡ false → is_known schema.types (named_type f.ty).text ≡ true
        → is_known schema.types (named_type g.ty).text ≡ true → lists_in f.ty ≡ lists_in g.ty
    no-conflict f g sound one other =
        let both : are_known schema.types f.ty g.ty ≡ true = ap (λ b. b && is_known schema.types (named_type g.ty).text) one ∙ other in
        let shape = agreed (are_known schema.types f.ty g.ty) (same_shape schema.types f.ty g.ty) sound both in
        as-many-lists f.ty g.ty
        (and-both (same_levels (levels f.ty) (levels g.ty)) (same_named schema.types (named_type f.ty).text (named_type g.ty).text) shape).0

    pub one-depth : (f g : Field) → AreMet schema document are_based none f g → HaveOneDepth f g
    one-depth f g met =
        of-one-name f.definition g.definition (by met.shape) f.name.text (of-field met.one.text f.name.text f.definition met.one_defined)
        (subst (λ n. IsOf n g.definition) (sym met.name) (of-field met.other.text g.name.text g.definition met.other_defined))
      where
        by : HaveOneShape schema document are_based none f g → is_known schema.types (named_type f.definition.ty).text ≡ true
            → is_known schema.types (named_type g.definition.ty).text ≡ true → lists_in f.definition.ty ≡ lists_in g.definition.ty
        by (shape_in_order sound) one other = no-conflict f.definition g.definition sound one other
        by (shape_turned sound) one other = sym (no-conflict g.definition f.definition sound other one)
        by (shape_equal same) one other = ap (λ (d : FieldDefinition). lists_in d.ty) same
