-- Where no rule finds a fault in a schema, its object types are covariant.
use Rattle.std.proofs.Common.{arith, ◌≡◌, ℕ, suc, Bool, true, false, not, ◌&&◌, ◌||◌, if◌then◌else◌, Option, Some, None, is_some, List, [], ◌∷◌, All, refl, sym, ap, ◌∙◌, subst}
use Rattle.std.specs.Prelude.{codes}
use Rattle.std.specs.Option.{option_and_then, option_map_or, option_or}
use Rattle.std.specs.Str.{bytes_eq}
use Rattle.gql_ast_base.specs.Names.{Named, is_reserved}
use Rattle.gql_ast_base.specs.TypeParts.{named_type}
use Rattle.gql_ast_base.specs.declared.operation_type.OperationType.TheVariants.{Query}
use Rattle.gql_ast_base.specs.declared.type_ref.TypeRef.{TypeRef}
use Rattle.gql_ast.specs.declared.field_definition.FieldDefinition.{FieldDefinition}
use Rattle.gql_ast_laws.proofs.Kept.{Each}
use Rattle.gql_collect.proofs.Keys.{text-same}
use Rattle.gql_collect.specs.Applies.{has_member, is_listed}
use Rattle.gql_parser.specs.OutputFields.{HaveNoReservedFields, HaveOutputTypes, NamesOutputType}
use Rattle.gql_parser.specs.Roots.{AreRootsObjects}
use Rattle.gql_schema_rules_parts.specs.InterfaceRules.{field_faults}
use Rattle.gql_schema_rules_parts.specs.Subtypes.{are_known, is_below, is_subname}
use Rattle.gql_rules_values.specs.Known.{is_built_in_scalar, is_known}
use Rattle.gql_schema_rules.specs.Scalars.{validated}
use Rattle.gql_schema_types.specs.Called.{is_among}
use Rattle.gql_schema_types.specs.Entries.{entry}
use Rattle.gql_schema_types.specs.Implementers.{implements, is_object}
use Rattle.gql_schema_types.specs.MetaFields.{schema_field, type_field, type_name_field}
use Rattle.gql_schema_types.specs.Schemas.{field_of, field_on, is_query_root, meta_field, object_of}
use Rattle.gql_schema_types.specs.Types.{as_object, field_name, fields_of, type_called, type_name}
use Rattle.gql_schema_types.specs.declared.schema.Schema.{Schema}
use Rattle.gql_schema_types.specs.declared.types.ExtendedType.{ExtendedType}
use Rattle.gql_schema_types.specs.declared.types.ExtendedType.TheVariants as type
use Rattle.gql_schema_types.specs.declared.types.InterfaceType.{InterfaceType}
use Rattle.gql_schema_types.specs.declared.types.ObjectType.{ObjectType}
use Rattle.gql_schema_types.specs.declared.types.UnionType.{UnionType}
use Rattle.gql_valid_laws.proofs.Implementing.{ListsWell, IsSound, HasFitting, entry-named, entry-quiet, has-fitting, of-entry}
use Rattle.gql_valid_laws.proofs.Settled.{is_scalar, same-type, was-known, was-there}
use Rattle.gql_valid_laws.proofs.Subtypes.{below}
use Rattle.gql_valid_laws.specs.Covariant.{IsCovariant, IsObject, IsSub, Stands}

or-right : (a b : Bool) → b ≡ true → (a || b) ≡ true
or-right true b is = refl
or-right false b is = is

or-left : (a b : Bool) → a ≡ true → (a || b) ≡ true
or-left true b is = refl
or-left false b is = absurd (let e : false ≡ true = is in cc)

or-first : (a : Bool) → (a || false) ≡ true → a ≡ true
or-first true is = refl
or-first false is = is

not-false : (b : Bool) → not b ≡ false → b ≡ true
not-false true is = refl
not-false false is = absurd (let e : true ≡ false = is in cc)

and-true : (a b : Bool) → (a && b) ≡ false → a ≡ true → b ≡ false
and-true true b is holds = is
and-true false b is holds = absurd (let e : false ≡ true = holds in cc)

each-of : {X : Type 0} (P : X → Type 0) (xs : List X) → All P xs → Each P xs
each-of P [] all = tt
each-of P (x ∷ xs) all = (all 0 x (omega arith), each-of P xs (λ k d less. all (suc k) d (omega arith)))

module _ (before : Schema) (sound : Each (IsSound before) before.types) (outputs : HaveOutputTypes (validated before))
    (unreserved : HaveNoReservedFields (validated before)) (roots : AreRootsObjects (validated before)) where
  abbrev S : Schema
  S = validated before

  abbrev Called : List ℕ → ExtendedType → Type 0
  Called name ty = type_called name S.types ≡ Some ty

  was : (name : List ℕ) (ty : ExtendedType) → is_scalar ty ≡ false → Called name ty → type_called name before.types ≡ Some ty
  was name ty other found = was-there before.directive_definitions name ty before.types other found

  is-same : (name : List ℕ) (ty earlier : ExtendedType) → Called name ty → type_called name before.types ≡ Some earlier → ty ≡ earlier
  is-same name ty earlier found there = same-type before.directive_definitions name ty before.types earlier found there

  known : (name : List ℕ) (ty : ExtendedType) → Called name ty → is_known before.types name ≡ true
  known name ty found = was-known before.directive_definitions name ty before.types found

  object-there : (V : ObjectType) → IsObject S V → Called V.name.text (type.Object V)
  object-there V is = by (type_called V.name.text S.types) refl is
    where
      by : (o : Option ExtendedType) → type_called V.name.text S.types ≡ o → option_and_then as_object o ≡ Some V → type_called V.name.text S.types ≡ Some (type.Object V)
      by None at is = absurd (let e : None ≡ Some V = is in cc)
      by (Some (type.Object it)) at is = let same : it ≡ V = (let e : Some it ≡ Some V = is in cc) in at ∙ ap (λ (o : ObjectType). Some (type.Object o)) same
      by (Some (type.Scalar it)) at is = absurd (let e : None ≡ Some V = is in cc)
      by (Some (type.Interface it)) at is = absurd (let e : None ≡ Some V = is in cc)
      by (Some (type.Union it)) at is = absurd (let e : None ≡ Some V = is in cc)
      by (Some (type.Enum it)) at is = absurd (let e : None ≡ Some V = is in cc)
      by (Some (type.InputObject it)) at is = absurd (let e : None ≡ Some V = is in cc)

  -- ---- how an object type stands for a name

  data StandsBy (V : ObjectType) (name : List ℕ) : Type 0 where
    itself : name ≡ V.name.text → StandsBy V name
    listing : (it : InterfaceType) → Called name (type.Interface it) → is_among name V.implements_interfaces ≡ true → StandsBy V name
    member : (it : UnionType) → Called name (type.Union it) → is_among V.name.text it.members ≡ true → StandsBy V name

  stands-by : (V : ObjectType) (name : List ℕ) → Stands S V name → StandsBy V name
  stands-by V name stands = by_name (bytes_eq name V.name.text) refl stands
    where
      by_type : (o : Option ExtendedType) → type_called name S.types ≡ o → (is_listed o name V.implements_interfaces || has_member o V.name.text) ≡ true → StandsBy V name
      by_type None at holds = absurd (let e : false ≡ true = holds in cc)
      by_type (Some (type.Interface it)) at holds = listing it at (or-first (is_among name V.implements_interfaces) holds)
      by_type (Some (type.Union it)) at holds = member it at holds
      by_type (Some (type.Object it)) at holds = absurd (let e : false ≡ true = holds in cc)
      by_type (Some (type.Scalar it)) at holds = absurd (let e : false ≡ true = holds in cc)
      by_type (Some (type.Enum it)) at holds = absurd (let e : false ≡ true = holds in cc)
      by_type (Some (type.InputObject it)) at holds = absurd (let e : false ≡ true = holds in cc)

      by_name : (b : Bool) → bytes_eq name V.name.text ≡ b
          → (b || (is_listed (type_called name S.types) name V.implements_interfaces || has_member (type_called name S.types) V.name.text)) ≡ true → StandsBy V name
      by_name true is holds = itself (text-same name V.name.text is)
      by_name false is holds = by_type (type_called name S.types) refl holds

  stands-listed : (V : ObjectType) (name : List ℕ) (it : InterfaceType) → Called name (type.Interface it) → is_among name V.implements_interfaces ≡ true → Stands S V name
  stands-listed V name it found among =
      or-right (bytes_eq name V.name.text) (is_listed (type_called name S.types) name V.implements_interfaces || has_member (type_called name S.types) V.name.text)
      (or-left (is_listed (type_called name S.types) name V.implements_interfaces) (has_member (type_called name S.types) V.name.text)
      (ap (λ o. is_listed o name V.implements_interfaces) found ∙ among))

  stands-member : (V : ObjectType) (name : List ℕ) (it : UnionType) → Called name (type.Union it) → is_among V.name.text it.members ≡ true → Stands S V name
  stands-member V name it found among =
      or-right (bytes_eq name V.name.text) (is_listed (type_called name S.types) name V.implements_interfaces || has_member (type_called name S.types) V.name.text)
      (or-right (is_listed (type_called name S.types) name V.implements_interfaces) (has_member (type_called name S.types) V.name.text)
      (ap (λ o. has_member o V.name.text) found ∙ among))

  -- only an object type itself stands for one
  for-object : (V : ObjectType) (name : List ℕ) (it : ObjectType) → Called name (type.Object it) → Stands S V name → name ≡ V.name.text
  for-object V name it found stands = by (stands-by V name stands)
    where
      by : StandsBy V name → name ≡ V.name.text
      by (itself same) = same
      by (listing other at among) = absurd (let e : Some (type.Object it) ≡ Some (type.Interface other) = sym found ∙ at in cc)
      by (member other at among) = absurd (let e : Some (type.Object it) ≡ Some (type.Union other) = sym found ∙ at in cc)

  -- what an object type lists
  lists-of : (V : ObjectType) → IsObject S V → ListsWell before.types V.name V.fields V.implements_interfaces
  lists-of V is = of-entry type_name V.name.text (IsSound before) before.types (type.Object V) sound (was V.name.text (type.Object V) refl (object-there V is))

  -- ---- what stands for a name stands for those that it is below

  module _ (name other : List ℕ) (ty wanted : ExtendedType) (its : Called name ty) (theirs : Called other wanted) (V : ObjectType) (is : IsObject S V) (stands : Stands S V name) where
    -- an interface that a type of the first name lists
    by-interface : (it : InterfaceType) → type_called other before.types ≡ Some (type.Interface it) → option_map_or (implements it.name.text) (type_called name before.types) false ≡ true
        → Stands S V other
    by-interface it at lists = by (type_called name before.types) refl lists
      where
        called : other ≡ it.name.text
        called = entry-named type_name other before.types (type.Interface it) at

        there : Called other (type.Interface it)
        there = theirs ∙ ap Some (is-same other wanted (type.Interface it) theirs at)

        goal : is_among it.name.text V.implements_interfaces ≡ true → Stands S V other
        goal among = stands-listed V other it there (ap (λ n. is_among n V.implements_interfaces) called ∙ among)

        of_object : (own : ObjectType) → type_called name before.types ≡ Some (type.Object own) → is_among it.name.text own.implements_interfaces ≡ true → Stands S V other
        of_object own found among =
            let now : Called name (type.Object own) = its ∙ ap Some (is-same name ty (type.Object own) its found) in
            let same = for-object V name own now stands in
            let e : Some (type.Object own) ≡ Some (type.Object V) = sym now ∙ ap (λ n. type_called n S.types) same ∙ object-there V is in
            let equal : own ≡ V = cc in
            goal (ap (λ (o : ObjectType). is_among it.name.text o.implements_interfaces) (sym equal) ∙ among)

        of_interface : (own : InterfaceType) → type_called name before.types ≡ Some (type.Interface own) → is_among it.name.text own.implements_interfaces ≡ true → Stands S V other
        of_interface own found among = by_way (stands-by V name stands)
          where
            now : Called name (type.Interface own)
            now = its ∙ ap Some (is-same name ty (type.Interface own) its found)

            by_way : StandsBy V name → Stands S V other
            by_way (itself same) =
                absurd (let e : Some (type.Interface own) ≡ Some (type.Object V) = sym now ∙ ap (λ n. type_called n S.types) same ∙ object-there V is in cc)
            by_way (member union at_union member_of) = absurd (let e : Some (type.Interface own) ≡ Some (type.Union union) = sym now ∙ at_union in cc)
            by_way (listing again at_again among_own) =
                goal ((lists-of V is).whole name among_own own found it.name.text among
                (ap (is_known before.types) (sym called) ∙ or-left (is_some (type_called other before.types)) (is_built_in_scalar other) (ap is_some at)))

        by : (o : Option ExtendedType) → type_called name before.types ≡ o → option_map_or (implements it.name.text) o false ≡ true → Stands S V other
        by None found lists = absurd (let e : false ≡ true = lists in cc)
        by (Some (type.Object own)) found lists = of_object own found lists
        by (Some (type.Interface own)) found lists = of_interface own found lists
        by (Some (type.Union own)) found lists = absurd (let e : false ≡ true = lists in cc)
        by (Some (type.Scalar own)) found lists = absurd (let e : false ≡ true = lists in cc)
        by (Some (type.Enum own)) found lists = absurd (let e : false ≡ true = lists in cc)
        by (Some (type.InputObject own)) found lists = absurd (let e : false ≡ true = lists in cc)

    -- a union with a member of the first name
    by-union : (it : UnionType) → type_called other before.types ≡ Some (type.Union it) → is_among name it.members ≡ true → Stands S V other
    by-union it at among = by (type_called name before.types) refl object
      where
        single : is_known before.types name ≡ true
        single = known name ty its

        object : option_map_or is_object (type_called name before.types) false ≡ true
        object =
            not-false (option_map_or is_object (type_called name before.types) false)
            (and-true (is_known before.types name) (not (option_map_or is_object (type_called name before.types) false))
            (of-entry type_name other (IsSound before) before.types (type.Union it) sound at name among) single)

        there : Called other (type.Union it)
        there = theirs ∙ ap Some (is-same other wanted (type.Union it) theirs at)

        by : (o : Option ExtendedType) → type_called name before.types ≡ o → option_map_or is_object o false ≡ true → Stands S V other
        by None found is_object_type = absurd (let e : false ≡ true = is_object_type in cc)
        by (Some (type.Object own)) found is_object_type =
            let same = for-object V name own (its ∙ ap Some (is-same name ty (type.Object own) its found)) stands in
            stands-member V other it there (ap (λ n. is_among n it.members) (sym same) ∙ among)
        by (Some (type.Interface own)) found is_object_type = absurd (let e : false ≡ true = is_object_type in cc)
        by (Some (type.Union own)) found is_object_type = absurd (let e : false ≡ true = is_object_type in cc)
        by (Some (type.Scalar own)) found is_object_type = absurd (let e : false ≡ true = is_object_type in cc)
        by (Some (type.Enum own)) found is_object_type = absurd (let e : false ≡ true = is_object_type in cc)
        by (Some (type.InputObject own)) found is_object_type = absurd (let e : false ≡ true = is_object_type in cc)

    stands-below : is_subname before.types name other ≡ true → Stands S V other
    stands-below under = by_name (bytes_eq name other) refl under
      where
        by_type : (o : Option ExtendedType) → type_called other before.types ≡ o → option_map_or (is_below before.types name) o false ≡ true → Stands S V other
        by_type None at under = absurd (let e : false ≡ true = under in cc)
        by_type (Some (type.Union it)) at under = by-union it at under
        by_type (Some (type.Interface it)) at under = by-interface it at under
        by_type (Some (type.Object it)) at under = absurd (let e : false ≡ true = under in cc)
        by_type (Some (type.Scalar it)) at under = absurd (let e : false ≡ true = under in cc)
        by_type (Some (type.Enum it)) at under = absurd (let e : false ≡ true = under in cc)
        by_type (Some (type.InputObject it)) at under = absurd (let e : false ≡ true = under in cc)

        by_name : (b : Bool) → bytes_eq name other ≡ b → (b || option_map_or (is_below before.types name) (type_called other before.types) false) ≡ true → Stands S V other
        by_name true is_same under = subst (Stands S V) (text-same name other is_same) stands
        by_name false is_same under = by_type (type_called other before.types) refl under

  -- ---- fields

  abbrev Covers : ObjectType → List ℕ → FieldDefinition → Type 0
  Covers T name wanted = (own : FieldDefinition) × (field_of S T.name.text name ≡ Some own) × IsSub S wanted.ty own.ty

  equal-types : (ty : TypeRef) → IsSub S ty ty
  equal-types ty = record { lists = refl; stands = λ V is stands. stands }

  names-type : (name field : List ℕ) (ty : ExtendedType) (it : FieldDefinition) → Called name ty → entry field_name field (fields_of ty) ≡ Some it → NamesOutputType S.types it
  names-type name field ty it found at =
      of-entry field_name field (NamesOutputType S.types) (fields_of ty) it (each-of (NamesOutputType S.types) (fields_of ty) (outputs name ty found)) at

  module _ (T : ObjectType) (object : IsObject S T) (name : List ℕ) (wanted : FieldDefinition) where
    its-field : (own : FieldDefinition) → entry field_name name T.fields ≡ Some own → field_of S T.name.text name ≡ Some own
    its-field own at =
        ap (λ o. option_and_then (λ ty. field_on S.schema_definition ty T.name.text name) o) (object-there T object)
        ∙ ap (λ o. option_or o (meta_field true (is_query_root S.schema_definition T.name.text) name)) at

    -- a field of an interface that it lists
    own-field : (ty : List ℕ) (it : InterfaceType) → Called ty (type.Interface it) → is_among ty T.implements_interfaces ≡ true → entry field_name name it.fields ≡ Some wanted → Covers T name wanted
    own-field ty it found among at =
        let quiet : field_faults before.types T.name it.name T.fields wanted ≡ [] =
        entry-quiet field_name name (field_faults before.types T.name it.name T.fields) it.fields wanted
        ((lists-of T object).fields_fit ty among it (was ty (type.Interface it) refl found)) at in
        let fitting : HasFitting before.types T.fields wanted = has-fitting before.types T.name it.name T.fields wanted quiet in
        let own = fitting.own in
        let its_place : entry field_name name T.fields ≡ Some own = ap (λ n. entry field_name n T.fields) (entry-named field_name name it.fields wanted at) ∙ fitting.there in
        let of_wanted = names-type ty name (type.Interface it) wanted found at in
        let of_own = names-type T.name.text name (type.Object T) own (object-there T object) its_place in
        let both : are_known before.types wanted.ty own.ty ≡ true =
        ap (λ b. b && is_known before.types (named_type own.ty).text) (known (named_type wanted.ty).text of_wanted.type of_wanted.defined)
        ∙ known (named_type own.ty).text of_own.type of_own.defined in
        let under = below before.types wanted.ty own.ty (fitting.fits both) in (
          own,
          its-field own its_place,
          record {
            lists = under.lists;
            stands = λ V is stands.
                stands-below (named_type own.ty).text (named_type wanted.ty).text of_own.type of_wanted.type of_own.defined of_wanted.defined V is stands under.named;
          },
        )

    -- a field that the type of the name has by being composite
    its-name : (ty : List ℕ) → (is_some (object_of S ty) ≡ true → ⊥) → meta_field true (is_query_root S.schema_definition ty) name ≡ Some wanted → Covers T name wanted
    its-name ty other is = by_name (bytes_eq name (codes "__typename")) refl is
      where
        by_query : (o : Option Named) → S.schema_definition.query ≡ o → option_map_or (λ (root : Named). bytes_eq ty root.text) o false ≡ true → ⊥
        by_query None at root = (let e : false ≡ true = root in cc)
        by_query (Some root) at is_root = other (ap (λ n. is_some (object_of S n)) (text-same ty root.text is_root) ∙ roots Query root at)

        by_root : (b : Bool) → is_query_root S.schema_definition ty ≡ b
            → (if b && bytes_eq name (codes "__schema") then Some schema_field else (if b && bytes_eq name (codes "__type") then Some type_field else None)) ≡ Some wanted → Covers T name wanted
        by_root true root is = absurd (by_query S.schema_definition.query refl root)
        by_root false root is = absurd (let e : None ≡ Some wanted = is in cc)

        by_name : (b : Bool) → bytes_eq name (codes "__typename") ≡ b
            → (if b then Some type_name_field
            else (if is_query_root S.schema_definition ty && bytes_eq name (codes "__schema") then Some schema_field
            else (if is_query_root S.schema_definition ty && bytes_eq name (codes "__type") then Some type_field
            else None))) ≡ Some wanted → Covers T name wanted
        by_name false apart is = by_root (is_query_root S.schema_definition ty) refl is
        by_name true called is =
            let same : name ≡ codes "__typename" = text-same name (codes "__typename") called in
            let none : entry field_name name T.fields ≡ None = unreserved T.name.text name (type.Object T) (object-there T object) (ap is_reserved same) in
            let root = is_query_root S.schema_definition T.name.text in
            let of_name : meta_field true root name ≡ Some type_name_field =
            ap (λ (b : Bool). if b then Some type_name_field
            else (if root && bytes_eq name (codes "__schema") then Some schema_field
            else (if root && bytes_eq name (codes "__type") then Some type_field
            else None))) called in (
              wanted,
              ap (λ o. option_and_then (λ ty. field_on S.schema_definition ty T.name.text name) o) (object-there T object)
                  ∙ ap (λ o. option_or o (meta_field true root name)) none ∙ of_name ∙ is,
              equal-types wanted.ty,
            )

    covers : (ty : List ℕ) → StandsBy T ty → field_of S ty name ≡ Some wanted → Covers T name wanted
    covers ty (itself same) is = (wanted, ap (λ n. field_of S n name) (sym same) ∙ is, equal-types wanted.ty)
    covers ty (listing it found among) is = by_entry (entry field_name name it.fields) refl here
      where
        here : option_or (entry field_name name it.fields) (meta_field true (is_query_root S.schema_definition ty) name) ≡ Some wanted
        here = sym (ap (λ o. option_and_then (λ t. field_on S.schema_definition t ty name) o) found) ∙ is

        no_object : is_some (object_of S ty) ≡ true → ⊥
        no_object some = (let e : false ≡ true = sym (ap (λ o. is_some (option_and_then as_object o)) found) ∙ some in cc)

        by_entry : (o : Option FieldDefinition) → entry field_name name it.fields ≡ o → option_or o (meta_field true (is_query_root S.schema_definition ty) name) ≡ Some wanted
            → Covers T name wanted
        by_entry (Some field) at is = own-field ty it found among (at ∙ is)
        by_entry None at is = its-name ty no_object is
    covers ty (member it found among) is = its-name ty no_object here
      where
        here : meta_field true (is_query_root S.schema_definition ty) name ≡ Some wanted
        here = sym (ap (λ o. option_and_then (λ t. field_on S.schema_definition t ty name) o) found) ∙ is

        no_object : is_some (object_of S ty) ≡ true → ⊥
        no_object some = (let e : false ≡ true = sym (ap (λ o. is_some (option_and_then as_object o)) found) ∙ some in cc)

  pub covariant : IsCovariant S
  covariant T ty name wanted object stands is = covers T object name wanted ty (stands-by T ty stands) is
