-- What is made of references to types, level by level.
use Rattle.std.proofs.Common.{rules, ◌≡◌, ℕ, zero, suc, ◌+◌, Bool, true, false, Option, Some, None, is_some, List, [], ◌∷◌, codes, refl, sym, ap, ap₂, ◌∙◌, subst}
use Rattle.std.specs.Prelude.{length}
use Rattle.gql_ast_base.specs.Names.{Named}
use Rattle.gql_ast_base.specs.TypeParts.{named_type}
use Rattle.gql_ast_base.specs.declared.type_ref.TypeRef.{TypeRef, out-TypeRef, roll-TypeRef, List as ListOf, NonNullList, the_lemmas}
use Rattle.gql_ast_base.specs.declared.type_ref.TypeRef.TheOpen.{TypeRef-F}
use Rattle.gql_ast_base.specs.declared.type_ref.TypeRef.TheVariants as ref
use Rattle.gql_ast_laws.specs.Printed.{from_nowhere, unplaced}
use Rattle.gql_client_schema_laws.specs.Answer.{Pairs, text_or_null, kind_text, kind_among, head_level, inside_level, both_of, of_type, reference_pairs}
use Rattle.gql_client_schema_laws.specs.Given.{why}
use Rattle.gql_client_schema_laws.specs.Parts.{said_type}
use Rattle.gql_client_schema_laws.proofs.Given.{type_given}
use Rattle.gql_coerce.specs.InputTypes.{is_enum_value}
use Rattle.gql_document_types.specs.Ranks.{AreRanked}
use Rattle.gql_client_schema_laws.specs.FullQuery.{levels_asked, levels_length}
use Rattle.gql_client_schema_laws.specs.Introspection.{plain, required, row, HasIntrospection}
use Rattle.gql_client_schema_laws.specs.Selected.{full_fragments, field_with, selected, definition_in}
use Rattle.gql_client_schema_laws.proofs.Forms.{out-named, out-strict, out-list, out-strict_list}
use Rattle.gql_client_schema_laws.proofs.Leaves.{text_or_null-made, word-made, null-made}
use Rattle.gql_client_schema_laws.proofs.Making.{all_made, GroupMade, SetMade, Makes, world, set-made}
use Rattle.gql_client_schema_laws.proofs.Objects.{object-made}
use Rattle.gql_client_schema_laws.proofs.Sets.{single, defined, groups-asked}
use Rattle.gql_introspection.specs.Answers.{null_leaf, text_leaf, text_or_null as text_or_null_leaf}
use Rattle.gql_introspection.specs.Meta.{Meta, type_def, wrapped, type_name_of}
use Rattle.gql_introspection.specs.MetaMeaning.{meta_row}
use Rattle.gql_introspection.specs.NamedTypes.{type_level, type_or_null, type_meaning}
use Rattle.gql_introspection.specs.Wrapped.{kind_level, inner_level}
use Rattle.gql_resolvers.specs.Execute.{execute}
use Rattle.gql_resolvers.specs.Resolved.{gives_object}
use Rattle.gql_resolvers.specs.Trail.{Trail}
use Rattle.gql_schema_types.specs.Types.{type_called, type_name}
use Rattle.gql_schema_types.specs.declared.schema.Schema.{Schema}
use Rattle.gql_schema_types.specs.declared.types.ExtendedType.{ExtendedType}
use Rattle.gql_schema_types.specs.declared.types.ObjectType.{ObjectType}
use Rattle.gql_sdl.specs.declared.shown.ShownType.{ShownType}
use Rattle.gql_sdl.specs.declared.shown.TypeKind.{TypeKind}
use Rattle.gql_sdl.specs.declared.shown.TypeKind.TheVariants as shown_kind
use Rattle.gql_source.specs.File.{Files}
use Rattle.jb_tree.specs.declared.value.Value.{Value}
use Rattle.jb_tree.specs.declared.value.Value.TheVariants as json

-- ---- references, one form after the other

roll-out : (ty : TypeRef) → roll-TypeRef (out-TypeRef ty) ≡ ty
roll-out ty = search (rules, the_lemmas)

roll-named : (name : Named) → roll-TypeRef (TypeRef-F.Named name) ≡ ref.Named name
roll-named name = search (rules, the_lemmas)

roll-strict : (name : Named) → roll-TypeRef (TypeRef-F.NonNullNamed name) ≡ ref.NonNullNamed name
roll-strict name = search (rules, the_lemmas)

roll-list : (item : TypeRef) → roll-TypeRef (TypeRef-F.List item) ≡ ListOf item
roll-list item = search (rules, the_lemmas)

roll-strict_list : (item : TypeRef) → roll-TypeRef (TypeRef-F.NonNullList item) ≡ NonNullList item
roll-strict_list item = search (rules, the_lemmas)

each : (P : TypeRef → Type 0) → ((name : Named) → P (ref.Named name)) → ((name : Named) → P (ref.NonNullNamed name)) → ((item : TypeRef) → P (ListOf item))
    → ((item : TypeRef) → P (NonNullList item)) → (ty : TypeRef) → P ty
each P named strict list strict_list ty = subst P (roll-out ty) (rolled (out-TypeRef ty))
  where
    rolled : (level : TypeRef-F TypeRef) → P (roll-TypeRef level)
    rolled (TypeRef-F.Named name) = subst P (sym (roll-named name)) (named name)
    rolled (TypeRef-F.NonNullNamed name) = subst P (sym (roll-strict name)) (strict name)
    rolled (TypeRef-F.List item) = subst P (sym (roll-list item)) (list item)
    rolled (TypeRef-F.NonNullList item) = subst P (sym (roll-strict_list item)) (strict_list item)

unplaced-named : (name : Named) → unplaced (ref.Named name) ≡ ref.Named (from_nowhere name)
unplaced-named name = search (rules, the_lemmas)

unplaced-strict : (name : Named) → unplaced (ref.NonNullNamed name) ≡ ref.NonNullNamed (from_nowhere name)
unplaced-strict name = search (rules, the_lemmas)

unplaced-list : (item : TypeRef) → unplaced (ListOf item) ≡ ListOf (unplaced item)
unplaced-list item = search (rules, the_lemmas)

unplaced-strict_list : (item : TypeRef) → unplaced (NonNullList item) ≡ NonNullList (unplaced item)
unplaced-strict_list item = search (rules, the_lemmas)

named-list : (item : TypeRef) → named_type (ListOf item) ≡ named_type item
named-list item = search (rules, the_lemmas)

named-strict_list : (item : TypeRef) → named_type (NonNullList item) ≡ named_type item
named-strict_list item = search (rules, the_lemmas)

named-named : (name : Named) → named_type (ref.Named name) ≡ name
named-named name = search (rules, the_lemmas)

named-strict : (name : Named) → named_type (ref.NonNullNamed name) ≡ name
named-strict name = search (rules, the_lemmas)

-- so many levels take so much depth
abbrev pub raised : ℕ → ℕ → ℕ
raised zero d = suc d
raised (suc n) d = suc (raised n d)

module _ (schema : Schema) (files : Files) (rank : ℕ → ℕ) (ranked : AreRanked (full_fragments schema) rank) (known : HasIntrospection schema) where
  abbrev pub W : ObjectType
  W = known.type_type.object

  abbrev pub Runs : ℕ → Meta → ℕ → ℕ → Pairs → Type 0
  Runs depth object start n pairs = (ty : Named) → SetMade schema files rank ranked known depth W object (selected schema ty (levels_asked start n) ∷ []) pairs

  abbrev head_pairs : List ℕ → Option (List ℕ) → Pairs
  head_pairs kind name = (codes "kind", json.String kind) ∷ (codes "name", text_or_null name) ∷ []

  -- the kind and the name of something
  record HasHead (object : Meta) (kind : List ℕ) (name : Option (List ℕ)) : Type 0 where
    taken : is_enum_value known.kinds.enum.values kind ≡ true
    kind_given : meta_row object (codes "kind") [] ≡ Some (text_leaf kind)
    name_given : meta_row object (codes "name") [] ≡ Some (text_or_null_leaf name)

  module _ (d : ℕ) (object : Meta) (kind : List ℕ) (name : Option (List ℕ)) (head : HasHead object kind name) (start : ℕ) (ty : Named) (outer : Trail) where
    kind-made : Makes schema files rank ranked known (execute (world schema files rank ranked known) d) W object outer
        (single (field_with schema ty start (start + length (codes "kind")) (codes "kind") false [])) (json.String kind)
    kind-made =
        word-made schema files rank ranked known (execute (world schema files rank ranked known) d) W (codes "__Type") known.type_type.named ty object outer start (start + length (codes "kind"))
        (codes "kind") required (codes "__TypeKind") kind _ known.kinds known.type_type.fields.0 (refl, refl) refl head.taken head.kind_given

    name-made : Makes schema files rank ranked known (execute (world schema files rank ranked known) d) W object outer
        (single (field_with schema ty (start + 5) (start + 5 + length (codes "name")) (codes "name") false [])) (text_or_null name)
    name-made =
        text_or_null-made schema files rank ranked known (execute (world schema files rank ranked known) d) W (codes "__Type") known.type_type.named ty object outer (start + 5)
        (start + 5 + length (codes "name")) (codes "name") name known.type_type.fields.1.0 (refl, refl) head.name_given

  abbrev kind_row : Named → ℕ → List ℕ → GroupMade schema files rank ranked known
  kind_row ty start kind = (single (field_with schema ty start (start + length (codes "kind")) (codes "kind") false []), json.String kind)

  abbrev name_row : Named → ℕ → Option (List ℕ) → GroupMade schema files rank ranked known
  name_row ty start name = (single (field_with schema ty (start + 5) (start + 5 + length (codes "name")) (codes "name") false []), text_or_null name)

  last-level : (d : ℕ) (object : Meta) (kind : List ℕ) (name : Option (List ℕ)) → HasHead object kind name → (start : ℕ) → Runs (suc d) object start zero (head_pairs kind name)
  last-level d object kind name head start ty =
      set-made schema files rank ranked known d W object (selected schema ty (levels_asked start zero) ∷ []) (kind_row ty start kind ∷ name_row ty start name ∷ [])
      (groups-asked schema files rank ranked W ty (levels_asked start zero) tt (
        defined schema files rank ranked W (codes "__Type") known.type_type.named _ known.type_type.fields.0,
        (defined schema files rank ranked W (codes "__Type") known.type_type.named _ known.type_type.fields.1.0, tt),
      ))
      (λ outer. (kind-made d object kind name head start ty outer, (name-made d object kind name head start ty outer, tt)))

  abbrev within_row : Named → ℕ → ℕ → Value → GroupMade schema files rank ranked known
  within_row ty start n v = (
    single (field_with schema ty (start + 10) (start + 21 + levels_length n) (codes "ofType") false
        (selected schema (named_type (definition_in schema ty (codes "ofType")).ty) (levels_asked (start + 19) n))),
    v,
  )

  -- a level with whatever is made of the one inside it
  level-with : (d : ℕ) (object : Meta) (kind : List ℕ) (name : Option (List ℕ)) → HasHead object kind name → (start n : ℕ) (v : Value)
      → ((ty : Named) (outer : Trail) → Makes schema files rank ranked known (execute (world schema files rank ranked known) d) W object outer (within_row ty start n v).0 v)
      → Runs (suc d) object start (suc n) ((codes "kind", json.String kind) ∷ (codes "name", text_or_null name) ∷ (codes "ofType", v) ∷ [])
  level-with d object kind name head start n v made ty =
      set-made schema files rank ranked known d W object (selected schema ty (levels_asked start (suc n)) ∷ [])
      (kind_row ty start kind ∷ name_row ty start name ∷ within_row ty start n v ∷ [])
      (groups-asked schema files rank ranked W ty (levels_asked start (suc n)) tt (
        defined schema files rank ranked W (codes "__Type") known.type_type.named _ known.type_type.fields.0,
        (
          defined schema files rank ranked W (codes "__Type") known.type_type.named _ known.type_type.fields.1.0,
          (defined schema files rank ranked W (codes "__Type") known.type_type.named _ known.type_type.fields.1.1.1.1.1.1.1.1.1.1.0, tt),
        ),
      ))
      (λ outer. (kind-made d object kind name head start ty outer, (name-made d object kind name head start ty outer, (made ty outer, tt))))

  -- nothing is inside it
  level-end : (d : ℕ) (object : Meta) (kind : List ℕ) (name : Option (List ℕ)) → HasHead object kind name → meta_row object (codes "ofType") [] ≡ Some null_leaf → (start n : ℕ)
      → Runs (suc d) object start (suc n) ((codes "kind", json.String kind) ∷ (codes "name", text_or_null name) ∷ (codes "ofType", json.Null) ∷ [])
  level-end d object kind name head given start n =
      level-with d object kind name head start n json.Null
      (λ ty outer.
      null-made schema files rank ranked known (execute (world schema files rank ranked known) d) W (codes "__Type") known.type_type.named ty object outer (start + 10)
      (start + 21 + levels_length n) (row (codes "ofType") plain (codes "__Type"))
      (selected schema (named_type (definition_in schema ty (codes "ofType")).ty) (levels_asked (start + 19) n)) known.type_type.fields.1.1.1.1.1.1.1.1.1.1.0 (refl, refl) refl given)

  level-more : (d : ℕ) (object : Meta) (kind : List ℕ) (name : Option (List ℕ)) → HasHead object kind name → (start n : ℕ) (inner : Meta) (pairs : Pairs)
      → meta_row object (codes "ofType") [] ≡ Some (gives_object inner) → type_name_of inner ≡ codes "__Type" → Runs d inner (start + 19) n pairs
      → Runs (suc d) object start (suc n) ((codes "kind", json.String kind) ∷ (codes "name", text_or_null name) ∷ (codes "ofType", json.Object pairs) ∷ [])
  level-more d object kind name head start n inner pairs given called made =
      level-with d object kind name head start n (json.Object pairs)
      (λ ty outer.
      object-made schema files rank ranked known d W (codes "__Type") known.type_type.named ty object outer (start + 10) (start + 21 + levels_length n)
      (row (codes "ofType") plain (codes "__Type")) (selected schema (named_type (definition_in schema ty (codes "ofType")).ty) (levels_asked (start + 19) n)) inner _ pairs
      known.type_type.fields.1.1.1.1.1.1.1.1.1.1.0 (refl, refl) refl given known.type_type called
      (made (named_type (definition_in schema ty (codes "ofType")).ty)))

  -- ---- types that have names

  module _ (types : List ShownType)
      (kinds : (name : List ℕ) (t : ExtendedType) → type_called name schema.types ≡ Some t → kind_among types name ≡ (said_type (why schema) t).kind)
      (names : (name : List ℕ) (t : ExtendedType) → type_called name schema.types ≡ Some t → (type_name t).text ≡ name) where
    abbrev pub IsKnown : TypeRef → Type 0
    IsKnown ty = is_some (type_called (named_type ty).text schema.types) ≡ true

    abbrev pub MadeAs : ℕ → Meta → Pairs → Type 0
    MadeAs n object pairs = (d start : ℕ) → Runs (raised n d) object start n pairs

    -- the object that stands for a reference, and what is made of it
    pub record Referred (n : ℕ) (ty : TypeRef) : Type 0 where
      pub object : Meta
      pub stands : type_meaning schema ty ≡ gives_object object
      pub called : type_name_of object ≡ codes "__Type"
      pub made : MadeAs n object (reference_pairs types n (unplaced ty))

    pub kind-taken : (t : ExtendedType) → is_enum_value known.kinds.enum.values (kind_text (said_type (why schema) t).kind) ≡ true
    kind-taken t = by (said_type (why schema) t).kind
      where
        by : (k : TypeKind) → is_enum_value known.kinds.enum.values (kind_text k) ≡ true
        by shown_kind.Scalar = known.kinds.takes.0
        by shown_kind.Object = known.kinds.takes.1.0
        by shown_kind.Interface = known.kinds.takes.1.1.0
        by shown_kind.Union = known.kinds.takes.1.1.1.0
        by shown_kind.Enum = known.kinds.takes.1.1.1.1.0
        by shown_kind.InputObject = known.kinds.takes.1.1.1.1.1.0

    type-head : (t : ExtendedType) → HasHead (type_def schema t) (kind_text (said_type (why schema) t).kind) (Some (type_name t).text)
    type-head t = record { taken = kind-taken t; kind_given = (type_given schema t).kind; name_given = refl }

    -- a name as it is shown
    pub type-made : (n : ℕ) (name : Named) (t : ExtendedType) → type_called name.text schema.types ≡ Some t
        → MadeAs n (type_def schema t) (reference_pairs types n (ref.Named (from_nowhere name)))
    unfolding reference_pairs
    type-made zero name t is d start ty outer =
        last-level d (type_def schema t) (kind_text (said_type (why schema) t).kind) (Some (type_name t).text) (type-head t) start ty outer
        ∙ ap₂ (λ (k n : List ℕ). all_made ((codes "kind", json.String k) ∷ (codes "name", json.String n) ∷ [])) (ap kind_text (sym (kinds name.text t is))) (names name.text t is)
        ∙ sym (ap (λ level. all_made (head_level types level)) (out-named (from_nowhere name)))
    type-made (suc n) name t is d start ty outer =
        level-end (raised n d) (type_def schema t) (kind_text (said_type (why schema) t).kind) (Some (type_name t).text) (type-head t) refl start n ty outer
        ∙ ap₂ (λ (k n : List ℕ). all_made ((codes "kind", json.String k) ∷ (codes "name", json.String n) ∷ (codes "ofType", json.Null) ∷ []))
        (ap kind_text (sym (kinds name.text t is))) (names name.text t is)
        ∙ sym (ap (λ level. all_made (of_type (both_of (reference_pairs types n) (inside_level level)) (head_level types level))) (out-named (from_nowhere name)))

    pub found : (name : Named) → is_some (type_called name.text schema.types) ≡ true → (t : ExtendedType) × (type_called name.text schema.types ≡ Some t)
    found name is = by (type_called name.text schema.types) refl is
      where
        by : (o : Option ExtendedType) → type_called name.text schema.types ≡ o → is_some o ≡ true → (t : ExtendedType) × (type_called name.text schema.types ≡ Some t)
        by None e some = absurd (let g : false ≡ true = some in cc)
        by (Some t) e some = (t, e)

    named-referred : (n : ℕ) (name : Named) → is_some (type_called name.text schema.types) ≡ true → Referred n (ref.Named name)
    named-referred n name is =
        let there = found name is in record {
          object = type_def schema there.0;
          stands = ap (type_level schema (ref.Named name)) (out-named name) ∙ ap (type_or_null schema) there.1;
          called = refl;
          made = λ d start. subst (Runs (raised n d) (type_def schema there.0) start n) (ap (reference_pairs types n) (sym (unplaced-named name))) (type-made n name there.0 there.1 d start);
        }

    -- ---- wrappers

    wrapped-head : (ty : TypeRef) (stripped : Bool) (kind : List ℕ) → is_enum_value known.kinds.enum.values kind ≡ true → kind_level stripped (out-TypeRef ty) ≡ Some kind
        → HasHead (wrapped schema ty stripped) kind None
    wrapped-head ty stripped kind taken is = record { taken = taken; kind_given = ap (λ o. Some (text_or_null_leaf o)) is; name_given = refl }

    list-taken : is_enum_value known.kinds.enum.values (codes "LIST") ≡ true
    list-taken = known.kinds.takes.1.1.1.1.1.1.0

    strict-taken : is_enum_value known.kinds.enum.values (codes "NON_NULL") ≡ true
    strict-taken = known.kinds.takes.1.1.1.1.1.1.1.0

    -- what is made of a wrapper, by the reference that is shown and what is inside it
    last-made : (ty shown : TypeRef) (stripped : Bool) (kind : List ℕ) → HasHead (wrapped schema ty stripped) kind None
        → head_level types (out-TypeRef shown) ≡ head_pairs kind None → MadeAs zero (wrapped schema ty stripped) (reference_pairs types zero shown)
    unfolding reference_pairs
    last-made ty shown stripped kind head same d start type outer = last-level d (wrapped schema ty stripped) kind None head start type outer ∙ sym (ap all_made same)

    more-made : (n : ℕ) (ty shown inside : TypeRef) (inner : Meta) (stripped : Bool) (kind : List ℕ) → HasHead (wrapped schema ty stripped) kind None
        → head_level types (out-TypeRef shown) ≡ head_pairs kind None → inside_level (out-TypeRef shown) ≡ Some inside
        → inner_level schema ty stripped (out-TypeRef ty) ≡ gives_object inner → type_name_of inner ≡ codes "__Type" → MadeAs n inner (reference_pairs types n inside)
        → MadeAs (suc n) (wrapped schema ty stripped) (reference_pairs types (suc n) shown)
    unfolding reference_pairs
    more-made n ty shown inside inner stripped kind head same within given called made d start type outer =
        level-more (raised n d) (wrapped schema ty stripped) kind None head start n inner (reference_pairs types n inside) (ap Some given) called (made d (start + 19)) type outer
        ∙ sym (ap₂ (λ (o : Option TypeRef) (pairs : Pairs). all_made (of_type (both_of (reference_pairs types n) o) pairs)) within same)

    strict-referred : (n : ℕ) (name : Named) → is_some (type_called name.text schema.types) ≡ true → Referred n (ref.NonNullNamed name)
    strict-referred n name is = record {
      object = wrapped schema (ref.NonNullNamed name) false;
      stands = ap (type_level schema (ref.NonNullNamed name)) (out-strict name);
      called = refl;
      made = λ d start. subst (Runs (raised n d) (wrapped schema (ref.NonNullNamed name) false) start n) (ap (reference_pairs types n) (sym (unplaced-strict name))) (by n d start);
    }
      where
        head : HasHead (wrapped schema (ref.NonNullNamed name) false) (codes "NON_NULL") None
        head = wrapped-head (ref.NonNullNamed name) false (codes "NON_NULL") strict-taken (ap (kind_level false) (out-strict name))

        by : (n : ℕ) → MadeAs n (wrapped schema (ref.NonNullNamed name) false) (reference_pairs types n (ref.NonNullNamed (from_nowhere name)))
        by zero = last-made (ref.NonNullNamed name) (ref.NonNullNamed (from_nowhere name)) false (codes "NON_NULL") head (ap (head_level types) (out-strict (from_nowhere name)))
        by (suc n) =
            let there = named-referred n name is in
            more-made n (ref.NonNullNamed name) (ref.NonNullNamed (from_nowhere name)) (ref.Named (from_nowhere name)) there.object false (codes "NON_NULL") head
            (ap (head_level types) (out-strict (from_nowhere name))) (ap inside_level (out-strict (from_nowhere name)))
            (ap (inner_level schema (ref.NonNullNamed name) false) (out-strict name)
            ∙ sym (ap (type_level schema (ref.Named name)) (out-named name)) ∙ there.stands) there.called
            (λ d start. subst (Runs (raised n d) there.object start n) (ap (reference_pairs types n) (unplaced-named name)) (there.made d start))

    -- a wrapper of which this is inside, as far as there are levels
    abbrev Inside : ℕ → TypeRef → Type 0
    Inside zero item = Unit {0}
    Inside (suc n) item = Referred n item

    stripped-made : (n : ℕ) (item : TypeRef) → Inside n item → MadeAs n (wrapped schema (NonNullList item) true) (reference_pairs types n (ListOf (unplaced item)))
    stripped-made n item inside = by n inside
      where
        head : HasHead (wrapped schema (NonNullList item) true) (codes "LIST") None
        head = wrapped-head (NonNullList item) true (codes "LIST") list-taken (ap (kind_level true) (out-strict_list item))

        by : (n : ℕ) → Inside n item → MadeAs n (wrapped schema (NonNullList item) true) (reference_pairs types n (ListOf (unplaced item)))
        by zero inside = last-made (NonNullList item) (ListOf (unplaced item)) true (codes "LIST") head (ap (head_level types) (out-list (unplaced item)))
        by (suc n) inside =
            more-made n (NonNullList item) (ListOf (unplaced item)) (unplaced item) inside.object true (codes "LIST") head
            (ap (head_level types) (out-list (unplaced item))) (ap inside_level (out-list (unplaced item)))
            (ap (inner_level schema (NonNullList item) true) (out-strict_list item) ∙ inside.stands) inside.called inside.made

    list-referred : (n : ℕ) (item : TypeRef) → Inside n item → Referred n (ListOf item)
    list-referred n item inside = record {
      object = wrapped schema (ListOf item) false;
      stands = ap (type_level schema (ListOf item)) (out-list item);
      called = refl;
      made = λ d start. subst (Runs (raised n d) (wrapped schema (ListOf item) false) start n) (ap (reference_pairs types n) (sym (unplaced-list item))) (by n inside d start);
    }
      where
        head : HasHead (wrapped schema (ListOf item) false) (codes "LIST") None
        head = wrapped-head (ListOf item) false (codes "LIST") list-taken (ap (kind_level false) (out-list item))

        by : (n : ℕ) → Inside n item → MadeAs n (wrapped schema (ListOf item) false) (reference_pairs types n (ListOf (unplaced item)))
        by zero inside = last-made (ListOf item) (ListOf (unplaced item)) false (codes "LIST") head (ap (head_level types) (out-list (unplaced item)))
        by (suc n) inside =
            more-made n (ListOf item) (ListOf (unplaced item)) (unplaced item) inside.object false (codes "LIST") head
            (ap (head_level types) (out-list (unplaced item))) (ap inside_level (out-list (unplaced item)))
            (ap (inner_level schema (ListOf item) false) (out-list item) ∙ inside.stands) inside.called inside.made

    abbrev InsideStrict : ℕ → TypeRef → Type 0
    InsideStrict zero item = Unit {0}
    InsideStrict (suc n) item = MadeAs n (wrapped schema (NonNullList item) true) (reference_pairs types n (ListOf (unplaced item)))

    strict_list-referred : (n : ℕ) (item : TypeRef) → InsideStrict n item → Referred n (NonNullList item)
    strict_list-referred n item inside = record {
      object = wrapped schema (NonNullList item) false;
      stands = ap (type_level schema (NonNullList item)) (out-strict_list item);
      called = refl;
      made = λ d start. subst (Runs (raised n d) (wrapped schema (NonNullList item) false) start n) (ap (reference_pairs types n) (sym (unplaced-strict_list item))) (by n inside d start);
    }
      where
        head : HasHead (wrapped schema (NonNullList item) false) (codes "NON_NULL") None
        head = wrapped-head (NonNullList item) false (codes "NON_NULL") strict-taken (ap (kind_level false) (out-strict_list item))

        by : (n : ℕ) → InsideStrict n item → MadeAs n (wrapped schema (NonNullList item) false) (reference_pairs types n (NonNullList (unplaced item)))
        by zero inside = last-made (NonNullList item) (NonNullList (unplaced item)) false (codes "NON_NULL") head (ap (head_level types) (out-strict_list (unplaced item)))
        by (suc n) inside =
            more-made n (NonNullList item) (NonNullList (unplaced item)) (ListOf (unplaced item)) (wrapped schema (NonNullList item) true) false (codes "NON_NULL") head
            (ap (head_level types) (out-strict_list (unplaced item))) (ap inside_level (out-strict_list (unplaced item)))
            (ap (inner_level schema (NonNullList item) false) (out-strict_list item)) refl inside

    -- ---- all of them, level by level

    abbrev AllReferred : ℕ → Type 0
    AllReferred n = (ty : TypeRef) → IsKnown ty → Referred n ty

    abbrev AllStripped : ℕ → Type 0
    AllStripped n = (item : TypeRef) → IsKnown item → MadeAs n (wrapped schema (NonNullList item) true) (reference_pairs types n (ListOf (unplaced item)))

    of-known : (ty : TypeRef) (name : Named) → named_type ty ≡ name → IsKnown ty → is_some (type_called name.text schema.types) ≡ true
    of-known ty name is there = sym (ap (λ (n : Named). is_some (type_called n.text schema.types)) is) ∙ there

    referred-by : (n : ℕ) → ((item : TypeRef) → IsKnown item → Inside n item) → ((item : TypeRef) → IsKnown item → InsideStrict n item) → AllReferred n
    referred-by n inside strict =
        each (λ ty. IsKnown ty → Referred n ty)
        (λ name there. named-referred n name (of-known (ref.Named name) name (named-named name) there))
        (λ name there. strict-referred n name (of-known (ref.NonNullNamed name) name (named-strict name) there))
        (λ item there. list-referred n item (inside item (of-known (ListOf item) (named_type item) (named-list item) there)))
        (λ item there. strict_list-referred n item (strict item (of-known (NonNullList item) (named_type item) (named-strict_list item) there)))

    all-levels : (n : ℕ) → AllReferred n × AllStripped n
    all-levels zero = (referred-by zero (λ item there. tt) (λ item there. tt), λ item there. stripped-made zero item tt)
    all-levels (suc n) =
        let below = all-levels n in
        (referred-by (suc n) (λ item there. below.0 item there) (λ item there. below.1 item there), λ item there. stripped-made (suc n) item (below.0 item there))

    -- a reference to a type that is defined
    pub referred : (n : ℕ) (ty : TypeRef) → IsKnown ty → Referred n ty
    referred n = (all-levels n).0
