-- What is wrong with a value by itself, in a schema and in one that tells it again.
use Rattle.std.proofs.Common.{◌≡◌, ℕ, ◌-◌, Bool, true, false, not, ◌&&◌, ◌||◌, Option, Some, None, is_some, List, [], ◌∷◌, ◌++◌, length, codes, refl, sym, ap, ◌∙◌}
use Rattle.std.specs.Prelude.{is_none}
use Rattle.std.specs.List.{slice_get, list_any, list_all}
use Rattle.std.specs.Option.{option_map, option_map_or}
use Rattle.std.specs.Str.{bytes_eq}
use Rattle.gql_ast_base.specs.Names.{Named}
use Rattle.gql_ast_base.specs.TypeParts.{named_type, item_type}
use Rattle.gql_ast_base.specs.declared.type_ref.TypeRef.{TypeRef}
use Rattle.gql_ast_base.specs.declared.value.Value.{Value}
use Rattle.gql_ast_base.specs.declared.value.ValueKind.{out-ValueKind}
use Rattle.gql_ast_base.specs.declared.value.ValueKind.TheOpen.{ValueKind-F}
use Rattle.gql_ast.specs.declared.field_definition.InputValueDefinition.{InputValueDefinition}
use Rattle.gql_ast_laws.specs.Printed.{unplaced}
use Rattle.gql_diag_messages.specs.declared.rule.Rule.TheVariants as rule
use Rattle.gql_print_laws.specs.Literal as lit
use Rattle.gql_print_laws.specs.Literal.{Literal, literal_in}
use Rattle.gql_rules_values.specs.Faults.{fault}
use Rattle.gql_rules_values.specs.IntCoercionError.{is_scalar, is_int_type, is_32_bits, int_level, int_coercion_error}
use Rattle.gql_rules_values.specs.Literals.{keys_at, keys_level, keys, at_type}
use Rattle.gql_rules_values.specs.OneOfValue.{has_one_key, null_level, is_null, ends_in_null, has_one_member, one_of_fault, one_of_value}
use Rattle.gql_rules_values.specs.RequiredField.{required_field, required_fields}
use Rattle.gql_rules_values.specs.TypeShape.{is_required}
use Rattle.gql_rules_values.specs.UndefinedEnumValue.{value_name, not_among, enum_level, undefined_enum_value}
use Rattle.gql_rules_values.specs.UndefinedInputValue.{input_name, undefined_key, undefined_input_values}
use Rattle.gql_rules_values.specs.UniqueInputValue.{key, key_place, unique_level, unique_keys}
use Rattle.gql_rules_values.specs.UnsupportedValueType.{unsupported_value_type}
use Rattle.gql_rules_values.specs.ValueTypes.{form_level, form_of, scalar_accepts, type_accepts, accepts, fits}
use Rattle.gql_client_schema_laws.specs.Pairs.{Paired}
use Rattle.gql_client_schema_laws.specs.bridge.Pairs.{Both}
use Rattle.gql_client_schema_laws.specs.Retold.{IsRetoldInput, IsRetoldInputField, IsRetoldValue, IsRetoldType, IsRetoldInputObject}
use Rattle.gql_client_schema_laws.proofs.Found.{by_kind, kind_alike, found_as}
use Rattle.gql_client_schema_laws.proofs.Tops.{Level, HasTop, top_of, SameMember, same_members}
use Rattle.gql_client_schema_laws.proofs.Pairs.{joined_alike, only_alike, told_alike, value_alike, some_alike, flat_alike, any_alike, find_alike, length_alike, get_alike, pairs_weaker}
use Rattle.gql_client_schema_laws.proofs.References.{non_null_alike, item_alike, name_alike}
use Rattle.gql_client_schema_laws.proofs.Seconds.{seconds_alike}
use Rattle.gql_schema_types.specs.Entries.{entry, is_called}
use Rattle.gql_schema_types.specs.Types.{type_called, is_one_of}
use Rattle.gql_schema_types.specs.declared.types.ExtendedType.{ExtendedType}
use Rattle.gql_schema_types.specs.declared.types.InputObjectType.{InputObjectType}

-- ---- parts

some_mapped : {X Y : Type 0} (f : X → Y) (o p : Option X) → option_map f o ≡ option_map f p → is_some o ≡ is_some p
some_mapped f None None same = refl
some_mapped f (Some x) (Some y) same = refl
some_mapped f None (Some y) same = absurd cc
some_mapped f (Some x) None same = absurd cc

pub lack_alike : {X Y : Type 0} (f : X → Y) (o p : Option X) → option_map f o ≡ option_map f p → is_none o ≡ is_none p
lack_alike f None None same = refl
lack_alike f (Some x) (Some y) same = refl
lack_alike f None (Some y) same = absurd cc
lack_alike f (Some x) None same = absurd cc

pub required_alike : (input again : InputValueDefinition) → IsRetoldInput input again → is_required input ≡ is_required again
required_alike input again same =
    λ i. non_null_alike input.ty again.ty same.ty i && lack_alike literal_in input.default_value again.default_value same.default_value i

all_alike : {X Y : Type 0} (R : X → Y → Type 0) (p : X → Bool) (q : Y → Bool) → ((x : X) (y : Y) → R x y → p x ≡ q y)
    → (xs : List X) (ys : List Y) → Paired R xs ys → list_all p xs ≡ list_all q ys
all_alike R p q h [] [] pairs = refl
all_alike R p q h (x ∷ xs) (y ∷ ys) pairs = λ i. h x y pairs.0 i && all_alike R p q h xs ys pairs.1 i
all_alike R p q h [] (y ∷ ys) pairs = absurd pairs
all_alike R p q h (x ∷ xs) [] pairs = absurd pairs

pub input_found : (one other : List ℕ) (fields again : List InputValueDefinition) → one ≡ other → Paired IsRetoldInputField fields again
    → Both IsRetoldInputField (entry input_name one fields) (entry input_name other again)
input_found one other fields again same pairs =
    find_alike IsRetoldInputField (is_called input_name one) (is_called input_name other) (λ x y is. λ i. bytes_eq (same i) (is.input.name i)) fields again pairs

-- ---- null

null_top : (l : Literal) (x y : Level) → HasTop l x → HasTop l y → null_level x ≡ null_level y
null_top lit.null x y one two = ap null_level one ∙ sym (ap null_level two)
null_top (lit.variable t) x y one two = ap null_level one.1 ∙ sym (ap null_level two.1)
null_top (lit.int t) x y one two = ap null_level one ∙ sym (ap null_level two)
null_top (lit.float t) x y one two = ap null_level one ∙ sym (ap null_level two)
null_top (lit.string t) x y one two = ap null_level one ∙ sym (ap null_level two)
null_top (lit.truth b) x y one two = ap null_level one ∙ sym (ap null_level two)
null_top (lit.name t) x y one two = ap null_level one.1 ∙ sym (ap null_level two.1)
null_top (lit.list ls) x y one two = ap null_level one.1 ∙ sym (ap null_level two.1)
null_top (lit.object ps) x y one two = ap null_level one.1 ∙ sym (ap null_level two.1)

null_alike : (v w : Value) → literal_in v ≡ literal_in w → is_null v ≡ is_null w
null_alike v w same = null_top (literal_in w) (out-ValueKind v.kind) (out-ValueKind w.kind) (top_of v (literal_in w) same) (top_of w (literal_in w) refl)

-- ---- members of an object

one_key_alike : (xs ys : List (Named × Value)) → Paired SameMember xs ys → has_one_key xs ≡ has_one_key ys
one_key_alike [] [] pairs = refl
one_key_alike (x ∷ xs) (y ∷ ys) pairs =
    all_alike SameMember (λ (member : Named × Value). bytes_eq x.0.text member.0.text) (λ (member : Named × Value). bytes_eq y.0.text member.0.text)
    (λ m n same. λ i. bytes_eq (pairs.0.0 i) (same.0 i)) xs ys pairs.1
one_key_alike [] (y ∷ ys) pairs = absurd pairs
one_key_alike (x ∷ xs) [] pairs = absurd pairs

ends_alike : (xs ys : List (Named × Value)) → Paired SameMember xs ys → ends_in_null xs ≡ ends_in_null ys
ends_alike xs ys pairs =
    value_alike SameMember (λ (member : Named × Value). is_null member.1) (λ (member : Named × Value). is_null member.1) false
    (λ m n same. null_alike m.1 n.1 same.1) (slice_get xs (length xs - 1)) (slice_get ys (length xs - 1)) (get_alike SameMember xs ys pairs (length xs - 1))
    ∙ ap (λ n. option_map_or (λ (member : Named × Value). is_null member.1) (slice_get ys (n - 1)) false) (length_alike SameMember xs ys pairs)

one_member_alike : (xs ys : List (Named × Value)) → Paired SameMember xs ys → has_one_member xs ≡ has_one_member ys
one_member_alike xs ys pairs = λ i. one_key_alike xs ys pairs i && not (ends_alike xs ys pairs i)

unique_top : (l : Literal) (x y : Level) → HasTop l x → HasTop l y → unique_level x ≡ [] → unique_level y ≡ []
unique_top lit.null x y one two none = ap unique_level two
unique_top (lit.variable t) x y one two none = ap unique_level two.1
unique_top (lit.int t) x y one two none = ap unique_level two
unique_top (lit.float t) x y one two none = ap unique_level two
unique_top (lit.string t) x y one two none = ap unique_level two
unique_top (lit.truth b) x y one two none = ap unique_level two
unique_top (lit.name t) x y one two none = ap unique_level two.1
unique_top (lit.list ls) x y one two none = ap unique_level two.1
unique_top (lit.object ps) x y one two none =
    ap unique_level two.1
    ∙ seconds_alike key key key_place key_place rule.UniqueInputValue rule.UniqueInputValue one.0 two.0
    (pairs_weaker SameMember (λ m n. m.0.text ≡ n.0.text) (λ m n same. same.0) one.0 two.0 (same_members one.0 two.0 (one.2 ∙ sym two.2)))
    (sym (ap unique_level one.1) ∙ none)

-- ---- a value at a type

module _ (types others : List ExtendedType) (pairs : Paired IsRetoldType types others) where
  accepted : (name : List ℕ) (x : Level) → (t u : ExtendedType) → IsRetoldType t u → type_accepts t name (form_level x) ≡ type_accepts u name (form_level x)
  accepted name x =
      kind_alike (λ t. type_accepts t name (form_level x)) (λ t u. refl) (λ t u. refl) (λ t u. refl) (λ t u. refl) (λ t u. refl) (λ t u. refl)

  accepts_alike : (one other : List ℕ) → one ≡ other → (x : Level) → accepts types one (form_level x) ≡ accepts others other (form_level x)
  accepts_alike one other same x =
      value_alike IsRetoldType (λ t. type_accepts t one (form_level x)) (λ u. type_accepts u one (form_level x)) (scalar_accepts one (form_level x)) (accepted one x)
      (type_called one types) (type_called one others) (found_as types others pairs one one refl)
      ∙ ap (λ n. accepts others n (form_level x)) same

  module _ (ty again : TypeRef) (same : unplaced ty ≡ unplaced again) where
    accepts_here : (x : Level) → accepts types (named_type ty).text (form_level x) ≡ accepts others (named_type again).text (form_level x)
    accepts_here = accepts_alike (named_type ty).text (named_type again).text (name_alike ty again same)

    abbrev fits_here : Level → Bool
    fits_here x = fits types ty (form_level x)

    abbrev fits_again : Level → Bool
    fits_again x = fits others again (form_level x)

    fits_top : (l : Literal) (x y : Level) → HasTop l x → HasTop l y → fits_here x ≡ fits_again y
    fits_top lit.null x y one two = ap fits_here one ∙ ap not (non_null_alike ty again same) ∙ sym (ap fits_again two)
    fits_top (lit.variable t) x y one two = ap fits_here one.1 ∙ sym (ap fits_again two.1)
    fits_top (lit.int t) x y one two = ap fits_here one ∙ accepts_here (ValueKind-F.Int t) ∙ sym (ap fits_again two)
    fits_top (lit.float t) x y one two = ap fits_here one ∙ accepts_here (ValueKind-F.Float t) ∙ sym (ap fits_again two)
    fits_top (lit.string t) x y one two = ap fits_here one ∙ accepts_here (ValueKind-F.String t) ∙ sym (ap fits_again two)
    fits_top (lit.truth b) x y one two = ap fits_here one ∙ accepts_here (ValueKind-F.Boolean b) ∙ sym (ap fits_again two)
    fits_top (lit.name t) x y one two = ap fits_here one.1 ∙ accepts_here (ValueKind-F.Enum one.0) ∙ sym (ap fits_again two.1)
    fits_top (lit.list ls) x y one two =
        ap fits_here one.1
        ∙ (λ i. some_mapped unplaced (item_type ty) (item_type again) (item_alike ty again same) i || accepts_here (ValueKind-F.List one.0) i)
        ∙ sym (ap fits_again two.1)
    fits_top (lit.object ps) x y one two = ap fits_here one.1 ∙ accepts_here (ValueKind-F.Object one.0) ∙ sym (ap fits_again two.1)

    found_here : Both IsRetoldType (type_called (named_type ty).text types) (type_called (named_type again).text others)
    found_here = found_as types others pairs (named_type ty).text (named_type again).text (name_alike ty again same)

    scalar_alike : (o p : Option ExtendedType) → Both IsRetoldType o p → option_map_or is_scalar o true ≡ option_map_or is_scalar p true
    scalar_alike =
        value_alike IsRetoldType is_scalar is_scalar true
        (kind_alike is_scalar (λ t u. refl) (λ t u. refl) (λ t u. refl) (λ t u. refl) (λ t u. refl) (λ t u. refl))

    int_alike : is_int_type types (named_type ty).text ≡ is_int_type others (named_type again).text
    int_alike =
        λ i. bytes_eq (name_alike ty again same i) (codes "Int")
        && scalar_alike (type_called (named_type ty).text types) (type_called (named_type again).text others) found_here i

    module _ (v w : Value) where
      int_top : (l : Literal) (x y : Level) → HasTop l x → HasTop l y → int_level types ty v x ≡ [] → int_level others again w y ≡ []
      int_top lit.null x y one two none = ap (int_level others again w) two
      int_top (lit.variable t) x y one two none = ap (int_level others again w) two.1
      int_top (lit.int t) x y one two none =
          ap (int_level others again w) two
          ∙ only_alike (is_int_type types (named_type ty).text && not (is_32_bits t)) (is_int_type others (named_type again).text && not (is_32_bits t))
          (fault rule.IntCoercionError (t ∷ []) v.location None) (fault rule.IntCoercionError (t ∷ []) w.location None)
          (ap (λ b. b && not (is_32_bits t)) int_alike) (sym (ap (int_level types ty v) one) ∙ none)
      int_top (lit.float t) x y one two none = ap (int_level others again w) two
      int_top (lit.string t) x y one two none = ap (int_level others again w) two
      int_top (lit.truth b) x y one two none = ap (int_level others again w) two
      int_top (lit.name t) x y one two none = ap (int_level others again w) two.1
      int_top (lit.list ls) x y one two none = ap (int_level others again w) two.1
      int_top (lit.object ps) x y one two none = ap (int_level others again w) two.1

      among_alike : (name fresh : Named) → name.text ≡ fresh.text → (t u : ExtendedType) → IsRetoldType t u → not_among v name t ≡ [] → not_among w fresh u ≡ []
      among_alike name fresh is =
          by_kind (λ t u. not_among v name t ≡ [] → not_among w fresh u ≡ []) (λ t u same none. refl) (λ t u same none. refl) (λ t u same none. refl) (λ t u same none. refl)
          (λ t u same none. only_alike (not (is_some (entry value_name name.text t.values))) (not (is_some (entry value_name fresh.text u.values)))
          (fault rule.UndefinedEnumValue (name.text ∷ t.name.text ∷ []) v.location None) (fault rule.UndefinedEnumValue (fresh.text ∷ u.name.text ∷ []) w.location None)
          (ap not (some_alike IsRetoldValue (entry value_name name.text t.values) (entry value_name fresh.text u.values)
          (find_alike IsRetoldValue (is_called value_name name.text) (is_called value_name fresh.text) (λ x y e. λ i. bytes_eq (is i) (e.name i)) t.values u.values same.values))) none)
          (λ t u same none. refl)

      enum_top : (l : Literal) (x y : Level) → HasTop l x → HasTop l y → enum_level v types ty x ≡ [] → enum_level w others again y ≡ []
      enum_top lit.null x y one two none = ap (enum_level w others again) two
      enum_top (lit.variable t) x y one two none = ap (enum_level w others again) two.1
      enum_top (lit.int t) x y one two none = ap (enum_level w others again) two
      enum_top (lit.float t) x y one two none = ap (enum_level w others again) two
      enum_top (lit.string t) x y one two none = ap (enum_level w others again) two
      enum_top (lit.truth b) x y one two none = ap (enum_level w others again) two
      enum_top (lit.name t) x y one two none =
          ap (enum_level w others again) two.1
          ∙ told_alike IsRetoldType (not_among v one.0) (not_among w two.0) [] [] (among_alike one.0 two.0 (one.2 ∙ sym two.2)) (λ e. e)
          (type_called (named_type ty).text types) (type_called (named_type again).text others) found_here (sym (ap (enum_level v types ty) one.1) ∙ none)
      enum_top (lit.list ls) x y one two none = ap (enum_level w others again) two.1
      enum_top (lit.object ps) x y one two none = ap (enum_level w others again) two.1

      -- ---- the keys of an object

      module _ (xs ys : List (Named × Value)) (members : Paired SameMember xs ys) (t u : InputObjectType) (it : IsRetoldInputObject t u) where
        undefined_alike : undefined_input_values t v xs ≡ [] → undefined_input_values u w ys ≡ []
        undefined_alike =
            flat_alike SameMember (undefined_key t v) (undefined_key u w)
            (λ m n is none. only_alike (not (is_some (entry input_name m.0.text t.fields))) (not (is_some (entry input_name n.0.text u.fields)))
            (fault rule.UndefinedInputValue (m.0.text ∷ t.name.text ∷ []) v.location None) (fault rule.UndefinedInputValue (n.0.text ∷ u.name.text ∷ []) w.location None)
            (ap not (some_alike IsRetoldInputField (entry input_name m.0.text t.fields) (entry input_name n.0.text u.fields)
            (input_found m.0.text n.0.text t.fields u.fields is.0 it.fields))) none)
            xs ys members

        given_alike : (field fresh : InputValueDefinition) → IsRetoldInput field fresh
            → list_any (λ (member : Named × Value). bytes_eq field.name.text member.0.text) xs ≡ list_any (λ (member : Named × Value). bytes_eq fresh.name.text member.0.text) ys
        given_alike field fresh is =
            any_alike SameMember (λ (member : Named × Value). bytes_eq field.name.text member.0.text) (λ (member : Named × Value). bytes_eq fresh.name.text member.0.text)
            (λ m n e. λ i. bytes_eq (is.name i) (e.0 i)) xs ys members

        field_alike : (field fresh : InputValueDefinition) → IsRetoldInputField field fresh → required_field v xs field ≡ [] → required_field w ys fresh ≡ []
        field_alike field fresh is none =
            only_alike (is_required field && not (list_any (λ (member : Named × Value). bytes_eq field.name.text member.0.text) xs))
            (is_required fresh && not (list_any (λ (member : Named × Value). bytes_eq fresh.name.text member.0.text) ys)) _ _
            (λ i. required_alike field fresh is.input i && not (given_alike field fresh is.input i)) none

        one_of_alike : one_of_value t v xs ≡ [] → one_of_value u w ys ≡ []
        one_of_alike none =
            only_alike (is_one_of t && not (has_one_member xs)) (is_one_of u && not (has_one_member ys)) (one_of_fault t.name v.location) (one_of_fault u.name w.location)
            (λ i. it.one_of i && not (one_member_alike xs ys members i)) none

        keys_alike : undefined_input_values t v xs ++ (required_fields v xs t.fields ++ one_of_value t v xs) ≡ []
            → undefined_input_values u w ys ++ (required_fields w ys u.fields ++ one_of_value u w ys) ≡ []
        keys_alike =
            joined_alike (undefined_input_values t v xs) (required_fields v xs t.fields ++ one_of_value t v xs)
            (undefined_input_values u w ys) (required_fields w ys u.fields ++ one_of_value u w ys) undefined_alike
            (joined_alike (required_fields v xs t.fields) (one_of_value t v xs) (required_fields w ys u.fields) (one_of_value u w ys)
            (flat_alike IsRetoldInputField (required_field v xs) (required_field w ys) field_alike t.fields u.fields it.fields) one_of_alike)

      keys_of_kind : (xs ys : List (Named × Value)) → Paired SameMember xs ys → (t u : ExtendedType) → IsRetoldType t u → keys_at v xs t ≡ [] → keys_at w ys u ≡ []
      keys_of_kind xs ys members =
          by_kind (λ t u. keys_at v xs t ≡ [] → keys_at w ys u ≡ []) (λ t u is none. refl) (λ t u is none. refl) (λ t u is none. refl) (λ t u is none. refl) (λ t u is none. refl)
          (λ t u is none. keys_alike xs ys members t u is none)

      keys_top : (l : Literal) (x y : Level) → HasTop l x → HasTop l y → keys_level types ty v x ≡ [] → keys_level others again w y ≡ []
      keys_top lit.null x y one two none = ap (keys_level others again w) two
      keys_top (lit.variable t) x y one two none = ap (keys_level others again w) two.1
      keys_top (lit.int t) x y one two none = ap (keys_level others again w) two
      keys_top (lit.float t) x y one two none = ap (keys_level others again w) two
      keys_top (lit.string t) x y one two none = ap (keys_level others again w) two
      keys_top (lit.truth b) x y one two none = ap (keys_level others again w) two
      keys_top (lit.name t) x y one two none = ap (keys_level others again w) two.1
      keys_top (lit.list ls) x y one two none = ap (keys_level others again w) two.1
      keys_top (lit.object ps) x y one two none =
          ap (keys_level others again w) two.1
          ∙ told_alike IsRetoldType (keys_at v one.0) (keys_at w two.0) [] [] (keys_of_kind one.0 two.0 (same_members one.0 two.0 (one.2 ∙ sym two.2))) (λ e. e)
          (type_called (named_type ty).text types) (type_called (named_type again).text others) found_here (sym (ap (keys_level types ty v) one.1) ∙ none)

      module _ (l : Literal) (one : HasTop l (out-ValueKind v.kind)) (two : HasTop l (out-ValueKind w.kind)) where
        unsupported_alike : unsupported_value_type types ty v ≡ [] → unsupported_value_type others again w ≡ []
        unsupported_alike none =
            only_alike (not (fits types ty (form_of v))) (not (fits others again (form_of w))) _ _
            (ap not (fits_top l (out-ValueKind v.kind) (out-ValueKind w.kind) one two)) none

        pub at_type_alike : at_type types v ty ≡ [] → at_type others w again ≡ []
        at_type_alike =
            joined_alike (unsupported_value_type types ty v) _ (unsupported_value_type others again w) _ unsupported_alike
            (joined_alike (int_coercion_error types ty v) _ (int_coercion_error others again w) _ (int_top l (out-ValueKind v.kind) (out-ValueKind w.kind) one two)
            (joined_alike (undefined_enum_value types ty v) (keys types ty v) (undefined_enum_value others again w) (keys others again w)
            (enum_top l (out-ValueKind v.kind) (out-ValueKind w.kind) one two) (keys_top l (out-ValueKind v.kind) (out-ValueKind w.kind) one two)))

pub unique_alike : (v w : Value) (l : Literal) → HasTop l (out-ValueKind v.kind) → HasTop l (out-ValueKind w.kind) → unique_keys v ≡ [] → unique_keys w ≡ []
unique_alike v w l one two none = unique_top l (out-ValueKind v.kind) (out-ValueKind w.kind) one two none
