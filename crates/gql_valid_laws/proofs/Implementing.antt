-- What the rules on interfaces and unions give of each type where they find nothing.
use Rattle.std.proofs.Common.{◌≡◌, ℕ, Bool, true, false, not, ◌&&◌, ◌||◌, cond, if◌then◌else◌, Option, Some, None, List, [], ◌∷◌, ◌++◌, refl, sym, ap, ◌∙◌, subst}
use Rattle.std.specs.List.{flat_map}
use Rattle.std.specs.Option.{option_map_or}
use Rattle.std.specs.Str.{bytes_eq}
use Rattle.gql_ast_base.specs.Names.{Named}
use Rattle.gql_ast.specs.declared.field_definition.FieldDefinition.{FieldDefinition}
use Rattle.gql_ast.specs.declared.schema_definition.DirectiveLocation.TheVariants as at
use Rattle.gql_ast_laws.proofs.Kept.{Each}
use Rattle.gql_collect.proofs.Keys.{text-same}
use Rattle.gql_diag_messages.specs.declared.diagnostic_data.DiagnosticData.{DiagnosticData}
use Rattle.gql_diag_messages.specs.declared.rule.Rule.TheVariants.{UnionMemberObjectType}
use Rattle.gql_schema_rules_parts.specs.EmptyMemberSet.{empty_member_set}
use Rattle.gql_schema_rules_parts.specs.InterfaceRules.{both_faults, field_faults, implementation_faults, listed_faults, arguments_faults, type_faults as implementing_faults, interfaces_faults}
use Rattle.gql_schema_rules_parts.specs.InvalidImplementationFieldType.{invalid_implementation_field_type, misfit}
use Rattle.gql_schema_rules_parts.specs.MissingInterfaceField.{missing_interface_field}
use Rattle.gql_schema_rules_parts.specs.ObjectTypes.{is_another_kind}
use Rattle.gql_schema_rules_parts.specs.SchemaRules.{schema_definition_faults, directive_definitions_faults}
use Rattle.gql_schema_rules_parts.specs.Subtypes.{are_known, is_subtype}
use Rattle.gql_schema_rules_parts.specs.TransitiveImplementedInterfaces.{is_listed, interfaces_by, interfaces_of, is_new, told_with, told_after, must_implement, missing, missing_by, transitive_implemented_interfaces}
use Rattle.gql_schema_rules_parts.specs.TypeRules.{name_faults, if_written, member_faults, members_faults, type_faults, types_faults}
use Rattle.gql_schema_rules_parts.specs.UndefinedDefinition.{undefined_definition}
use Rattle.gql_schema_rules_parts.specs.UnionMemberObjectType.{union_member_object_type}
use Rattle.gql_rules_values.specs.Directives.{directive_faults}
use Rattle.gql_rules_values.specs.Faults.{name_fault, only_if}
use Rattle.gql_rules_values.specs.Known.{is_known}
use Rattle.gql_rules_values.specs.declared.known.Defined.TheVariants.{TypesAndScalars}
use Rattle.gql_schema_rules.specs.SchemaFaults.{AreSchemaFaults, parts_faults}
use Rattle.gql_schema_types.specs.Called.{is_among}
use Rattle.gql_schema_types.specs.Entries.{entry, is_called}
use Rattle.gql_schema_types.specs.Types.{type_called, field_name}
use Rattle.gql_schema_types.specs.declared.schema.Schema.{Schema}
use Rattle.gql_schema_types.specs.declared.types.ExtendedType.{ExtendedType}
use Rattle.gql_schema_types.specs.declared.types.ExtendedType.TheVariants as type
use Rattle.gql_schema_types.specs.declared.types.InterfaceType.{InterfaceType}
use Rattle.gql_schema_types.specs.declared.types.UnionType.{UnionType}
use Rattle.gql_valid_laws.proofs.WrittenNames.{IsWritten, NamesWritten}

-- ---- lists of faults that are empty

front_empty : {X : Type 0} (xs ys : List X) → xs ++ ys ≡ [] → xs ≡ []
front_empty [] ys none = refl
front_empty (x ∷ xs) ys none = absurd (let e : x ∷ (xs ++ ys) ≡ [] = none in cc)

back_empty : {X : Type 0} (xs ys : List X) → xs ++ ys ≡ [] → ys ≡ []
back_empty [] ys none = none
back_empty (x ∷ xs) ys none = absurd (let e : x ∷ (xs ++ ys) ≡ [] = none in cc)

not_told : (b : Bool) (told : DiagnosticData) → only_if b told ≡ [] → b ≡ false
not_told true told none = absurd (let e : told ∷ [] ≡ [] = none in cc)
not_told false told none = refl

and-true : (a b : Bool) → (a && b) ≡ false → a ≡ true → b ≡ false
and-true true b is holds = is
and-true false b is holds = absurd (let e : false ≡ true = holds in cc)

not_false : (b : Bool) → not b ≡ false → b ≡ true
not_false true is = refl
not_false false is = absurd (let e : true ≡ false = is in cc)

-- what is said of the one of a name
pub entry-quiet : {X Y : Type 0} (own : X → Named) (name : List ℕ) (f : X → List Y) (xs : List X) (x : X) → flat_map f xs ≡ [] → entry own name xs ≡ Some x → f x ≡ []
entry-quiet own name f [] x none found = absurd (let e : None ≡ Some x = found in cc)
entry-quiet own name f (y ∷ ys) x none found = by_test (is_called own name y) found (entry-quiet own name f ys x (back_empty (f y) (flat_map f ys) none))
  where
    by_test : (b : Bool) → cond b (Some y) (entry own name ys) ≡ Some x → (entry own name ys ≡ Some x → f x ≡ []) → f x ≡ []
    by_test true is later = let same : y ≡ x = (let e : Some y ≡ Some x = is in cc) in ap f (sym same) ∙ front_empty (f y) (flat_map f ys) none
    by_test false is later = later is

-- what holds of each holds of the one of a name
pub of-entry : {X : Type 0} (own : X → Named) (name : List ℕ) (P : X → Type 0) (xs : List X) (x : X) → Each P xs → entry own name xs ≡ Some x → P x
of-entry own name P [] x each found = absurd (let e : None ≡ Some x = found in cc)
of-entry own name P (y ∷ ys) x each found = by_test (is_called own name y) found (of-entry own name P ys x each.1)
  where
    by_test : (b : Bool) → cond b (Some y) (entry own name ys) ≡ Some x → (entry own name ys ≡ Some x → P x) → P x
    by_test true is later = subst P (let e : Some y ≡ Some x = is in let same : y ≡ x = cc in same) each.0
    by_test false is later = later is

-- and it has the name
pub entry-named : {X : Type 0} (own : X → Named) (name : List ℕ) (xs : List X) (x : X) → entry own name xs ≡ Some x → name ≡ (own x).text
entry-named own name [] x found = absurd (let e : None ≡ Some x = found in cc)
entry-named own name (y ∷ ys) x found = by_test (is_called own name y) refl found (entry-named own name ys x)
  where
    by_test : (b : Bool) → is_called own name y ≡ b → cond b (Some y) (entry own name ys) ≡ Some x → (entry own name ys ≡ Some x → name ≡ (own x).text) → name ≡ (own x).text
    by_test true called is later =
        let same : y ≡ x = (let e : Some y ≡ Some x = is in cc) in
        text-same name (own y).text called ∙ ap (λ z. (own z).text) same
    by_test false called is later = later is

module _ (types : List ExtendedType) where
  -- ---- what a type lists

  module _ (ty : Named) (fields : List FieldDefinition) (listed : List Named) where
    -- nothing is told of fields, and what a listed interface lists is listed too
    pub record ListsWell : Type 0 where
      pub fields_fit : (name : List ℕ) → is_among name listed ≡ true → (it : InterfaceType) → type_called name types ≡ Some (type.Interface it)
          → flat_map (field_faults types ty it.name fields) it.fields ≡ []
      pub whole : (name : List ℕ) → is_among name listed ≡ true → (it : InterfaceType) → type_called name types ≡ Some (type.Interface it)
          → (further : List ℕ) → is_among further it.implements_interfaces ≡ true → is_known types further ≡ true → is_among further listed ≡ true

    fields-quiet : (names : List Named) → Each IsWritten names → flat_map (listed_faults types ty fields) names ≡ []
        → (name : List ℕ) → is_among name names ≡ true → (it : InterfaceType) → type_called name types ≡ Some (type.Interface it)
        → flat_map (field_faults types ty it.name fields) it.fields ≡ []
    fields-quiet [] written none name among it found = absurd (let e : false ≡ true = among in cc)
    fields-quiet (x ∷ names) written none name among it found =
        by_test (bytes_eq name x.text) refl among
        (λ later. fields-quiet names written.1 (back_empty (listed_faults types ty fields x) (flat_map (listed_faults types ty fields) names) none) name later it found)
      where
        here : name ≡ x.text → flat_map (field_faults types ty it.name fields) it.fields ≡ []
        here same =
            let quiet : listed_faults types ty fields x ≡ [] = front_empty (listed_faults types ty fields x) (flat_map (listed_faults types ty fields) names) none in
            sym (ap (λ o. option_map_or (implementation_faults types ty fields) o []) (ap (λ n. type_called n types) (sym same) ∙ found))
            ∙ sym (ap (λ (b : Bool). if b then option_map_or (implementation_faults types ty fields) (type_called x.text types) [] else []) written.0)
            ∙ quiet

        by_test : (b : Bool) → bytes_eq name x.text ≡ b → (b || is_among name names) ≡ true → (is_among name names ≡ true → flat_map (field_faults types ty it.name fields) it.fields ≡ [])
            → flat_map (field_faults types ty it.name fields) it.fields ≡ []
        by_test true is among later = here (text-same name x.text is)
        by_test false is among later = later among

    -- where nothing is told, each that a listed interface lists is listed, or is not defined
    record NoneNew (names : List Named) : Type 0 where
      told : told_after types listed [] names ≡ []
      none : Each (λ (name : Named). is_new types listed [] name ≡ false) names

    none-new : (names : List Named) → missing types ty listed [] names ≡ [] → NoneNew names
    none-new [] quiet = record { told = refl; none = tt }
    none-new (x ∷ names) quiet =
        let first = only_if (is_new types listed [] x) (must_implement ty x) in
        let others = missing types ty listed (told_with types listed [] x) names in
        let old = not_told (is_new types listed [] x) (must_implement ty x) (front_empty first others quiet) in
        let same : told_with types listed [] x ≡ [] = ap (λ (b : Bool). if b then [] ++ x.text ∷ [] else []) old in
        let rest = none-new names (sym (ap (λ told. missing types ty listed told names) same) ∙ back_empty first others quiet) in
        record { told = ap (λ told. told_after types listed told names) same ∙ rest.told; none = (old, rest.none) }

    listed-too : (names : List Named) → Each (λ (name : Named). is_new types listed [] name ≡ false) names
        → (further : List ℕ) → is_among further names ≡ true → is_known types further ≡ true → is_among further listed ≡ true
    listed-too [] none further among known = absurd (let e : false ≡ true = among in cc)
    listed-too (x ∷ names) none further among known = by_test (bytes_eq further x.text) refl among (λ later. listed-too names none.1 further later known)
      where
        middle : (a b : Bool) → ((a && b) && true) ≡ false → a ≡ true → b ≡ false
        middle true true is holds = absurd (let e : true ≡ false = is in cc)
        middle true false is holds = refl
        middle false b is holds = absurd (let e : false ≡ true = holds in cc)

        here : further ≡ x.text → is_among further listed ≡ true
        here same =
            let there = not_false (is_listed listed x.text) (middle (is_known types x.text) (not (is_listed listed x.text)) none.0 (ap (is_known types) (sym same) ∙ known)) in
            ap (λ n. is_among n listed) same ∙ there

        by_test : (b : Bool) → bytes_eq further x.text ≡ b → (b || is_among further names) ≡ true → (is_among further names ≡ true → is_among further listed ≡ true)
            → is_among further listed ≡ true
        by_test true is among later = here (text-same further x.text is)
        by_test false is among later = later among

    whole-quiet : (names : List Named) → Each IsWritten names → missing_by types ty listed [] names ≡ []
        → (name : List ℕ) → is_among name names ≡ true → (it : InterfaceType) → type_called name types ≡ Some (type.Interface it)
        → (further : List ℕ) → is_among further it.implements_interfaces ≡ true → is_known types further ≡ true → is_among further listed ≡ true
    whole-quiet [] written none name among it found further lists known = absurd (let e : false ≡ true = among in cc)
    whole-quiet (x ∷ names) written none name among it found further lists known =
        by_test (bytes_eq name x.text) refl among (λ later. whole-quiet names written.1 later_none name later it found further lists known)
      where
        its : List Named
        its = interfaces_by types x

        first : NoneNew its
        first = none-new its (front_empty (missing types ty listed [] its) (missing_by types ty listed (told_after types listed [] its) names) none)

        later_none : missing_by types ty listed [] names ≡ []
        later_none =
            sym (ap (λ told. missing_by types ty listed told names) first.told)
            ∙ back_empty (missing types ty listed [] its) (missing_by types ty listed (told_after types listed [] its) names) none

        here : name ≡ x.text → is_among further listed ≡ true
        here same =
            let are : its ≡ it.implements_interfaces =
            ap (λ (b : Bool). if b then option_map_or interfaces_of (type_called x.text types) [] else []) written.0
            ∙ ap (λ o. option_map_or interfaces_of o []) (ap (λ n. type_called n types) (sym same) ∙ found) in
            listed-too its first.none further (ap (is_among further) are ∙ lists) known

        by_test : (b : Bool) → bytes_eq name x.text ≡ b → (b || is_among name names) ≡ true → (is_among name names ≡ true → is_among further listed ≡ true)
            → is_among further listed ≡ true
        by_test true is among later = here (text-same name x.text is)
        by_test false is among later = later among

    lists-well : Each IsWritten listed → flat_map (listed_faults types ty fields) listed ++ transitive_implemented_interfaces types ty listed ≡ [] → ListsWell
    lists-well written none = record {
      fields_fit = fields-quiet listed written (front_empty (flat_map (listed_faults types ty fields) listed) (transitive_implemented_interfaces types ty listed) none);
      whole = whole-quiet listed written (back_empty (flat_map (listed_faults types ty fields) listed) (transitive_implemented_interfaces types ty listed) none);
    }

-- ---- the members of a union

module _ (schema : Schema) where
  members-quiet : (names : List Named) → Each IsWritten names → members_faults schema names ≡ []
      → (name : List ℕ) → is_among name names ≡ true → is_another_kind schema.types name ≡ false
  members-quiet [] written none name among = absurd (let e : false ≡ true = among in cc)
  members-quiet (x ∷ names) written none name among =
      by_test (bytes_eq name x.text) refl among (λ later. members-quiet names written.1 (back_empty (member_faults schema x) (members_faults schema names) none) name later)
    where
      told : List DiagnosticData
      told = undefined_definition schema.types x ++ union_member_object_type schema.types x

      here : name ≡ x.text → is_another_kind schema.types name ≡ false
      here same =
          let quiet : told ≡ [] =
          sym (ap (λ (b : Bool). if b then told else []) written.0) ∙ front_empty (member_faults schema x) (members_faults schema names) none in
          ap (is_another_kind schema.types) same
          ∙ not_told (is_another_kind schema.types x.text) (name_fault UnionMemberObjectType x)
          (back_empty (undefined_definition schema.types x) (union_member_object_type schema.types x) quiet)

      by_test : (b : Bool) → bytes_eq name x.text ≡ b → (b || is_among name names) ≡ true → (is_among name names ≡ true → is_another_kind schema.types name ≡ false)
          → is_another_kind schema.types name ≡ false
      by_test true is among later = here (text-same name x.text is)
      by_test false is among later = later among

  union-quiet : (it : UnionType) → type_faults schema (type.Union it) ≡ [] → members_faults schema it.members ≡ []
  union-quiet it none =
      let N = name_faults it.location it.name in
      let E = if_written it.location (empty_member_set it.name it.members) in
      let D = directive_faults TypesAndScalars schema.types at.Union schema.directive_definitions it.directives in
      let M = members_faults schema it.members in
      back_empty D M (back_empty E (D ++ M) (back_empty N (E ++ (D ++ M)) none))

  -- ---- each type

  abbrev pub IsSound : ExtendedType → Type 0
  IsSound (type.Object it) = ListsWell schema.types it.name it.fields it.implements_interfaces
  IsSound (type.Union it) = (name : List ℕ) → is_among name it.members ≡ true → is_another_kind schema.types name ≡ false
  IsSound _ = Unit {0}

  one-sound : (ty : ExtendedType) → NamesWritten ty → type_faults schema ty ≡ [] → implementing_faults schema.types ty ≡ [] → IsSound ty
  one-sound (type.Object it) written none quiet = lists-well schema.types it.name it.fields it.implements_interfaces written quiet
  one-sound (type.Union it) written none quiet = members-quiet it.members written (union-quiet it none)
  one-sound (type.Interface it) written none quiet = tt
  one-sound (type.Scalar it) written none quiet = tt
  one-sound (type.Enum it) written none quiet = tt
  one-sound (type.InputObject it) written none quiet = tt

  all-sound : (ts : List ExtendedType) → Each NamesWritten ts → flat_map (type_faults schema) ts ≡ [] → flat_map (implementing_faults schema.types) ts ≡ [] → Each IsSound ts
  all-sound [] written none quiet = tt
  all-sound (ty ∷ ts) written none quiet = (
    one-sound ty written.0 (front_empty (type_faults schema ty) (flat_map (type_faults schema) ts) none)
        (front_empty (implementing_faults schema.types ty) (flat_map (implementing_faults schema.types) ts) quiet),
    all-sound ts written.1 (back_empty (type_faults schema ty) (flat_map (type_faults schema) ts) none)
        (back_empty (implementing_faults schema.types ty) (flat_map (implementing_faults schema.types) ts) quiet),
  )

  pub types-sound : Each NamesWritten schema.types → AreSchemaFaults schema [] → Each IsSound schema.types
  types-sound written holds =
      let before = schema_definition_faults schema ++ directive_definitions_faults schema in
      let of_chains : ((parts_faults schema ++ holds.interfaces) ++ holds.input_objects) ++ holds.directives ≡ [] = sym holds.whole in
      let of_parts : parts_faults schema ≡ [] =
      front_empty (parts_faults schema) holds.interfaces (front_empty (parts_faults schema ++ holds.interfaces) holds.input_objects
      (front_empty ((parts_faults schema ++ holds.interfaces) ++ holds.input_objects) holds.directives of_chains)) in
      all-sound schema.types written
      (back_empty before (types_faults schema) (front_empty (before ++ types_faults schema) (interfaces_faults schema.types) of_parts))
      (back_empty (before ++ types_faults schema) (interfaces_faults schema.types) of_parts)

-- ---- a field of an interface, where the type has these fields

-- the type's own field of the name, of a subtype where both types count as defined
pub record HasFitting (types : List ExtendedType) (fields : List FieldDefinition) (wanted : FieldDefinition) : Type 0 where
  pub own : FieldDefinition
  pub there : entry field_name wanted.name.text fields ≡ Some own
  pub fits : are_known types wanted.ty own.ty ≡ true → is_subtype types wanted.ty own.ty ≡ true

pub has-fitting : (types : List ExtendedType) (ty interface : Named) (fields : List FieldDefinition) (wanted : FieldDefinition) → field_faults types ty interface fields wanted ≡ []
    → HasFitting types fields wanted
has-fitting types ty interface fields wanted none = by (entry field_name wanted.name.text fields) refl none
  where
    by : (o : Option FieldDefinition) → entry field_name wanted.name.text fields ≡ o
        → option_map_or (both_faults types ty interface wanted) o (missing_interface_field ty interface wanted ∷ []) ≡ [] → HasFitting types fields wanted
    by None is told = absurd (let e : missing_interface_field ty interface wanted ∷ [] ≡ [] = told in cc)
    by (Some own) is told = record {
      own = own;
      there = is;
      fits = λ known.
          not_false (is_subtype types wanted.ty own.ty)
          (and-true (are_known types wanted.ty own.ty) (not (is_subtype types wanted.ty own.ty))
          (not_told (are_known types wanted.ty own.ty && not (is_subtype types wanted.ty own.ty)) (misfit ty interface wanted own)
          (front_empty (invalid_implementation_field_type types ty interface wanted own) (arguments_faults types ty interface wanted own) told)) known);
    }
