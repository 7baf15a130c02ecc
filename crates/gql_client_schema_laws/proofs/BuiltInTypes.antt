-- The built-in types are there as the standard defines them, in a schema that has them as they are built in.
use Rattle.std.proofs.Common.{◌≡◌, ℕ, Bool, true, false, Some, List, slice_get, codes, refl, ap, ◌∙◌}
use Rattle.std.specs.List.{AllByRecursion}
use Rattle.std.proofs.lemmas.Bool.{false≢true}
use Rattle.gql_ast.specs.Schemas.{location_name}
use Rattle.gql_ast.specs.declared.schema_definition.DirectiveLocation.{DirectiveLocation}
use Rattle.gql_ast.specs.declared.schema_definition.DirectiveLocation.TheVariants as at
use Rattle.gql_ast_laws.proofs.Found.{the, is_found}
use Rattle.gql_coerce.specs.InputTypes.{is_enum_value}
use Rattle.gql_client_schema_laws.specs.Introspection.{FieldRow, HasField, HasObject, HasScalar, HasEnum, schema_rows, type_rows, field_rows, input_rows, value_rows, directive_rows, kind_names}
use Rattle.gql_client_schema_laws.proofs.BuiltInFields.{name_of, has-field, takes-deprecated, rows_computed}
use Rattle.gql_schema.proofs.Known.{by_rows}
use Rattle.gql_schema_build.specs.Built.{built}
use Rattle.gql_schema_build.specs.declared.type_definition.TypeDefinition.{TypeDefinition}
use Rattle.gql_schema_types.specs.Entries.{entry}
use Rattle.gql_schema_types.specs.Types.{type_called, fields_of, field_name}
use Rattle.gql_schema_types.specs.declared.schema.Schema.{Schema}
use Rattle.gql_schema_types.specs.declared.types.EnumType.{EnumType}
use Rattle.gql_schema_types.specs.declared.types.ExtendedType.{ExtendedType}
use Rattle.gql_schema_types.specs.declared.types.ExtendedType.TheVariants as type
use Rattle.gql_schema_types.specs.declared.types.ObjectType.{ObjectType}

abbrev is_object : ExtendedType → Bool
is_object (type.Object it) = true
is_object _ = false

abbrev is_enum : ExtendedType → Bool
is_enum (type.Enum it) = true
is_enum _ = false

-- a definition of the built-in text by its number
abbrev pub definition_at : (k : ℕ) → is_found (slice_get by_rows.types k) ≡ true → TypeDefinition
definition_at k there = the (slice_get by_rows.types k) there

module _ (S : Schema) where
  abbrev pub IsThere : List ℕ → TypeDefinition → Type 0
  IsThere name d = type_called name S.types ≡ Some (built d)

  -- the object type that is there
  object-of : (name : List ℕ) (rows : List FieldRow) (t : ExtendedType) (it : ObjectType) → t ≡ type.Object it → type_called name S.types ≡ Some t → it.name.text ≡ name
      → AllByRecursion (HasField S name) rows → HasObject S name rows
  object-of name rows t it is called named fields =
      record { object = it; called = called ∙ ap Some is; named = named; fields = fields }

  abbrev as_object : (t : ExtendedType) → is_object t ≡ true → (it : ObjectType) × (t ≡ type.Object it)
  as_object (type.Object it) is = (it, refl)
  as_object (type.Scalar it) is = absurd (false≢true is)
  as_object (type.Interface it) is = absurd (false≢true is)
  as_object (type.Union it) is = absurd (false≢true is)
  as_object (type.Enum it) is = absurd (false≢true is)
  as_object (type.InputObject it) is = absurd (false≢true is)

  pub schema-there : IsThere (codes "__Schema") (definition_at 0 refl) → HasObject S (codes "__Schema") schema_rows
  unfolding rows_computed
  schema-there called =
      let t = built (definition_at 0 refl) in
      object-of (codes "__Schema") schema_rows t (as_object t refl).0 refl called refl (
        has-field S (codes "__Schema") t called _ (the (entry field_name (codes "description") (fields_of t)) refl) (name_of 29 35 (codes "String")) refl refl refl refl,
        (
          has-field S (codes "__Schema") t called _ (the (entry field_name (codes "queryType") (fields_of t)) refl) (name_of 65 71 (codes "__Type")) refl refl refl refl,
          (
            has-field S (codes "__Schema") t called _ (the (entry field_name (codes "mutationType") (fields_of t)) refl) (name_of 87 93 (codes "__Type")) refl refl refl refl,
            (
              has-field S (codes "__Schema") t called _ (the (entry field_name (codes "subscriptionType") (fields_of t)) refl) (name_of 112 118 (codes "__Type")) refl refl refl refl,
              (
                has-field S (codes "__Schema") t called _ (the (entry field_name (codes "types") (fields_of t)) refl) (name_of 44 50 (codes "__Type")) refl refl refl refl,
                (has-field S (codes "__Schema") t called _ (the (entry field_name (codes "directives") (fields_of t)) refl) (name_of 132 143 (codes "__Directive")) refl refl refl refl, tt),
              ),
            ),
          ),
        ),
      )

  pub type-there : IsThere (codes "__Type") (definition_at 1 refl) → HasObject S (codes "__Type") type_rows
  unfolding rows_computed
  type-there called =
      let t = built (definition_at 1 refl) in
      object-of (codes "__Type") type_rows t (as_object t refl).0 refl called refl (
        has-field S (codes "__Type") t called _ (the (entry field_name (codes "kind") (fields_of t)) refl) (name_of 169 179 (codes "__TypeKind")) refl refl refl refl,
        (
          has-field S (codes "__Type") t called _ (the (entry field_name (codes "name") (fields_of t)) refl) (name_of 187 193 (codes "String")) refl refl refl refl,
          (
            has-field S (codes "__Type") t called _ (the (entry field_name (codes "description") (fields_of t)) refl) (name_of 207 213 (codes "String")) refl refl refl refl,
            (
              has-field S (codes "__Type") t called _ (the (entry field_name (codes "specifiedByURL") (fields_of t)) refl) (name_of 475 481 (codes "String")) refl refl refl refl,
              (
                has-field S (codes "__Type") t called _ (the (entry field_name (codes "isOneOf") (fields_of t)) refl) (name_of 491 498 (codes "Boolean")) refl refl refl refl,
                (
                  has-field S (codes "__Type") t called _ (the (entry field_name (codes "fields") (fields_of t)) refl) (name_of 259 266 (codes "__Field")) refl refl refl (takes-deprecated (the (entry field_name (codes "fields") (fields_of t)) refl).arguments (the (slice_get (the (entry field_name (codes "fields") (fields_of t)) refl).arguments 0) refl) (name_of 240 247 (codes "Boolean")) refl refl refl refl),
                  (
                    has-field S (codes "__Type") t called _ (the (entry field_name (codes "inputFields") (fields_of t)) refl) (name_of 429 441 (codes "__InputValue")) refl refl refl (takes-deprecated (the (entry field_name (codes "inputFields") (fields_of t)) refl).arguments (the (slice_get (the (entry field_name (codes "inputFields") (fields_of t)) refl).arguments 0) refl) (name_of 410 417 (codes "Boolean")) refl refl refl refl),
                    (
                      has-field S (codes "__Type") t called _ (the (entry field_name (codes "interfaces") (fields_of t)) refl) (name_of 282 288 (codes "__Type")) refl refl refl refl,
                      (
                        has-field S (codes "__Type") t called _ (the (entry field_name (codes "possibleTypes") (fields_of t)) refl) (name_of 307 313 (codes "__Type")) refl refl refl refl,
                        (
                          has-field S (codes "__Type") t called _ (the (entry field_name (codes "enumValues") (fields_of t)) refl) (name_of 365 376 (codes "__EnumValue")) refl refl refl (takes-deprecated (the (entry field_name (codes "enumValues") (fields_of t)) refl).arguments (the (slice_get (the (entry field_name (codes "enumValues") (fields_of t)) refl).arguments 0) refl) (name_of 346 353 (codes "Boolean")) refl refl refl refl),
                          (has-field S (codes "__Type") t called _ (the (entry field_name (codes "ofType") (fields_of t)) refl) (name_of 452 458 (codes "__Type")) refl refl refl refl, tt),
                        ),
                      ),
                    ),
                  ),
                ),
              ),
            ),
          ),
        ),
      )

  pub field-there : IsThere (codes "__Field") (definition_at 3 refl) → HasObject S (codes "__Field") field_rows
  unfolding rows_computed
  field-there called =
      let t = built (definition_at 3 refl) in
      object-of (codes "__Field") field_rows t (as_object t refl).0 refl called refl (
        has-field S (codes "__Field") t called _ (the (entry field_name (codes "name") (fields_of t)) refl) (name_of 604 610 (codes "String")) refl refl refl refl,
        (
          has-field S (codes "__Field") t called _ (the (entry field_name (codes "description") (fields_of t)) refl) (name_of 625 631 (codes "String")) refl refl refl refl,
          (
            has-field S (codes "__Field") t called _ (the (entry field_name (codes "args") (fields_of t)) refl) (name_of 675 687 (codes "__InputValue")) refl refl refl (takes-deprecated (the (entry field_name (codes "args") (fields_of t)) refl).arguments (the (slice_get (the (entry field_name (codes "args") (fields_of t)) refl).arguments 0) refl) (name_of 656 663 (codes "Boolean")) refl refl refl refl),
            (
              has-field S (codes "__Field") t called _ (the (entry field_name (codes "type") (fields_of t)) refl) (name_of 697 703 (codes "__Type")) refl refl refl refl,
              (
                has-field S (codes "__Field") t called _ (the (entry field_name (codes "isDeprecated") (fields_of t)) refl) (name_of 719 726 (codes "Boolean")) refl refl refl refl,
                (has-field S (codes "__Field") t called _ (the (entry field_name (codes "deprecationReason") (fields_of t)) refl) (name_of 747 753 (codes "String")) refl refl refl refl, tt),
              ),
            ),
          ),
        ),
      )

  pub input-there : IsThere (codes "__InputValue") (definition_at 4 refl) → HasObject S (codes "__InputValue") input_rows
  unfolding rows_computed
  input-there called =
      let t = built (definition_at 4 refl) in
      object-of (codes "__InputValue") input_rows t (as_object t refl).0 refl called refl (
        has-field S (codes "__InputValue") t called _ (the (entry field_name (codes "name") (fields_of t)) refl) (name_of 782 788 (codes "String")) refl refl refl refl,
        (
          has-field S (codes "__InputValue") t called _ (the (entry field_name (codes "description") (fields_of t)) refl) (name_of 803 809 (codes "String")) refl refl refl refl,
          (
            has-field S (codes "__InputValue") t called _ (the (entry field_name (codes "type") (fields_of t)) refl) (name_of 816 822 (codes "__Type")) refl refl refl refl,
            (
              has-field S (codes "__InputValue") t called _ (the (entry field_name (codes "defaultValue") (fields_of t)) refl) (name_of 838 844 (codes "String")) refl refl refl refl,
              (
                has-field S (codes "__InputValue") t called _ (the (entry field_name (codes "isDeprecated") (fields_of t)) refl) (name_of 859 866 (codes "Boolean")) refl refl refl refl,
                (has-field S (codes "__InputValue") t called _ (the (entry field_name (codes "deprecationReason") (fields_of t)) refl) (name_of 887 893 (codes "String")) refl refl refl refl, tt),
              ),
            ),
          ),
        ),
      )

  pub value-there : IsThere (codes "__EnumValue") (definition_at 5 refl) → HasObject S (codes "__EnumValue") value_rows
  unfolding rows_computed
  value-there called =
      let t = built (definition_at 5 refl) in
      object-of (codes "__EnumValue") value_rows t (as_object t refl).0 refl called refl (
        has-field S (codes "__EnumValue") t called _ (the (entry field_name (codes "name") (fields_of t)) refl) (name_of 921 927 (codes "String")) refl refl refl refl,
        (
          has-field S (codes "__EnumValue") t called _ (the (entry field_name (codes "description") (fields_of t)) refl) (name_of 942 948 (codes "String")) refl refl refl refl,
          (
            has-field S (codes "__EnumValue") t called _ (the (entry field_name (codes "isDeprecated") (fields_of t)) refl) (name_of 963 970 (codes "Boolean")) refl refl refl refl,
            (has-field S (codes "__EnumValue") t called _ (the (entry field_name (codes "deprecationReason") (fields_of t)) refl) (name_of 991 997 (codes "String")) refl refl refl refl, tt),
          ),
        ),
      )

  pub directive-there : IsThere (codes "__Directive") (definition_at 6 refl) → HasObject S (codes "__Directive") directive_rows
  unfolding rows_computed
  directive-there called =
      let t = built (definition_at 6 refl) in
      object-of (codes "__Directive") directive_rows t (as_object t refl).0 refl called refl (
        has-field S (codes "__Directive") t called _ (the (entry field_name (codes "name") (fields_of t)) refl) (name_of 1025 1031 (codes "String")) refl refl refl refl,
        (
          has-field S (codes "__Directive") t called _ (the (entry field_name (codes "description") (fields_of t)) refl) (name_of 1046 1052 (codes "String")) refl refl refl refl,
          (
            has-field S (codes "__Directive") t called _ (the (entry field_name (codes "isRepeatable") (fields_of t)) refl) (name_of 1161 1168 (codes "Boolean")) refl refl refl refl,
            (
              has-field S (codes "__Directive") t called _ (the (entry field_name (codes "locations") (fields_of t)) refl) (name_of 1065 1084 (codes "__DirectiveLocation")) refl refl refl refl,
              (has-field S (codes "__Directive") t called _ (the (entry field_name (codes "args") (fields_of t)) refl) (name_of 1131 1143 (codes "__InputValue")) refl refl refl (takes-deprecated (the (entry field_name (codes "args") (fields_of t)) refl).arguments (the (slice_get (the (entry field_name (codes "args") (fields_of t)) refl).arguments 0) refl) (name_of 1112 1119 (codes "Boolean")) refl refl refl refl), tt),
            ),
          ),
        ),
      )

  abbrev as_enum : (t : ExtendedType) → is_enum t ≡ true → (it : EnumType) × (t ≡ type.Enum it)
  as_enum (type.Enum it) is = (it, refl)
  as_enum (type.Scalar it) is = absurd (false≢true is)
  as_enum (type.Object it) is = absurd (false≢true is)
  as_enum (type.Interface it) is = absurd (false≢true is)
  as_enum (type.Union it) is = absurd (false≢true is)
  as_enum (type.InputObject it) is = absurd (false≢true is)

  pub kinds-there : IsThere (codes "__TypeKind") (definition_at 2 refl) → HasEnum S (codes "__TypeKind") (λ values. AllByRecursion (λ name. is_enum_value values name ≡ true) kind_names)
  unfolding rows_computed
  kinds-there called = record {
    enum = (as_enum (built (definition_at 2 refl)) refl).0;
    called = called;
    takes = (refl, (refl, (refl, (refl, (refl, (refl, (refl, (refl, tt))))))));
  }

  pub locations-there : IsThere (codes "__DirectiveLocation") (definition_at 7 refl)
      → HasEnum S (codes "__DirectiveLocation") (λ values. (it : DirectiveLocation) → is_enum_value values (location_name it) ≡ true)
  unfolding rows_computed
  locations-there called = record {
    enum = (as_enum (built (definition_at 7 refl)) refl).0;
    called = called;
    takes = each;
  }
    where
      each : (it : DirectiveLocation) → is_enum_value (as_enum (built (definition_at 7 refl)) refl).0.values (location_name it) ≡ true
      each at.Query = refl
      each at.Mutation = refl
      each at.Subscription = refl
      each at.Field = refl
      each at.FragmentDefinition = refl
      each at.FragmentSpread = refl
      each at.InlineFragment = refl
      each at.VariableDefinition = refl
      each at.Schema = refl
      each at.Scalar = refl
      each at.Object = refl
      each at.FieldDefinition = refl
      each at.ArgumentDefinition = refl
      each at.Interface = refl
      each at.Union = refl
      each at.Enum = refl
      each at.EnumValue = refl
      each at.InputObject = refl
      each at.InputFieldDefinition = refl

  pub texts-there : IsThere (codes "String") (definition_at 10 refl) → HasScalar S (codes "String")
  unfolding rows_computed
  texts-there called = record { scalar = _; called = called }

  pub truths-there : IsThere (codes "Boolean") (definition_at 11 refl) → HasScalar S (codes "Boolean")
  unfolding rows_computed
  truths-there called = record { scalar = _; called = called }
