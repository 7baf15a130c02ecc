-- What is made of each type of a schema.
use Rattle.std.proofs.Common.{◌≡◌, ℕ, suc, Bool, true, false, if◌then◌else◌, Some, List, [], ◌∷◌, map, codes, refl, sym, subst}
use Rattle.std.specs.Prelude.{filter}
use Rattle.std.specs.List.{AllByRecursion}
use Rattle.gql_ast_base.specs.Names.{Named}
use Rattle.gql_ast_base.specs.TypeParts.{named_type}
use Rattle.gql_client_schema_laws.specs.Answer.{Pairs, text_or_null, kind_text, kind_among, reference_pairs, list_value, list_if, truth_if, has_fields, has_possible_types, is_enum, is_input_object}
use Rattle.gql_client_schema_laws.specs.Given.{inputs_of, values_of, its_reference}
use Rattle.gql_client_schema_laws.specs.Parts.{shown_input, shown_field, shown_enum_value}
use Rattle.gql_client_schema_laws.specs.Shown.{finished, is_interface, implements as shows_implementing, its_reference as shown_reference}
use Rattle.gql_client_schema_laws.proofs.Given.{type_given, possible_given, members_given}
use Rattle.gql_client_schema_laws.specs.Asked.{asks_nothing, asks_fragment}
use Rattle.gql_client_schema_laws.specs.FullQuery as full
use Rattle.gql_client_schema_laws.specs.Introspection.{required, list, row, row_with, HasIntrospection}
use Rattle.gql_client_schema_laws.specs.Whole.{IsFieldKnown, ArePartsKnown, IsFirst}
use Rattle.gql_client_schema_laws.proofs.Inputs.{input_pairs, inputs-made}
use Rattle.gql_client_schema_laws.proofs.Leaves.{text_or_null-made, word-made, null-made}
use Rattle.gql_client_schema_laws.proofs.Making.{SetMade, GroupMade, Makes, world, set-made}
use Rattle.gql_client_schema_laws.proofs.Objects.{objects-made}
use Rattle.gql_client_schema_laws.proofs.MadeParts.{leaf_at, field_pairs, field-made, value_pairs, value-made}
use Rattle.gql_client_schema_laws.proofs.MadeReferences.{raised, kind-taken}
use Rattle.gql_client_schema_laws.proofs.Sets.{single, defined, groups-asked, type-body}
use Rattle.gql_client_schema_laws.proofs.Spread.{spread-made}
use Rattle.gql_client_schema_laws.proofs.TypeParts.{some-made, named-made, truth_or_null-made, first-kept}
use Rattle.gql_ast.specs.declared.field_definition.EnumValueDefinition.{EnumValueDefinition}
use Rattle.gql_ast.specs.declared.field_definition.FieldDefinition.{FieldDefinition}
use Rattle.gql_introspection.specs.Answers.{null_leaf}
use Rattle.gql_introspection.specs.MetaMeaning.{meta_row}
use Rattle.gql_introspection.specs.Meta.{type_def, field_def, input_value_def, enum_value_def, type_name_of}
use Rattle.gql_introspection.specs.TypeDef.{is_implementing}
use Rattle.gql_resolvers.specs.Execute.{execute}
use Rattle.gql_resolvers.specs.Trail.{Trail}
use Rattle.gql_schema_types.specs.Types.{fields_of, interfaces_of}
use Rattle.gql_schema_types.specs.declared.types.ExtendedType.TheVariants as type
use Rattle.gql_client_schema_laws.specs.Given.{why}
use Rattle.gql_client_schema_laws.specs.Parts.{said_type}
use Rattle.gql_document_types.specs.Ranks.{AreRanked}
use Rattle.gql_document_types.specs.declared.selection.Selection.{Selection}
use Rattle.gql_client_schema_laws.specs.Selected.{full_fragments, field_with, selected, definition_in}
use Rattle.gql_schema_types.specs.Types.{type_called, type_name}
use Rattle.gql_schema_types.specs.declared.schema.Schema.{Schema}
use Rattle.gql_schema_types.specs.declared.types.ExtendedType.{ExtendedType}
use Rattle.gql_schema_types.specs.declared.types.ObjectType.{ObjectType}
use Rattle.gql_sdl.specs.declared.shown.ShownType.{ShownType}
use Rattle.gql_source.specs.File.{Files}
use Rattle.jb_tree.specs.declared.value.Value.TheVariants as json

-- an interface is finished in one part alone
finished-is : (all : List ShownType) (s : ShownType) → finished all s ≡ record s { possible_types = (finished all s).possible_types }
finished-is all s = by (is_interface s.kind)
  where
    by : (b : Bool) → (if b then record s { possible_types = map shown_reference (filter (shows_implementing s.name.text) all) } else s) ≡ record s { possible_types = (if b then record s { possible_types = map shown_reference (filter (shows_implementing s.name.text) all) } else s).possible_types }
    by true = refl
    by false = refl

module _ (schema : Schema) (files : Files) (rank : ℕ → ℕ) (ranked : AreRanked (full_fragments schema) rank) (known : HasIntrospection schema) (types : List ShownType)
    (kinds : (name : List ℕ) (t : ExtendedType) → type_called name schema.types ≡ Some t → kind_among types name ≡ (said_type (why schema) t).kind)
    (names : (name : List ℕ) (t : ExtendedType) → type_called name schema.types ≡ Some t → (type_name t).text ≡ name) where
  abbrev pub type_pairs : ShownType → Pairs
  type_pairs ty =
      (codes "kind", json.String (kind_text ty.kind)) ∷ (codes "name", json.String ty.name.text) ∷ (codes "description", text_or_null ty.description)
      ∷ (codes "specifiedByURL", text_or_null ty.specified_by_url) ∷ (codes "isOneOf", truth_if (is_input_object ty.kind) ty.is_one_of)
      ∷ (codes "fields", list_if (has_fields ty.kind) (λ field. json.Object (field_pairs schema files rank ranked known types kinds names field)) ty.fields)
      ∷ (codes "inputFields", list_if (is_input_object ty.kind) (λ input. json.Object (input_pairs schema files rank ranked known types kinds names input)) ty.input_fields)
      ∷ (codes "interfaces", list_if (has_fields ty.kind) (λ it. json.Object (reference_pairs types 8 it)) ty.interfaces)
      ∷ (codes "possibleTypes", list_if (has_possible_types ty.kind) (λ it. json.Object (reference_pairs types 8 it)) ty.possible_types)
      ∷ (codes "enumValues", list_if (is_enum ty.kind) (λ value. json.Object (value_pairs schema files rank ranked known value)) ty.enum_values) ∷ []

  abbrev W : ObjectType
  W = known.type_type.object

  abbrev said : ExtendedType → ShownType
  said t = said_type (why schema) t

  abbrev all_said : List ShownType
  all_said = map said schema.types

  abbrev within : Named → List ℕ → ℕ → List ℕ → List Selection
  within ty name start fragment = selected schema (named_type (definition_in schema ty name).ty) (asks_fragment start fragment asks_nothing)

  abbrev type_made_rows : Named → ShownType → List (GroupMade schema files rank ranked known)
  type_made_rows ty st =
      leaf_at schema files rank ranked known ty 239 (codes "kind") (json.String (kind_text st.kind)) ∷ leaf_at schema files rank ranked known ty 244 (codes "name") (json.String st.name.text)
      ∷ leaf_at schema files rank ranked known ty 249 (codes "description") (text_or_null st.description) ∷ leaf_at schema files rank ranked known ty 261 (codes "specifiedByURL") (text_or_null st.specified_by_url)
      ∷ leaf_at schema files rank ranked known ty 276 (codes "isOneOf") (truth_if (is_input_object st.kind) st.is_one_of)
      ∷ (
        single (field_with schema ty 284 420 (codes "fields") true (selected schema (named_type (definition_in schema ty (codes "fields")).ty) full.field_asked)),
        list_if (has_fields st.kind) (λ field. json.Object (field_pairs schema files rank ranked known types kinds names field)) st.fields,
      )
      ∷ (
        single (field_with schema ty 421 466 (codes "inputFields") true (within ty (codes "inputFields") 460 (codes "V"))),
        list_if (is_input_object st.kind) (λ input. json.Object (input_pairs schema files rank ranked known types kinds names input)) st.input_fields,
      )
      ∷ (
        single (field_with schema ty 467 486 (codes "interfaces") false (within ty (codes "interfaces") 480 (codes "R"))),
        list_if (has_fields st.kind) (λ it. json.Object (reference_pairs types 8 it)) st.interfaces,
      )
      ∷ (
        single (field_with schema ty 487 509 (codes "possibleTypes") false (within ty (codes "possibleTypes") 503 (codes "R"))),
        list_if (has_possible_types st.kind) (λ it. json.Object (reference_pairs types 8 it)) st.possible_types,
      )
      ∷ (
        single (field_with schema ty 510 597 (codes "enumValues") true (selected schema (named_type (definition_in schema ty (codes "enumValues")).ty) full.value_asked)),
        list_if (is_enum st.kind) (λ value. json.Object (value_pairs schema files rank ranked known value)) st.enum_values,
      ) ∷ []

  -- ---- which types one can be

  abbrev PossibleMade : ℕ → Named → ExtendedType → Trail → Type 0
  PossibleMade d ty t outer =
      Makes schema files rank ranked known (execute (world schema files rank ranked known) (suc (suc (raised 8 d)))) W (type_def schema t) outer
      (single (field_with schema ty 487 509 (codes "possibleTypes") false (within ty (codes "possibleTypes") 503 (codes "R"))))
      (list_if (has_possible_types (said t).kind) (λ it. json.Object (reference_pairs types 8 it)) (finished all_said (said t)).possible_types)

  module _ (first : AllByRecursion (IsFirst schema.types) schema.types) (d : ℕ) (ty : Named) where
    none-possible : (t : ExtendedType) (outer : Trail) → meta_row (type_def schema t) (codes "possibleTypes") [] ≡ Some null_leaf
        → Makes schema files rank ranked known (execute (world schema files rank ranked known) (suc (suc (raised 8 d)))) W (type_def schema t) outer
        (single (field_with schema ty 487 509 (codes "possibleTypes") false (within ty (codes "possibleTypes") 503 (codes "R")))) json.Null
    none-possible t outer given =
        null-made schema files rank ranked known (execute (world schema files rank ranked known) (suc (suc (raised 8 d)))) W (codes "__Type") known.type_type.named ty (type_def schema t) outer 487 509
        (row (codes "possibleTypes") list (codes "__Type")) (within ty (codes "possibleTypes") 503 (codes "R")) known.type_type.fields.1.1.1.1.1.1.1.1.0 (refl, refl) refl given

    possible-made : (t : ExtendedType) → ArePartsKnown schema.types t → (outer : Trail) → PossibleMade d ty t outer
    possible-made (type.Scalar it) there outer = none-possible (type.Scalar it) outer refl
    possible-made (type.Object it) there outer = none-possible (type.Object it) outer refl
    possible-made (type.Interface it) there outer =
        subst (λ l. Makes schema files rank ranked known (execute (world schema files rank ranked known) (suc (suc (raised 8 d)))) W (type_def schema (type.Interface it)) outer
        (single (field_with schema ty 487 509 (codes "possibleTypes") false (within ty (codes "possibleTypes") 503 (codes "R"))))
        (list_value (λ reference. json.Object (reference_pairs types 8 reference)) l)) (sym (possible_given schema it).shown)
        (objects-made schema files rank ranked known (suc (suc (raised 8 d))) W (codes "__Type") known.type_type.named ty (type_def schema (type.Interface it)) outer 487 509
        (row (codes "possibleTypes") list (codes "__Type")) (within ty (codes "possibleTypes") 503 (codes "R")) _ (type_def schema) (its_reference schema) (reference_pairs types 8)
        (filter (is_implementing it.name.text) schema.types) known.type_type.fields.1.1.1.1.1.1.1.1.0 (refl, refl) refl (possible_given schema it).given known.type_type
        (first-kept schema files rank ranked known types kinds names (is_implementing it.name.text) schema.types first (suc (suc d)) (named_type (definition_in schema ty (codes "possibleTypes")).ty) 503))
    possible-made (type.Union it) there outer =
        named-made schema files rank ranked known types kinds names d ty (type.Union it) outer true 487 509 503 (codes "possibleTypes") it.members (said (type.Union it)).possible_types (members_given schema it).shown
        known.type_type.fields.1.1.1.1.1.1.1.1.0 (refl, refl) there.members (members_given schema it).given
    possible-made (type.Enum it) there outer = none-possible (type.Enum it) outer refl
    possible-made (type.InputObject it) there outer = none-possible (type.InputObject it) outer refl

    -- ---- a type with all its parts

    fields-made : (fields : List FieldDefinition) → AllByRecursion (IsFieldKnown schema.types) fields
        → AllByRecursion (λ (field : FieldDefinition). (codes "__Field" ≡ codes "__Field")
        × SetMade schema files rank ranked known (suc (suc (raised 8 d))) known.field_type.object (field_def schema field)
        (selected schema (named_type (definition_in schema ty (codes "fields")).ty) full.field_asked ∷ []) (field_pairs schema files rank ranked known types kinds names (shown_field (why schema) field))) fields
    fields-made [] there = tt
    fields-made (field ∷ fields) there =
        ((refl, field-made schema files rank ranked known types kinds names field there.0 d (named_type (definition_in schema ty (codes "fields")).ty)), fields-made fields there.1)

    values-made : (values : List EnumValueDefinition)
        → AllByRecursion (λ (value : EnumValueDefinition). (codes "__EnumValue" ≡ codes "__EnumValue")
        × SetMade schema files rank ranked known (suc (suc (raised 8 d))) known.value_type.object (enum_value_def schema value)
        (selected schema (named_type (definition_in schema ty (codes "enumValues")).ty) full.value_asked ∷ []) (value_pairs schema files rank ranked known (shown_enum_value (why schema) value))) values
    values-made [] = tt
    values-made (value ∷ values) =
        ((refl, value-made schema files rank ranked known value (suc (raised 8 d)) (named_type (definition_in schema ty (codes "enumValues")).ty)), values-made values)

    whole-made : (t : ExtendedType) → ArePartsKnown schema.types t
        → SetMade schema files rank ranked known (suc (suc (suc (raised 8 d)))) W (type_def schema t) (selected schema ty full.type_asked ∷ [])
        (type_pairs (record (said t) { possible_types = (finished all_said (said t)).possible_types }))
    whole-made t there =
        let has = known.type_type.fields in
        let named = known.type_type.named in
        let given = type_given schema t in
        let run = execute (world schema files rank ranked known) (suc (suc (raised 8 d))) in
        let st = record (said t) { possible_types = (finished all_said (said t)).possible_types } in
        set-made schema files rank ranked known (suc (suc (raised 8 d))) W (type_def schema t) (selected schema ty full.type_asked ∷ []) (type_made_rows ty st)
        (groups-asked schema files rank ranked W ty full.type_asked tt (
          defined schema files rank ranked W (codes "__Type") named _ has.0,
          (
            defined schema files rank ranked W (codes "__Type") named _ has.1.0,
            (
              defined schema files rank ranked W (codes "__Type") named _ has.1.1.0,
              (
                defined schema files rank ranked W (codes "__Type") named _ has.1.1.1.0,
                (
                  defined schema files rank ranked W (codes "__Type") named _ has.1.1.1.1.0,
                  (
                    defined schema files rank ranked W (codes "__Type") named _ has.1.1.1.1.1.0,
                    (
                      defined schema files rank ranked W (codes "__Type") named _ has.1.1.1.1.1.1.0,
                      (
                        defined schema files rank ranked W (codes "__Type") named _ has.1.1.1.1.1.1.1.0,
                        (
                          defined schema files rank ranked W (codes "__Type") named _ has.1.1.1.1.1.1.1.1.0,
                          (defined schema files rank ranked W (codes "__Type") named _ has.1.1.1.1.1.1.1.1.1.0, tt),
                        ),
                      ),
                    ),
                  ),
                ),
              ),
            ),
          ),
        ))
        (λ outer. (
          word-made schema files rank ranked known run W (codes "__Type") named ty (type_def schema t) outer 239 243 (codes "kind") required (codes "__TypeKind") (kind_text (said t).kind) _ known.kinds has.0 (refl, refl) refl
              (kind-taken schema files rank ranked known types kinds names t) given.kind,
          (
            text_or_null-made schema files rank ranked known run W (codes "__Type") named ty (type_def schema t) outer 244 248 (codes "name") (Some (said t).name.text) has.1.0 (refl, refl) given.described.name_given,
            (
              text_or_null-made schema files rank ranked known run W (codes "__Type") named ty (type_def schema t) outer 249 260 (codes "description") (said t).description has.1.1.0 (refl, refl) given.described.description_given,
              (
                text_or_null-made schema files rank ranked known run W (codes "__Type") named ty (type_def schema t) outer 261 275 (codes "specifiedByURL") (said t).specified_by_url has.1.1.1.0 (refl, refl) given.url,
                (
                  truth_or_null-made schema files rank ranked known types kinds names d ty t outer (is_input_object (said t).kind) (said t).is_one_of 276 283 (codes "isOneOf") has.1.1.1.1.0 (refl, refl) given.one_of,
                  (
                    some-made schema files rank ranked known types kinds names d ty t outer (has_fields (said t).kind) 284 420 (row_with (codes "fields") list (codes "__Field"))
                        (selected schema (named_type (definition_in schema ty (codes "fields")).ty) full.field_asked) _ (field_def schema) (shown_field (why schema)) (field_pairs schema files rank ranked known types kinds names) (fields_of t)
                        (said t).fields given.shown_fields has.1.1.1.1.1.0 (refl, refl) refl refl given.fields known.field_type (fields-made (fields_of t) there.fields),
                    (
                      some-made schema files rank ranked known types kinds names d ty t outer (is_input_object (said t).kind) 421 466 (row_with (codes "inputFields") list (codes "__InputValue")) (within ty (codes "inputFields") 460 (codes "V")) _
                          (input_value_def schema) (shown_input (why schema)) (input_pairs schema files rank ranked known types kinds names) (inputs_of t) (said t).input_fields given.shown_input_fields has.1.1.1.1.1.1.0 (refl, refl) refl refl
                          given.input_fields known.input_type (inputs-made schema files rank ranked known types kinds names (inputs_of t) there.input_fields (suc d) (named_type (definition_in schema ty (codes "inputFields")).ty) 460),
                      (
                        named-made schema files rank ranked known types kinds names d ty t outer (has_fields (said t).kind) 467 486 480 (codes "interfaces") (interfaces_of t) (said t).interfaces given.shown_interfaces has.1.1.1.1.1.1.1.0 (refl, refl)
                            there.interfaces given.interfaces,
                        (
                          possible-made t there outer,
                          (
                            some-made schema files rank ranked known types kinds names d ty t outer (is_enum (said t).kind) 510 597 (row_with (codes "enumValues") list (codes "__EnumValue"))
                                (selected schema (named_type (definition_in schema ty (codes "enumValues")).ty) full.value_asked) _ (enum_value_def schema) (shown_enum_value (why schema)) (value_pairs schema files rank ranked known) (values_of t)
                                (said t).enum_values given.shown_enum_values has.1.1.1.1.1.1.1.1.1.0 (refl, refl) refl refl given.enum_values known.value_type (values-made (values_of t)),
                            tt,
                          ),
                        ),
                      ),
                    ),
                  ),
                ),
              ),
            ),
          ),
        ))

  -- where the fragment is spread
  pub types-made : (first : AllByRecursion (IsFirst schema.types) schema.types) (ts : List ExtendedType) → AllByRecursion (ArePartsKnown schema.types) ts → (d : ℕ) (ty : Named) (start : ℕ)
      → AllByRecursion (λ t. (type_name_of (type_def schema t) ≡ codes "__Type")
      × SetMade schema files rank ranked known (suc (suc (suc (raised 8 d)))) W (type_def schema t) (selected schema ty (asks_fragment start (codes "T") asks_nothing) ∷ []) (type_pairs (finished all_said (said t)))) ts
  types-made first [] there d ty start = tt
  types-made first (t ∷ ts) there d ty start = (
    (
      refl,
      spread-made schema files rank ranked known (suc (suc (raised 8 d))) W (type_def schema t) ty start (codes "T") (selected schema full.type_fragment.type_condition full.type_asked)
          (type_pairs (finished all_said (said t))) (type-body schema files rank ranked W known.type_type.named)
          (subst (λ st. SetMade schema files rank ranked known (suc (suc (suc (raised 8 d)))) W (type_def schema t) (selected schema full.type_fragment.type_condition full.type_asked ∷ []) (type_pairs st))
          (sym (finished-is all_said (said t))) (whole-made first d full.type_fragment.type_condition t there.0)),
    ),
    types-made first ts there.1 d ty start,
  )
