-- What is made of fields, values of enum types and directives.
use Rattle.std.proofs.Common.{◌≡◌, ℕ, suc, ◌+◌, true, false, Some, List, [], ◌∷◌, map, codes, refl, ap, ◌∙◌}
use Rattle.std.specs.Prelude.{length}
use Rattle.gql_ast_base.specs.Names.{Named}
use Rattle.gql_ast_base.specs.TypeParts.{named_type}
use Rattle.gql_ast.specs.Schemas.{location_name}
use Rattle.gql_ast.specs.declared.field_definition.EnumValueDefinition.{EnumValueDefinition}
use Rattle.gql_ast.specs.declared.field_definition.FieldDefinition.{FieldDefinition}
use Rattle.gql_ast.specs.declared.schema_definition.DirectiveDefinition.{DirectiveDefinition}
use Rattle.gql_ast.specs.declared.schema_definition.DirectiveLocation.{DirectiveLocation}
use Rattle.gql_client_schema_laws.specs.Answer.{Pairs, text_or_null, kind_among, reference_pairs, deprecation_pairs, is_deprecated, reason_in, list_value, location_value}
use Rattle.gql_client_schema_laws.specs.Parts.{shown_input, shown_field, shown_enum_value, shown_directive}
use Rattle.gql_client_schema_laws.proofs.Given.{field_given, value_given, directive_given}
use Rattle.gql_client_schema_laws.specs.Asked.{asks_nothing, asks_fragment}
use Rattle.gql_client_schema_laws.specs.FullQuery as full
use Rattle.gql_client_schema_laws.specs.Introspection.{required, required_list, row, row_with, RefersAs, HasIntrospection}
use Rattle.gql_client_schema_laws.specs.Whole.{IsFieldKnown, AreArgumentsKnown}
use Rattle.gql_client_schema_laws.proofs.Fits.{word-fits}
use Rattle.gql_client_schema_laws.proofs.Inputs.{input_pairs, inputs-made, same-deprecated}
use Rattle.gql_client_schema_laws.proofs.Leaves.{text-made, text_or_null-made, truth-made, list-made}
use Rattle.gql_client_schema_laws.proofs.Making.{SetMade, GroupMade, EachItem, Run, world, set-made, completes, item-refers}
use Rattle.gql_client_schema_laws.proofs.Objects.{object-made, objects-made}
use Rattle.gql_client_schema_laws.proofs.MadeReferences.{raised}
use Rattle.gql_client_schema_laws.proofs.Sets.{single, defined, groups-asked}
use Rattle.gql_client_schema_laws.proofs.Spread.{Stands, stands-for}
use Rattle.gql_exec.specs.Group.{Group}
use Rattle.gql_introspection.specs.Answers.{text_leaf, truth_leaf}
use Rattle.gql_introspection.specs.Meta.{enum_value_def, field_def, directive_def, input_value_def}
use Rattle.gql_resolvers.specs.Execute.{execute}
use Rattle.gql_resolvers.specs.Spot.{Spot, item_spot}
use Rattle.gql_sdl.specs.declared.shown.ShownDirective.{ShownDirective}
use Rattle.gql_sdl.specs.declared.shown.ShownEnumValue.{ShownEnumValue}
use Rattle.gql_sdl.specs.declared.shown.ShownField.{ShownField}
use Rattle.gql_client_schema_laws.specs.Given.{why}
use Rattle.gql_client_schema_laws.specs.Parts.{said_type}
use Rattle.gql_document_types.specs.Ranks.{AreRanked}
use Rattle.gql_client_schema_laws.specs.Selected.{full_fragments, field_with, selected, definition_in}
use Rattle.gql_schema_types.specs.Types.{type_called, type_name}
use Rattle.gql_schema_types.specs.declared.schema.Schema.{Schema}
use Rattle.gql_schema_types.specs.declared.types.ExtendedType.{ExtendedType}
use Rattle.gql_schema_types.specs.declared.types.ObjectType.{ObjectType}
use Rattle.gql_sdl.specs.declared.shown.ShownType.{ShownType}
use Rattle.gql_source.specs.File.{Files}
use Rattle.jb_tree.specs.declared.value.Value.{Value}
use Rattle.jb_tree.specs.declared.value.Value.TheVariants as json

-- ---- values of enum types

module _ (schema : Schema) (files : Files) (rank : ℕ → ℕ) (ranked : AreRanked (full_fragments schema) rank) (known : HasIntrospection schema) where
  abbrev pub leaf_at : Named → ℕ → List ℕ → Value → GroupMade schema files rank ranked known
  leaf_at ty start name v = (single (field_with schema ty start (start + length name) name false []), v)

  abbrev pub value_pairs : ShownEnumValue → Pairs
  value_pairs value =
      (codes "name", json.String value.name.text) ∷ (codes "description", text_or_null value.description) ∷ deprecation_pairs value.deprecation

  abbrev E : ObjectType
  E = known.value_type.object

  abbrev value_made_rows : Named → ShownEnumValue → List (GroupMade schema files rank ranked known)
  value_made_rows ty value =
      leaf_at ty 548 (codes "name") (json.String value.name.text) ∷ leaf_at ty 553 (codes "description") (text_or_null value.description)
      ∷ leaf_at ty 565 (codes "isDeprecated") (json.Bool (is_deprecated value.deprecation))
      ∷ leaf_at ty 578 (codes "deprecationReason") (text_or_null (reason_in value.deprecation)) ∷ []

  pub value-made : (value : EnumValueDefinition) (d : ℕ) (ty : Named)
      → SetMade schema files rank ranked known (suc d) E (enum_value_def schema value) (selected schema ty full.value_asked ∷ []) (value_pairs (shown_enum_value (why schema) value))
  value-made value d ty =
      let has = known.value_type.fields in
      let named = known.value_type.named in
      let given = value_given schema value in
      let shown = shown_enum_value (why schema) value in
      let run = execute (world schema files rank ranked known) d in
      set-made schema files rank ranked known d E (enum_value_def schema value) (selected schema ty full.value_asked ∷ []) (value_made_rows ty shown)
      (groups-asked schema files rank ranked E ty full.value_asked tt (
        defined schema files rank ranked E (codes "__EnumValue") named _ has.0,
        (
          defined schema files rank ranked E (codes "__EnumValue") named _ has.1.0,
          (
            defined schema files rank ranked E (codes "__EnumValue") named _ has.1.1.0,
            (defined schema files rank ranked E (codes "__EnumValue") named _ has.1.1.1.0, tt),
          ),
        ),
      ))
      (λ outer. (
        text-made schema files rank ranked known run E (codes "__EnumValue") named ty (enum_value_def schema value) outer 548 552 (codes "name") required shown.name.text has.0 (refl, refl) refl given.described.name_given,
        (
          text_or_null-made schema files rank ranked known run E (codes "__EnumValue") named ty (enum_value_def schema value) outer 553 564 (codes "description") shown.description has.1.0 (refl, refl)
              given.described.description_given,
          (
            truth-made schema files rank ranked known run E (codes "__EnumValue") named ty (enum_value_def schema value) outer 565 577 (codes "isDeprecated") required (is_deprecated shown.deprecation) has.1.1.0
                (refl, refl) refl (given.deprecated.deprecated_given ∙ ap (λ b. Some (truth_leaf b)) (same-deprecated shown.deprecation)),
            (
              text_or_null-made schema files rank ranked known run E (codes "__EnumValue") named ty (enum_value_def schema value) outer 578 595 (codes "deprecationReason") (reason_in shown.deprecation) has.1.1.1.0
                  (refl, refl) given.deprecated.reason_given,
              tt,
            ),
          ),
        ),
      ))

  -- ---- places of directives

  places-each : (run : Run schema files rank ranked known) (spot : Spot Group) → RefersAs required_list (codes "__DirectiveLocation") spot.type → (places : List DirectiveLocation)
      → EachItem schema files rank ranked known run spot (map text_leaf (map location_name places)) (map location_value places)
  places-each run spot refers [] = tt
  places-each run spot refers (place ∷ places) = (
    λ i.
        completes schema files rank ranked known run (item_spot spot i) (text_leaf (location_name place)) (location_value place)
        (word-fits schema required (item_spot spot i).type (location_name place) (codes "__DirectiveLocation") _ known.locations
        (item-refers schema files rank ranked known required_list (codes "__DirectiveLocation") spot.type refers refl) refl (known.locations.takes place)) refl,
    places-each run spot refers places,
  )

module _ (schema : Schema) (files : Files) (rank : ℕ → ℕ) (ranked : AreRanked (full_fragments schema) rank) (known : HasIntrospection schema) (types : List ShownType)
    (kinds : (name : List ℕ) (t : ExtendedType) → type_called name schema.types ≡ Some t → kind_among types name ≡ (said_type (why schema) t).kind)
    (names : (name : List ℕ) (t : ExtendedType) → type_called name schema.types ≡ Some t → (type_name t).text ≡ name) where
  -- ---- fields

  abbrev pub field_pairs : ShownField → Pairs
  field_pairs field =
      (codes "name", json.String field.name.text) ∷ (codes "description", text_or_null field.description)
      ∷ (codes "args", list_value (λ input. json.Object (input_pairs schema files rank ranked known types kinds names input)) field.arguments)
      ∷ (codes "type", json.Object (reference_pairs types 8 field.ty)) ∷ deprecation_pairs field.deprecation

  abbrev F : ObjectType
  F = known.field_type.object

  abbrev field_made_rows : Named → ShownField → List (GroupMade schema files rank ranked known)
  field_made_rows ty field =
      leaf_at schema files rank ranked known ty 318 (codes "name") (json.String field.name.text) ∷ leaf_at schema files rank ranked known ty 323 (codes "description") (text_or_null field.description)
      ∷ (
        single (field_with schema ty 335 373 (codes "args") true (selected schema (named_type (definition_in schema ty (codes "args")).ty) (asks_fragment 367 (codes "V") asks_nothing))),
        list_value (λ input. json.Object (input_pairs schema files rank ranked known types kinds names input)) field.arguments,
      )
      ∷ (
        single (field_with schema ty 374 387 (codes "type") false (selected schema (named_type (definition_in schema ty (codes "type")).ty) (asks_fragment 381 (codes "R") asks_nothing))),
        json.Object (reference_pairs types 8 field.ty),
      )
      ∷ leaf_at schema files rank ranked known ty 388 (codes "isDeprecated") (json.Bool (is_deprecated field.deprecation))
      ∷ leaf_at schema files rank ranked known ty 401 (codes "deprecationReason") (text_or_null (reason_in field.deprecation)) ∷ []

  pub field-made : (field : FieldDefinition) → IsFieldKnown schema.types field → (d : ℕ) (ty : Named)
      → SetMade schema files rank ranked known (suc (suc (raised 8 d))) F (field_def schema field) (selected schema ty full.field_asked ∷ []) (field_pairs (shown_field (why schema) field))
  field-made field there d ty =
      let has = known.field_type.fields in
      let named = known.field_type.named in
      let given = field_given schema field in
      let shown = shown_field (why schema) field in
      let reference : Stands schema files rank ranked known types kinds names field.ty = stands-for schema files rank ranked known types kinds names field.ty there.ty in
      let run = execute (world schema files rank ranked known) (suc (raised 8 d)) in
      set-made schema files rank ranked known (suc (raised 8 d)) F (field_def schema field) (selected schema ty full.field_asked ∷ []) (field_made_rows ty shown)
      (groups-asked schema files rank ranked F ty full.field_asked tt (
        defined schema files rank ranked F (codes "__Field") named _ has.0,
        (
          defined schema files rank ranked F (codes "__Field") named _ has.1.0,
          (
            defined schema files rank ranked F (codes "__Field") named _ has.1.1.0,
            (
              defined schema files rank ranked F (codes "__Field") named _ has.1.1.1.0,
              (
                defined schema files rank ranked F (codes "__Field") named _ has.1.1.1.1.0,
                (defined schema files rank ranked F (codes "__Field") named _ has.1.1.1.1.1.0, tt),
              ),
            ),
          ),
        ),
      ))
      (λ outer. (
        text-made schema files rank ranked known run F (codes "__Field") named ty (field_def schema field) outer 318 322 (codes "name") required shown.name.text has.0 (refl, refl) refl given.described.name_given,
        (
          text_or_null-made schema files rank ranked known run F (codes "__Field") named ty (field_def schema field) outer 323 334 (codes "description") shown.description has.1.0 (refl, refl) given.described.description_given,
          (
            objects-made schema files rank ranked known (suc (raised 8 d)) F (codes "__Field") named ty (field_def schema field) outer 335 373 (row_with (codes "args") required_list (codes "__InputValue"))
                (selected schema (named_type (definition_in schema ty (codes "args")).ty) (asks_fragment 367 (codes "V") asks_nothing)) _ (input_value_def schema) (shown_input (why schema))
                (input_pairs schema files rank ranked known types kinds names) field.arguments has.1.1.0 (refl, refl) refl given.arguments known.input_type
                (inputs-made schema files rank ranked known types kinds names field.arguments there.arguments d (named_type (definition_in schema ty (codes "args")).ty) 367),
            (
              object-made schema files rank ranked known (suc (raised 8 d)) F (codes "__Field") named ty (field_def schema field) outer 374 387 (row (codes "type") required (codes "__Type"))
                  (selected schema (named_type (definition_in schema ty (codes "type")).ty) (asks_fragment 381 (codes "R") asks_nothing)) reference.object _ (reference_pairs types 8 shown.ty)
                  has.1.1.1.0 (refl, refl) refl (given.ty ∙ ap Some reference.stands) known.type_type reference.called
                  (reference.made (suc d) (named_type (definition_in schema ty (codes "type")).ty) 381),
              (
                truth-made schema files rank ranked known run F (codes "__Field") named ty (field_def schema field) outer 388 400 (codes "isDeprecated") required (is_deprecated shown.deprecation) has.1.1.1.1.0
                    (refl, refl) refl (given.deprecated.deprecated_given ∙ ap (λ b. Some (truth_leaf b)) (same-deprecated shown.deprecation)),
                (
                  text_or_null-made schema files rank ranked known run F (codes "__Field") named ty (field_def schema field) outer 401 418 (codes "deprecationReason") (reason_in shown.deprecation) has.1.1.1.1.1.0
                      (refl, refl) given.deprecated.reason_given,
                  tt,
                ),
              ),
            ),
          ),
        ),
      ))

  -- ---- directives

  abbrev pub directive_pairs : ShownDirective → Pairs
  directive_pairs directive =
      (codes "name", json.String directive.name.text) ∷ (codes "description", text_or_null directive.description)
      ∷ (codes "isRepeatable", json.Bool directive.is_repeatable) ∷ (codes "locations", list_value location_value directive.locations)
      ∷ (codes "args", list_value (λ input. json.Object (input_pairs schema files rank ranked known types kinds names input)) directive.arguments) ∷ []

  abbrev D : ObjectType
  D = known.directive_type.object

  abbrev directive_made_rows : Named → ShownDirective → List (GroupMade schema files rank ranked known)
  directive_made_rows ty directive =
      leaf_at schema files rank ranked known ty 131 (codes "name") (json.String directive.name.text) ∷ leaf_at schema files rank ranked known ty 136 (codes "description") (text_or_null directive.description)
      ∷ leaf_at schema files rank ranked known ty 148 (codes "isRepeatable") (json.Bool directive.is_repeatable) ∷ leaf_at schema files rank ranked known ty 161 (codes "locations") (list_value location_value directive.locations)
      ∷ (
        single (field_with schema ty 171 209 (codes "args") true (selected schema (named_type (definition_in schema ty (codes "args")).ty) (asks_fragment 203 (codes "V") asks_nothing))),
        list_value (λ input. json.Object (input_pairs schema files rank ranked known types kinds names input)) directive.arguments,
      ) ∷ []

  pub directive-made : (directive : DirectiveDefinition) → AreArgumentsKnown schema.types directive → (d : ℕ) (ty : Named)
      → SetMade schema files rank ranked known (suc (suc (raised 8 d))) D (directive_def schema directive) (selected schema ty full.directive_asked ∷ []) (directive_pairs (shown_directive (why schema) directive))
  directive-made directive there d ty =
      let has = known.directive_type.fields in
      let named = known.directive_type.named in
      let given = directive_given schema directive in
      let shown = shown_directive (why schema) directive in
      let run = execute (world schema files rank ranked known) (suc (raised 8 d)) in
      set-made schema files rank ranked known (suc (raised 8 d)) D (directive_def schema directive) (selected schema ty full.directive_asked ∷ []) (directive_made_rows ty shown)
      (groups-asked schema files rank ranked D ty full.directive_asked tt (
        defined schema files rank ranked D (codes "__Directive") named _ has.0,
        (
          defined schema files rank ranked D (codes "__Directive") named _ has.1.0,
          (
            defined schema files rank ranked D (codes "__Directive") named _ has.1.1.0,
            (
              defined schema files rank ranked D (codes "__Directive") named _ has.1.1.1.0,
              (defined schema files rank ranked D (codes "__Directive") named _ has.1.1.1.1.0, tt),
            ),
          ),
        ),
      ))
      (λ outer. (
        text-made schema files rank ranked known run D (codes "__Directive") named ty (directive_def schema directive) outer 131 135 (codes "name") required shown.name.text has.0 (refl, refl) refl given.described.name_given,
        (
          text_or_null-made schema files rank ranked known run D (codes "__Directive") named ty (directive_def schema directive) outer 136 147 (codes "description") shown.description has.1.0 (refl, refl)
              given.described.description_given,
          (
            truth-made schema files rank ranked known run D (codes "__Directive") named ty (directive_def schema directive) outer 148 160 (codes "isRepeatable") required shown.is_repeatable has.1.1.0 (refl, refl) refl
                given.repeatable,
            (
              list-made schema files rank ranked known run D (codes "__Directive") named ty (directive_def schema directive) outer 161 170 (row (codes "locations") required_list (codes "__DirectiveLocation")) []
                  (map text_leaf (map location_name directive.locations)) (map location_value directive.locations) has.1.1.1.0 (refl, refl) refl given.locations
                  (λ spot refers below. places-each schema files rank ranked known run spot refers directive.locations),
              (
                objects-made schema files rank ranked known (suc (raised 8 d)) D (codes "__Directive") named ty (directive_def schema directive) outer 171 209 (row_with (codes "args") required_list (codes "__InputValue"))
                    (selected schema (named_type (definition_in schema ty (codes "args")).ty) (asks_fragment 203 (codes "V") asks_nothing)) _ (input_value_def schema) (shown_input (why schema))
                    (input_pairs schema files rank ranked known types kinds names) directive.arguments has.1.1.1.1.0 (refl, refl) refl given.arguments known.input_type
                    (inputs-made schema files rank ranked known types kinds names directive.arguments there d (named_type (definition_in schema ty (codes "args")).ty) 203),
                tt,
              ),
            ),
          ),
        ),
      ))
