-- What is made of an input value.
use Rattle.std.proofs.Common.{◌≡◌, ℕ, suc, ◌+◌, true, false, Option, Some, None, is_some, List, [], ◌∷◌, codes, refl, ap, ◌∙◌}
use Rattle.std.specs.Prelude.{length}
use Rattle.std.specs.List.{AllByRecursion}
use Rattle.gql_ast_base.specs.Names.{Named}
use Rattle.gql_ast_base.specs.TypeParts.{named_type}
use Rattle.gql_ast.specs.declared.field_definition.InputValueDefinition.{InputValueDefinition}
use Rattle.gql_client_schema_laws.specs.Answer.{Pairs, text_or_null, kind_among, reference_pairs, deprecation_pairs, is_deprecated, reason_in}
use Rattle.gql_client_schema_laws.specs.Parts.{shown_input}
use Rattle.gql_client_schema_laws.proofs.Given.{input_given}
use Rattle.gql_client_schema_laws.specs.Asked.{asks_nothing, asks_fragment}
use Rattle.gql_client_schema_laws.specs.FullQuery as full
use Rattle.gql_client_schema_laws.specs.Introspection.{required, row, HasIntrospection}
use Rattle.gql_client_schema_laws.proofs.Leaves.{text-made, text_or_null-made, truth-made}
use Rattle.gql_client_schema_laws.proofs.Making.{SetMade, GroupMade, world, set-made}
use Rattle.gql_client_schema_laws.proofs.Objects.{object-made}
use Rattle.gql_client_schema_laws.proofs.MadeReferences.{raised}
use Rattle.gql_client_schema_laws.proofs.Sets.{single, defined, groups-asked, input-body}
use Rattle.gql_client_schema_laws.proofs.Spread.{Stands, stands-for, spread-made}
use Rattle.gql_introspection.specs.Answers.{truth_leaf}
use Rattle.gql_introspection.specs.Meta.{input_value_def}
use Rattle.gql_resolvers.specs.Execute.{execute}
use Rattle.gql_sdl.specs.declared.shown.Deprecation.{Deprecation}
use Rattle.gql_sdl.specs.declared.shown.ShownInput.{ShownInput}
use Rattle.gql_client_schema_laws.specs.Given.{why}
use Rattle.gql_client_schema_laws.specs.Parts.{said_type}
use Rattle.gql_document_types.specs.Ranks.{AreRanked}
use Rattle.gql_client_schema_laws.specs.Selected.{full_fragments, field_with, selected, definition_in}
use Rattle.gql_schema_types.specs.Types.{type_called, type_name}
use Rattle.gql_schema_types.specs.declared.schema.Schema.{Schema}
use Rattle.gql_schema_types.specs.declared.types.ExtendedType.{ExtendedType}
use Rattle.gql_schema_types.specs.declared.types.ObjectType.{ObjectType}
use Rattle.gql_sdl.specs.declared.shown.ShownType.{ShownType}
use Rattle.gql_source.specs.File.{Files}
use Rattle.jb_tree.specs.declared.value.Value.{Value}
use Rattle.jb_tree.specs.declared.value.Value.TheVariants as json

-- whether it is deprecated, as it is shown
pub same-deprecated : (found : Option Deprecation) → is_some found ≡ is_deprecated found
same-deprecated None = refl
same-deprecated (Some deprecation) = refl

module _ (schema : Schema) (files : Files) (rank : ℕ → ℕ) (ranked : AreRanked (full_fragments schema) rank) (known : HasIntrospection schema) (types : List ShownType)
    (kinds : (name : List ℕ) (t : ExtendedType) → type_called name schema.types ≡ Some t → kind_among types name ≡ (said_type (why schema) t).kind)
    (names : (name : List ℕ) (t : ExtendedType) → type_called name schema.types ≡ Some t → (type_name t).text ≡ name) where
  abbrev pub input_pairs : ShownInput → Pairs
  input_pairs input =
      (codes "name", json.String input.name.text) ∷ (codes "description", text_or_null input.description)
      ∷ (codes "type", json.Object (reference_pairs types 8 input.ty)) ∷ (codes "defaultValue", text_or_null input.default_value)
      ∷ deprecation_pairs input.deprecation

  abbrev I : ObjectType
  I = known.input_type.object

  abbrev leaf_at : Named → ℕ → List ℕ → Value → GroupMade schema files rank ranked known
  leaf_at ty start name v = (single (field_with schema ty start (start + length name) name false []), v)

  abbrev input_rows : Named → ShownInput → List (GroupMade schema files rank ranked known)
  input_rows ty input =
      leaf_at ty 629 (codes "name") (json.String input.name.text) ∷ leaf_at ty 634 (codes "description") (text_or_null input.description)
      ∷ (
        single (field_with schema ty 646 659 (codes "type") false (selected schema (named_type (definition_in schema ty (codes "type")).ty) (asks_fragment 653 (codes "R") asks_nothing))),
        json.Object (reference_pairs types 8 input.ty),
      )
      ∷ leaf_at ty 660 (codes "defaultValue") (text_or_null input.default_value) ∷ leaf_at ty 673 (codes "isDeprecated") (json.Bool (is_deprecated input.deprecation))
      ∷ leaf_at ty 686 (codes "deprecationReason") (text_or_null (reason_in input.deprecation)) ∷ []

  pub input-made : (value : InputValueDefinition) → is_some (type_called (named_type value.ty).text schema.types) ≡ true → (d : ℕ) (ty : Named)
      → SetMade schema files rank ranked known (suc (raised 8 d)) I (input_value_def schema value) (selected schema ty full.input_asked ∷ []) (input_pairs (shown_input (why schema) value))
  input-made value there d ty =
      let has = known.input_type.fields in
      let named = known.input_type.named in
      let given = input_given schema value in
      let shown = shown_input (why schema) value in
      let reference : Stands schema files rank ranked known types kinds names value.ty = stands-for schema files rank ranked known types kinds names value.ty there in
      let run = execute (world schema files rank ranked known) (raised 8 d) in
      set-made schema files rank ranked known (raised 8 d) I (input_value_def schema value) (selected schema ty full.input_asked ∷ []) (input_rows ty shown)
      (groups-asked schema files rank ranked I ty full.input_asked tt (
        defined schema files rank ranked I (codes "__InputValue") named _ has.0,
        (
          defined schema files rank ranked I (codes "__InputValue") named _ has.1.0,
          (
            defined schema files rank ranked I (codes "__InputValue") named _ has.1.1.0,
            (
              defined schema files rank ranked I (codes "__InputValue") named _ has.1.1.1.0,
              (
                defined schema files rank ranked I (codes "__InputValue") named _ has.1.1.1.1.0,
                (defined schema files rank ranked I (codes "__InputValue") named _ has.1.1.1.1.1.0, tt),
              ),
            ),
          ),
        ),
      ))
      (λ outer. (
        text-made schema files rank ranked known run I (codes "__InputValue") named ty (input_value_def schema value) outer 629 633 (codes "name") required shown.name.text has.0 (refl, refl) refl given.described.name_given,
        (
          text_or_null-made schema files rank ranked known run I (codes "__InputValue") named ty (input_value_def schema value) outer 634 645 (codes "description") shown.description has.1.0 (refl, refl) given.described.description_given,
          (
            object-made schema files rank ranked known (raised 8 d) I (codes "__InputValue") named ty (input_value_def schema value) outer 646 659 (row (codes "type") required (codes "__Type"))
                (selected schema (named_type (definition_in schema ty (codes "type")).ty) (asks_fragment 653 (codes "R") asks_nothing)) reference.object _ (reference_pairs types 8 shown.ty)
                has.1.1.0 (refl, refl) refl (given.ty ∙ ap Some reference.stands) known.type_type reference.called (reference.made d (named_type (definition_in schema ty (codes "type")).ty) 653),
            (
              text_or_null-made schema files rank ranked known run I (codes "__InputValue") named ty (input_value_def schema value) outer 660 672 (codes "defaultValue") shown.default_value has.1.1.1.0 (refl, refl) given.default,
              (
                truth-made schema files rank ranked known run I (codes "__InputValue") named ty (input_value_def schema value) outer 673 685 (codes "isDeprecated") required (is_deprecated shown.deprecation) has.1.1.1.1.0
                    (refl, refl) refl (given.deprecated.deprecated_given ∙ ap (λ b. Some (truth_leaf b)) (same-deprecated shown.deprecation)),
                (
                  text_or_null-made schema files rank ranked known run I (codes "__InputValue") named ty (input_value_def schema value) outer 686 703 (codes "deprecationReason") (reason_in shown.deprecation) has.1.1.1.1.1.0
                      (refl, refl) given.deprecated.reason_given,
                  tt,
                ),
              ),
            ),
          ),
        ),
      ))

  -- where the fragment is spread
  pub inputs-made : (values : List InputValueDefinition) → AllByRecursion (λ (value : InputValueDefinition). is_some (type_called (named_type value.ty).text schema.types) ≡ true) values
      → (d : ℕ) (ty : Named) (start : ℕ)
      → AllByRecursion (λ (value : InputValueDefinition). (codes "__InputValue" ≡ codes "__InputValue")
      × SetMade schema files rank ranked known (suc (raised 8 d)) I (input_value_def schema value) (selected schema ty (asks_fragment start (codes "V") asks_nothing) ∷ []) (input_pairs (shown_input (why schema) value))) values
  inputs-made [] there d ty start = tt
  inputs-made (value ∷ values) there d ty start = (
    (
      refl,
      spread-made schema files rank ranked known (raised 8 d) I (input_value_def schema value) ty start (codes "V") (selected schema full.input_fragment.type_condition full.input_asked)
          (input_pairs (shown_input (why schema) value)) (input-body schema files rank ranked I known.input_type.named) (input-made value there.0 d full.input_fragment.type_condition),
    ),
    inputs-made values there.1 d ty start,
  )
