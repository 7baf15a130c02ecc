-- All that the full query asks for is defined on a schema with introspection.
use Rattle.std.proofs.Common.{◌≡◌, ℕ, zero, suc, ◌+◌, Bool, true, false, ◌&&◌, Some, List, map, codes, refl, sym, ap, ◌∙◌, subst}
use Rattle.std.specs.Option.{option_map_or}
use Rattle.gql_ast_base.specs.Names.{Named}
use Rattle.gql_ast_base.specs.TypeParts.{named_type}
use Rattle.gql_ast.specs.declared.field_definition.FieldDefinition.{FieldDefinition}
use Rattle.gql_document.specs.BuiltSelections.{is_selected_leaf, makes_of}
use Rattle.gql_document.specs.Nodes.{is_nonempty, is_leaf}
use Rattle.gql_client_schema_laws.specs.Asked.{Asked, asks_nothing, asks_fragment, written}
use Rattle.gql_client_schema_laws.specs.bridge.Built.{AreDefinedOn}
use Rattle.gql_client_schema_laws.specs.FullQuery as full
use Rattle.gql_client_schema_laws.specs.Introspection.{required, RefersAs, HasField, HasObject, FieldRow, HasIntrospection}
use Rattle.gql_client_schema_laws.specs.Whole.{HasSchemaField}
use Rattle.gql_client_schema_laws.proofs.Fits.{its_name, its_type}
use Rattle.gql_schema_types.specs.MetaFields.{schema_field, named as named_text}
use Rattle.gql_schema_types.specs.Schemas.{field_of}
use Rattle.gql_schema_types.specs.declared.schema.Schema.{Schema}
use Rattle.gql_schema_types.specs.declared.types.ExtendedType.TheVariants as type

module _ (schema : Schema) where
  -- a field that is defined, with what is asked of it
  abbrev IsDefinedOn : List ℕ → List ℕ → Asked → Type 0
  IsDefinedOn ty name within =
      (definition : FieldDefinition) × (field_of schema ty name ≡ Some definition)
      × (is_selected_leaf schema definition (is_nonempty (map (makes_of schema) (written within))) ≡ false)
      × AreDefinedOn schema (named_type definition.ty).text within

  leaf-defined : (T : List ℕ) (it : FieldRow) → HasField schema T it → IsDefinedOn T it.name asks_nothing
  leaf-defined T it has = (has.definition, has.found, refl, tt)

  and-false : (b : Bool) → (b && false) ≡ false
  and-false true = refl
  and-false false = refl

  deep-defined : (T : List ℕ) (it : FieldRow) (rows : List FieldRow) (within : Asked) → HasField schema T it → HasObject schema it.target rows
      → AreDefinedOn schema it.target within → IsDefinedOn T it.name within
  deep-defined T it rows within has object below = (
    has.definition,
    has.found,
    ap (λ o. is_nonempty (map (makes_of schema) (written within)) && option_map_or is_leaf o false) (its_type schema (Some (type.Object object.object)) has.refers object.called)
        ∙ and-false (is_nonempty (map (makes_of schema) (written within))),
    subst (λ t. AreDefinedOn schema t within) (sym (its_name schema has.refers)) below,
  )

  module _ (known : HasIntrospection schema) where
    levels-defined : (n start : ℕ) → AreDefinedOn schema (codes "__Type") (full.levels_asked start n)
    levels-defined zero start =
        let has = known.type_type.fields in
        (leaf-defined (codes "__Type") _ has.0, (leaf-defined (codes "__Type") _ has.1.0, tt))
    levels-defined (suc n) start =
        let has = known.type_type.fields in (
          leaf-defined (codes "__Type") _ has.0,
          (
            leaf-defined (codes "__Type") _ has.1.0,
            (deep-defined (codes "__Type") _ _ (full.levels_asked (start + 19) n) has.1.1.1.1.1.1.1.1.1.1.0 known.type_type (levels-defined n (start + 19)), tt),
          ),
        )

    pub reference-defined : AreDefinedOn schema (codes "__Type") full.reference_asked
    reference-defined = levels-defined 8 729

    pub input-defined : AreDefinedOn schema (codes "__InputValue") full.input_asked
    input-defined =
        let has = known.input_type.fields in
        let T = codes "__InputValue" in (
          leaf-defined T _ has.0,
          (
            leaf-defined T _ has.1.0,
            (
              deep-defined T _ _ (asks_fragment 653 (codes "R") asks_nothing) has.1.1.0 known.type_type tt,
              (leaf-defined T _ has.1.1.1.0, (leaf-defined T _ has.1.1.1.1.0, (leaf-defined T _ has.1.1.1.1.1.0, tt))),
            ),
          ),
        )

    field-defined : AreDefinedOn schema (codes "__Field") full.field_asked
    field-defined =
        let has = known.field_type.fields in
        let T = codes "__Field" in (
          leaf-defined T _ has.0,
          (
            leaf-defined T _ has.1.0,
            (
              deep-defined T _ _ (asks_fragment 367 (codes "V") asks_nothing) has.1.1.0 known.input_type tt,
              (
                deep-defined T _ _ (asks_fragment 381 (codes "R") asks_nothing) has.1.1.1.0 known.type_type tt,
                (leaf-defined T _ has.1.1.1.1.0, (leaf-defined T _ has.1.1.1.1.1.0, tt)),
              ),
            ),
          ),
        )

    value-defined : AreDefinedOn schema (codes "__EnumValue") full.value_asked
    value-defined =
        let has = known.value_type.fields in
        let T = codes "__EnumValue" in
        (leaf-defined T _ has.0, (leaf-defined T _ has.1.0, (leaf-defined T _ has.1.1.0, (leaf-defined T _ has.1.1.1.0, tt))))

    pub type-defined : AreDefinedOn schema (codes "__Type") full.type_asked
    type-defined =
        let has = known.type_type.fields in
        let T = codes "__Type" in (
          leaf-defined T _ has.0,
          (
            leaf-defined T _ has.1.0,
            (
              leaf-defined T _ has.1.1.0,
              (
                leaf-defined T _ has.1.1.1.0,
                (
                  leaf-defined T _ has.1.1.1.1.0,
                  (
                    deep-defined T _ _ full.field_asked has.1.1.1.1.1.0 known.field_type field-defined,
                    (
                      deep-defined T _ _ (asks_fragment 460 (codes "V") asks_nothing) has.1.1.1.1.1.1.0 known.input_type tt,
                      (
                        deep-defined T _ _ (asks_fragment 480 (codes "R") asks_nothing) has.1.1.1.1.1.1.1.0 known.type_type tt,
                        (
                          deep-defined T _ _ (asks_fragment 503 (codes "R") asks_nothing) has.1.1.1.1.1.1.1.1.0 known.type_type tt,
                          (deep-defined T _ _ full.value_asked has.1.1.1.1.1.1.1.1.1.0 known.value_type value-defined, tt),
                        ),
                      ),
                    ),
                  ),
                ),
              ),
            ),
          ),
        )

    directive-defined : AreDefinedOn schema (codes "__Directive") full.directive_asked
    directive-defined =
        let has = known.directive_type.fields in
        let T = codes "__Directive" in (
          leaf-defined T _ has.0,
          (
            leaf-defined T _ has.1.0,
            (
              leaf-defined T _ has.1.1.0,
              (
                leaf-defined T _ has.1.1.1.0,
                (deep-defined T _ _ (asks_fragment 203 (codes "V") asks_nothing) has.1.1.1.1.0 known.input_type tt, tt),
              ),
            ),
          ),
        )

    root_name-defined : (start : ℕ) → AreDefinedOn schema (codes "__Type") (full.root_asked start)
    root_name-defined start = (leaf-defined (codes "__Type") _ known.type_type.fields.1.0, tt)

    schema-defined : AreDefinedOn schema (codes "__Schema") full.schema_asked
    schema-defined =
        let has = known.schema_type.fields in
        let T = codes "__Schema" in (
          leaf-defined T _ has.0,
          (
            deep-defined T _ _ (full.root_asked 48) has.1.0 known.type_type (root_name-defined 48),
            (
              deep-defined T _ _ (full.root_asked 70) has.1.1.0 known.type_type (root_name-defined 70),
              (
                deep-defined T _ _ (full.root_asked 96) has.1.1.1.0 known.type_type (root_name-defined 96),
                (
                  deep-defined T _ _ (asks_fragment 111 (codes "T") asks_nothing) has.1.1.1.1.0 known.type_type tt,
                  (deep-defined T _ _ full.directive_asked has.1.1.1.1.1.0 known.directive_type directive-defined, tt),
                ),
              ),
            ),
          ),
        )

    refers : RefersAs required (codes "__Schema") schema_field.ty
    refers = record { name = named_text (codes "__Schema"); is = refl; named = refl }

    pub full-defined : (root : Named) → HasSchemaField schema root → AreDefinedOn schema root.text full.full_asked
    full-defined root own = (
      (
        schema_field,
        own,
        ap (λ o. option_map_or is_leaf o false) (its_type schema (Some (type.Object known.schema_type.object)) refers known.schema_type.called),
        subst (λ t. AreDefinedOn schema t full.schema_asked) (sym (its_name schema refers)) schema-defined,
      ),
      tt,
    )
