-- What is made of the schema itself, and of the root of the full query.
use Rattle.std.proofs.Common.{◌≡◌, ℕ, suc, ◌+◌, true, false, if◌then◌else◌, Option, Some, None, is_some, List, [], ◌∷◌, map, codes, refl, sym, ap, ◌∙◌, subst}
use Rattle.std.specs.Prelude.{length}
use Rattle.std.specs.List.{AllByRecursion}
use Rattle.gql_ast_base.specs.Names.{Named}
use Rattle.gql_ast_base.specs.TypeParts.{named_type}
use Rattle.gql_ast.specs.declared.schema_definition.DirectiveDefinition.{DirectiveDefinition}
use Rattle.gql_ast.specs.declared.field_definition.FieldDefinition.{FieldDefinition}
use Rattle.gql_ast_laws.specs.Printed.{from_nowhere}
use Rattle.gql_client_schema_laws.specs.Answer.{Pairs, text_or_null, kind_among, list_value, root_value, root_or_null, schema_value, type_value, directive_value}
use Rattle.gql_client_schema_laws.specs.Parts.{shown_directive}
use Rattle.gql_client_schema_laws.specs.Shown.{Shows, finished}
use Rattle.gql_client_schema_laws.proofs.Given.{schema_given}
use Rattle.gql_exec.specs.Mapped.{mapped}
use Rattle.gql_exec.specs.IntrospectedRequest.{no_field}
use Rattle.gql_exec.specs.Thing.{of_user, of_library}
use Rattle.gql_exec.specs.ThingMeaning.{root_meaning, own_meaning}
use Rattle.gql_exec.specs.Asks.{asked, arguments_at, definition_on}
use Rattle.gql_exec.specs.Group.{Group}
use Rattle.gql_client_schema_laws.specs.Asked.{Asked, asks_nothing, asks_fragment}
use Rattle.gql_client_schema_laws.specs.FullQuery as full
use Rattle.gql_client_schema_laws.specs.Introspection.{Form, plain, required, required_list, row, RefersAs, HasField, HasIntrospection}
use Rattle.gql_client_schema_laws.specs.Whole.{IsWhole, IsRootKnown, AreArgumentsKnown, HasSchemaField}
use Rattle.gql_client_schema_laws.proofs.Forms.{is_many, takes_null}
use Rattle.gql_client_schema_laws.proofs.Leaves.{text_or_null-made, null-made, moved}
use Rattle.gql_client_schema_laws.proofs.Making.{all_made, SetMade, GroupMade, Makes, IsOrdinary, world, set-made, object-completes}
use Rattle.gql_client_schema_laws.proofs.Objects.{object-made, objects-made}
use Rattle.gql_client_schema_laws.proofs.MadeParts.{leaf_at, directive_pairs, directive-made}
use Rattle.gql_client_schema_laws.proofs.MadeReferences.{raised, found}
use Rattle.gql_client_schema_laws.proofs.Sets.{single, defined, groups-asked, asking}
use Rattle.gql_client_schema_laws.proofs.TypeSets.{type_pairs, types-made}
use Rattle.gql_introspection.specs.Meta.{type_def, schema_meta, directive_def}
use Rattle.gql_introspection.specs.MetaMeaning.{meta_row}
use Rattle.gql_introspection.specs.NamedTypes.{root_type, type_or_null}
use Rattle.gql_resolvers.specs.Execute.{Made, execute, groups_made, field_made, then_rest, with_key}
use Rattle.gql_resolvers.specs.Resolved.{answered, gives_object}
use Rattle.gql_resolvers.specs.Spot.{field_spot}
use Rattle.gql_resolvers.specs.Trail.{Trail}
use Rattle.gql_schema_types.specs.MetaFields.{schema_field, named as named_text}
use Rattle.gql_schema_types.specs.Schemas.{field_of, is_query_root}
use Rattle.gql_sdl.specs.declared.shown.ShownSchema.{ShownSchema}
use Rattle.std.specs.Option.{option_map, option_map_or, unwrap_or}
use Rattle.std.specs.Str.{bytes_eq}
use Rattle.gql_client_schema_laws.proofs.Fits.{itself}
use Rattle.gql_client_schema_laws.specs.Given.{why}
use Rattle.gql_client_schema_laws.specs.Parts.{said_type}
use Rattle.gql_document_types.specs.Ranks.{AreRanked}
use Rattle.gql_document_types.specs.declared.selection.Field.{Field}
use Rattle.gql_document_types.specs.declared.selection.Selection.{Selection}
use Rattle.gql_client_schema_laws.specs.Selected.{full_fragments, field_with, selected, definition_in}
use Rattle.gql_schema_types.specs.Types.{type_called, type_name}
use Rattle.gql_schema_types.specs.declared.schema.Schema.{Schema}
use Rattle.gql_schema_types.specs.declared.types.ExtendedType.{ExtendedType}
use Rattle.gql_schema_types.specs.declared.types.ObjectType.{ObjectType}
use Rattle.gql_sdl.specs.declared.shown.ShownType.{ShownType}
use Rattle.gql_source.specs.File.{Files}
use Rattle.jb_tree.specs.declared.value.Value.{Value}
use Rattle.jb_tree.specs.declared.value.Value.TheVariants as json

-- two steps over a list are one
steps : {X Y Z : Type 0} (f : X → Y) (g : Y → Z) (xs : List X) → map g (map f xs) ≡ map (λ x. g (f x)) xs
steps f g [] = refl
steps f g (x ∷ xs) = ap (λ l. g (f x) ∷ l) (steps f g xs)

module _ (schema : Schema) (files : Files) (rank : ℕ → ℕ) (ranked : AreRanked (full_fragments schema) rank) (known : HasIntrospection schema) (types : List ShownType)
    (kinds : (name : List ℕ) (t : ExtendedType) → type_called name schema.types ≡ Some t → kind_among types name ≡ (said_type (why schema) t).kind)
    (names : (name : List ℕ) (t : ExtendedType) → type_called name schema.types ≡ Some t → (type_name t).text ≡ name) where
  abbrev W : ObjectType
  W = known.type_type.object

  abbrev H : ObjectType
  H = known.schema_type.object

  abbrev name_pairs : List ℕ → Pairs
  name_pairs name = (codes "name", json.String name) ∷ []

  -- the name of a type, where nothing else is asked
  name-made : (t : ExtendedType) (d : ℕ) (ty : Named) (start : ℕ) → SetMade schema files rank ranked known (suc d) W (type_def schema t) (selected schema ty (full.root_asked start) ∷ []) (name_pairs (type_name t).text)
  name-made t d ty start =
      set-made schema files rank ranked known d W (type_def schema t) (selected schema ty (full.root_asked start) ∷ []) (leaf_at schema files rank ranked known ty start (codes "name") (json.String (type_name t).text) ∷ [])
      (groups-asked schema files rank ranked W ty (full.root_asked start) tt (defined schema files rank ranked W (codes "__Type") known.type_type.named _ known.type_type.fields.1.0, tt))
      (λ outer. (
        text_or_null-made schema files rank ranked known (execute (world schema files rank ranked known) d) W (codes "__Type") known.type_type.named ty (type_def schema t) outer start (start + length (codes "name")) (codes "name") (Some (type_name t).text)
            known.type_type.fields.1.0 (refl, refl) refl,
        tt,
      ))

  -- ---- roots

  module _ (d : ℕ) (ty : Named) (outer : Trail) (name : List ℕ) (form : Form) (start end inside : ℕ) (has : HasField schema (codes "__Schema") (row name form (codes "__Type")))
      (ordinary : IsOrdinary schema files rank ranked known name) (one : is_many form ≡ false) where
    abbrev root_group : Group
    root_group = single (field_with schema ty start end name false (selected schema (named_type (definition_in schema ty name).ty) (full.root_asked inside)))

    some-root : (root : Named) → is_some (type_called root.text schema.types) ≡ true → meta_row (schema_meta schema) name [] ≡ Some (root_type schema (Some root))
        → Makes schema files rank ranked known (execute (world schema files rank ranked known) (suc d)) H (schema_meta schema) outer root_group (root_value (from_nowhere root))
    some-root root there gives =
        let t = found schema files rank ranked known types kinds names root there in
        subst (λ n. Makes schema files rank ranked known (execute (world schema files rank ranked known) (suc d)) H (schema_meta schema) outer root_group (json.Object (name_pairs n))) (names root.text t.0 t.1)
        (object-made schema files rank ranked known (suc d) H (codes "__Schema") known.schema_type.named ty (schema_meta schema) outer start end (row name form (codes "__Type"))
        (selected schema (named_type (definition_in schema ty name).ty) (full.root_asked inside)) (type_def schema t.0) _ (name_pairs (type_name t.0).text) has ordinary one
        (gives ∙ ap (λ o. Some (type_or_null schema o)) t.1) known.type_type refl (name-made t.0 d (named_type (definition_in schema ty name).ty) inside))

    root-made : takes_null form ≡ true → (root : Option Named) → IsRootKnown schema.types root → meta_row (schema_meta schema) name [] ≡ Some (root_type schema root)
        → Makes schema files rank ranked known (execute (world schema files rank ranked known) (suc d)) H (schema_meta schema) outer root_group (root_or_null (option_map from_nowhere root))
    root-made takes None there gives =
        null-made schema files rank ranked known (execute (world schema files rank ranked known) (suc d)) H (codes "__Schema") known.schema_type.named ty (schema_meta schema) outer start end (row name form (codes "__Type"))
        (selected schema (named_type (definition_in schema ty name).ty) (full.root_asked inside)) has ordinary takes gives
    root-made takes (Some root) there gives = some-root root there gives

  -- ---- directives

  directives-made : (directives : List DirectiveDefinition) → AllByRecursion (AreArgumentsKnown schema.types) directives → (d : ℕ) (ty : Named)
      → AllByRecursion (λ (directive : DirectiveDefinition). (codes "__Directive" ≡ codes "__Directive")
      × SetMade schema files rank ranked known (suc (suc (raised 8 d))) known.directive_type.object (directive_def schema directive) (selected schema ty full.directive_asked ∷ [])
      (directive_pairs schema files rank ranked known types kinds names (shown_directive (why schema) directive))) directives
  directives-made [] there d ty = tt
  directives-made (directive ∷ directives) there d ty = ((refl, directive-made schema files rank ranked known types kinds names directive there.0 d ty), directives-made directives there.1 d ty)

  -- ---- the schema

  module _ (whole : IsWhole schema) (root : Named) (is_root : schema.schema_definition.query ≡ Some root) (shown : ShownSchema) (shows : Shows schema shown) where
    abbrev all_said : List ShownType
    all_said = map (said_type (why schema)) schema.types

    abbrev said_types : List ShownType
    said_types = map (λ (t : ExtendedType). finished all_said (said_type (why schema) t)) schema.types

    abbrev schema_pairs : Pairs
    schema_pairs =
        (codes "description", text_or_null schema.schema_definition.description) ∷ (codes "queryType", root_value (from_nowhere root))
        ∷ (codes "mutationType", root_or_null (option_map from_nowhere schema.schema_definition.mutation))
        ∷ (codes "subscriptionType", root_or_null (option_map from_nowhere schema.schema_definition.subscription))
        ∷ (codes "types", list_value (λ ty. json.Object (type_pairs schema files rank ranked known types kinds names ty)) said_types)
        ∷ (codes "directives", list_value (λ directive. json.Object (directive_pairs schema files rank ranked known types kinds names directive)) (map (shown_directive (why schema)) schema.directive_definitions)) ∷ []

    abbrev within : Named → List ℕ → Asked → List Selection
    within ty name asked = selected schema (named_type (definition_in schema ty name).ty) asked

    abbrev schema_made_rows : Named → List (GroupMade schema files rank ranked known)
    schema_made_rows ty =
        leaf_at schema files rank ranked known ty 24 (codes "description") (text_or_null schema.schema_definition.description)
        ∷ (single (field_with schema ty 36 54 (codes "queryType") false (within ty (codes "queryType") (full.root_asked 48))), root_value (from_nowhere root))
        ∷ (
          single (field_with schema ty 55 76 (codes "mutationType") false (within ty (codes "mutationType") (full.root_asked 70))),
          root_or_null (option_map from_nowhere schema.schema_definition.mutation),
        )
        ∷ (
          single (field_with schema ty 77 102 (codes "subscriptionType") false (within ty (codes "subscriptionType") (full.root_asked 96))),
          root_or_null (option_map from_nowhere schema.schema_definition.subscription),
        )
        ∷ (
          single (field_with schema ty 103 117 (codes "types") false (within ty (codes "types") (asks_fragment 111 (codes "T") asks_nothing))),
          list_value (λ t. json.Object (type_pairs schema files rank ranked known types kinds names t)) said_types,
        )
        ∷ (
          single (field_with schema ty 118 211 (codes "directives") false (within ty (codes "directives") full.directive_asked)),
          list_value (λ directive. json.Object (directive_pairs schema files rank ranked known types kinds names directive)) (map (shown_directive (why schema)) schema.directive_definitions),
        ) ∷ []

    schema-made : (d : ℕ) (ty : Named) → SetMade schema files rank ranked known (suc (suc (suc (suc (raised 8 d))))) H (schema_meta schema) (selected schema ty full.schema_asked ∷ []) schema_pairs
    schema-made d ty =
        let has = known.schema_type.fields in
        let named = known.schema_type.named in
        let given = schema_given schema in
        let run = execute (world schema files rank ranked known) (suc (suc (suc (raised 8 d)))) in
        let depth = suc (suc (raised 8 d)) in
        let query_there = subst (IsRootKnown schema.types) is_root whole.query in
        set-made schema files rank ranked known (suc (suc (suc (raised 8 d)))) H (schema_meta schema) (selected schema ty full.schema_asked ∷ []) (schema_made_rows ty)
        (groups-asked schema files rank ranked H ty full.schema_asked tt (
          defined schema files rank ranked H (codes "__Schema") named _ has.0,
          (
            defined schema files rank ranked H (codes "__Schema") named _ has.1.0,
            (
              defined schema files rank ranked H (codes "__Schema") named _ has.1.1.0,
              (
                defined schema files rank ranked H (codes "__Schema") named _ has.1.1.1.0,
                (
                  defined schema files rank ranked H (codes "__Schema") named _ has.1.1.1.1.0,
                  (defined schema files rank ranked H (codes "__Schema") named _ has.1.1.1.1.1.0, tt),
                ),
              ),
            ),
          ),
        ))
        (λ outer. (
          text_or_null-made schema files rank ranked known run H (codes "__Schema") named ty (schema_meta schema) outer 24 35 (codes "description") schema.schema_definition.description has.0 (refl, refl) given.description,
          (
            some-root depth ty outer (codes "queryType") required 36 54 48 has.1.0 (refl, refl) refl root query_there (given.query ∙ ap (λ o. Some (root_type schema o)) is_root),
            (
              root-made depth ty outer (codes "mutationType") plain 55 76 70 has.1.1.0 (refl, refl) refl refl schema.schema_definition.mutation whole.mutation given.mutation,
              (
                root-made depth ty outer (codes "subscriptionType") plain 77 102 96 has.1.1.1.0 (refl, refl) refl refl schema.schema_definition.subscription whole.subscription given.subscription,
                (
                  objects-made schema files rank ranked known (suc depth) H (codes "__Schema") named ty (schema_meta schema) outer 103 117 (row (codes "types") required_list (codes "__Type"))
                      (within ty (codes "types") (asks_fragment 111 (codes "T") asks_nothing)) _ (type_def schema) (λ (t : ExtendedType). finished all_said (said_type (why schema) t)) (type_pairs schema files rank ranked known types kinds names)
                      schema.types has.1.1.1.1.0 (refl, refl) refl given.types known.type_type
                      (types-made schema files rank ranked known types kinds names whole.first schema.types whole.types d (named_type (definition_in schema ty (codes "types")).ty) 111),
                  (
                    objects-made schema files rank ranked known (suc depth) H (codes "__Schema") named ty (schema_meta schema) outer 118 211 (row (codes "directives") required_list (codes "__Directive"))
                        (within ty (codes "directives") full.directive_asked) _ (directive_def schema) (shown_directive (why schema)) (directive_pairs schema files rank ranked known types kinds names) schema.directive_definitions has.1.1.1.1.1.0
                        (refl, refl) refl given.directives known.directive_type
                        (directives-made schema.directive_definitions whole.directives (suc d) (named_type (definition_in schema ty (codes "directives")).ty)),
                    tt,
                  ),
                ),
              ),
            ),
          ),
        ))

    -- these are the members of what is shown
    unwrapped : (a b : Named) → Some a ≡ Some b → a ≡ b
    unwrapped a b is = cc

    pub schema-shown : types ≡ shown.types → json.Object schema_pairs ≡ schema_value shown
    schema-shown same =
        let query : shown.query ≡ from_nowhere root = unwrapped shown.query (from_nowhere root) (shows.query ∙ ap (option_map from_nowhere) is_root) in
        let listed : said_types ≡ shown.types = sym (steps (said_type (why schema)) (finished all_said) schema.types) ∙ sym shows.types in
        λ i. json.Object (
        (codes "description", text_or_null (sym shows.description i)) ∷ (codes "queryType", root_value (sym query i))
        ∷ (codes "mutationType", root_or_null (sym shows.mutation i)) ∷ (codes "subscriptionType", root_or_null (sym shows.subscription i))
        ∷ (codes "types", list_value (λ ty. type_value (same i) ty) (listed i))
        ∷ (codes "directives", list_value (λ directive. directive_value (same i) directive) (sym shows.directives i)) ∷ [])

    -- ---- the root

    module _ (U : ObjectType) (named : U.name.text ≡ root.text) (own : HasSchemaField schema root) where
      abbrev f : Field
      f = field_with schema root 13 213 (codes "__schema") false (within root (codes "__schema") full.schema_asked)

      definition-is : definition_on schema U f ≡ schema_field
      definition-is =
          ap (λ t. unwrap_or (field_of schema t (codes "__schema")) f.definition) named ∙ ap (λ o. unwrap_or o f.definition) own

      query-root : is_query_root schema.schema_definition U.name.text ≡ true
      query-root =
          ap (λ o. option_map_or (λ (r : Named). bytes_eq U.name.text r.text) o false) is_root ∙ ap (λ t. bytes_eq t root.text) named ∙ itself schema root.text

      asks-schema : (world schema files rank ranked known).asks U (of_user schema tt) (single f) ≡ answered (gives_object (of_library schema (schema_meta schema)))
      asks-schema =
          let r = asking schema files rank ranked in
          ap (λ d. asked r U (of_user schema tt) (codes "__schema") (arguments_at r d f)) definition-is
          ∙ ap (λ b. answered (if b then mapped (of_library schema) (root_meaning schema (codes "__schema") []) else own_meaning no_field schema U (of_user schema tt) (codes "__schema") [])) query-root

      refers : RefersAs required (codes "__Schema") schema_field.ty
      refers = record { name = named_text (codes "__Schema"); is = refl; named = refl }

      pub root-executed : (d : ℕ) (outer : Trail)
          → execute (world schema files rank ranked known) (suc (suc (suc (suc (suc (raised 8 d)))))) U (of_user schema tt) outer (selected schema root full.full_asked ∷ [])
          ≡ all_made ((codes "__schema", json.Object schema_pairs) ∷ [])
      root-executed d outer =
          let depth = suc (suc (suc (suc (raised 8 d)))) in
          let run = execute (world schema files rank ranked known) depth in
          let spot = field_spot (world schema files rank ranked known) U outer (single f) in
          ap (groups_made (world schema files rank ranked known) run U (of_user schema tt) outer)
          (groups-asked schema files rank ranked U root full.full_asked tt (ap (λ t. is_some (field_of schema t (codes "__schema"))) named ∙ ap is_some own, tt))
          ∙ ap (λ (made : Made Value). then_rest (with_key (codes "__schema") made) (all_made []))
          (ap (field_made (world schema files rank ranked known) run spot) asks-schema
          ∙ object-completes schema files rank ranked known depth spot (schema_meta schema) (codes "__Schema") _ required (within root (codes "__schema") full.schema_asked ∷ []) schema_pairs known.schema_type refl
          (moved required (codes "__Schema") schema_field.ty spot.type (ap (λ (d : FieldDefinition). d.ty) definition-is) refers) refl refl
          (schema-made d (named_type (definition_in schema root (codes "__schema")).ty)))
