-- What is made of types.
use Rattle.std.proofs.Common.{◌≡◌, ℕ, suc, Bool, true, false, cond, Option, Some, None, is_some, List, [], ◌∷◌, map, codes, refl, sym, subst}
use Rattle.std.specs.List.{AllByRecursion}
use Rattle.gql_ast_base.specs.Names.{Named}
use Rattle.gql_ast_base.specs.TypeParts.{named_type}
use Rattle.gql_ast_base.specs.declared.type_ref.TypeRef.{TypeRef}
use Rattle.std.proofs.Common.{filter, filter_map}
use Rattle.std.specs.List.{cons_option}
use Rattle.gql_client_schema_laws.specs.Answer.{Pairs, kind_among, reference_pairs, list_value, list_if, truth_if}
use Rattle.gql_client_schema_laws.specs.Given.{if_has, its_reference}
use Rattle.gql_client_schema_laws.specs.Parts.{reference, references}
use Rattle.gql_client_schema_laws.specs.Asked.{asks_nothing, asks_fragment}
use Rattle.gql_client_schema_laws.specs.FullQuery as full
use Rattle.gql_client_schema_laws.specs.Introspection.{plain, required, list, row, RefersAs, HasField, HasObject, FieldRow, HasIntrospection}
use Rattle.gql_client_schema_laws.specs.Whole.{AreNamesKnown, IsFirst}
use Rattle.gql_client_schema_laws.proofs.Arguments.{given}
use Rattle.gql_client_schema_laws.proofs.Forms.{is_many, takes_null}
use Rattle.gql_client_schema_laws.proofs.Leaves.{truth-made, list-made, null-made}
use Rattle.gql_client_schema_laws.proofs.Making.{SetMade, Makes, EachItem, IsOrdinary, the_field, world, object-completes, item-refers}
use Rattle.gql_client_schema_laws.proofs.Objects.{objects-made}
use Rattle.gql_client_schema_laws.proofs.MadeReferences.{raised, type-made}
use Rattle.gql_client_schema_laws.proofs.Sets.{single, reference-body}
use Rattle.gql_client_schema_laws.proofs.Spread.{spread-made}
use Rattle.gql_exec.specs.Group.{Group}
use Rattle.gql_introspection.specs.Answers.{truth_leaf, objects}
use Rattle.gql_introspection.specs.Meta.{Meta, type_def, type_name_of}
use Rattle.gql_introspection.specs.MetaMeaning.{meta_row}
use Rattle.gql_introspection.specs.NamedTypes.{named_types}
use Rattle.gql_resolvers.specs.Execute.{execute}
use Rattle.gql_resolvers.specs.Resolved.{gives_object}
use Rattle.gql_resolvers.specs.Spot.{Spot, item_spot}
use Rattle.gql_resolvers.specs.Trail.{Trail}
use Rattle.gql_client_schema_laws.specs.Given.{why}
use Rattle.gql_client_schema_laws.specs.Parts.{said_type}
use Rattle.gql_document_types.specs.Ranks.{AreRanked}
use Rattle.gql_document_types.specs.declared.selection.Selection.{Selection}
use Rattle.gql_client_schema_laws.specs.Selected.{full_fragments, selected, definition_in}
use Rattle.gql_schema_types.specs.Types.{type_called, type_name}
use Rattle.gql_schema_types.specs.declared.schema.Schema.{Schema}
use Rattle.gql_schema_types.specs.declared.types.ExtendedType.{ExtendedType}
use Rattle.gql_schema_types.specs.declared.types.ObjectType.{ObjectType}
use Rattle.gql_sdl.specs.declared.shown.ShownType.{ShownType}
use Rattle.gql_source.specs.File.{Files}
use Rattle.jb_tree.specs.declared.value.Value.{Value}
use Rattle.jb_tree.specs.declared.value.Value.TheVariants as json

module _ (schema : Schema) (files : Files) (rank : ℕ → ℕ) (ranked : AreRanked (full_fragments schema) rank) (known : HasIntrospection schema) (types : List ShownType)
    (kinds : (name : List ℕ) (t : ExtendedType) → type_called name schema.types ≡ Some t → kind_among types name ≡ (said_type (why schema) t).kind)
    (names : (name : List ℕ) (t : ExtendedType) → type_called name schema.types ≡ Some t → (type_name t).text ≡ name) where
  abbrev W : ObjectType
  W = known.type_type.object

  abbrev R : Named → ℕ → List (List Selection)
  R ty start = selected schema ty (asks_fragment start (codes "R") asks_nothing) ∷ []

  -- a type that is found by its name, as a reference to it is shown
  found-made : (name : Named) (t : ExtendedType) → type_called name.text schema.types ≡ Some t → (d : ℕ) (ty : Named) (start : ℕ)
      → SetMade schema files rank ranked known (raised 8 d) W (type_def schema t) (R ty start) (reference_pairs types 8 (reference name))
  found-made name t is d ty start =
      spread-made schema files rank ranked known (raised 7 d) W (type_def schema t) ty start (codes "R") (selected schema full.reference_fragment.type_condition full.reference_asked)
      (reference_pairs types 8 (reference name)) (reference-body schema files rank ranked W known.type_type.named) (type-made schema files rank ranked known types kinds names 8 name t is d 729 full.reference_fragment.type_condition)

  -- ---- lists of references

  module _ (d : ℕ) (ty : Named) (start : ℕ) where
    abbrev reference_value : TypeRef → Value
    reference_value it = json.Object (reference_pairs types 8 it)

    named-each : (spot : Spot Group) → RefersAs list (codes "__Type") spot.type → spot.group.pieces ≡ R ty start → (names_of : List Named) → AreNamesKnown schema.types names_of
        → EachItem schema files rank ranked known (execute (world schema files rank ranked known) (raised 8 d)) spot
        (map gives_object (map (type_def schema) (filter_map (λ (name : Named). type_called name.text schema.types) names_of))) (map reference_value (references names_of))
    named-each spot refers below [] there = tt
    named-each spot refers below (name ∷ rest) there = by (type_called name.text schema.types) refl there.0 (named-each spot refers below rest there.1)
      where
        by : (o : Option ExtendedType) → type_called name.text schema.types ≡ o → is_some o ≡ true
            → EachItem schema files rank ranked known (execute (world schema files rank ranked known) (raised 8 d)) spot
            (map gives_object (map (type_def schema) (filter_map (λ (n : Named). type_called n.text schema.types) rest))) (map reference_value (references rest))
            → EachItem schema files rank ranked known (execute (world schema files rank ranked known) (raised 8 d)) spot (map gives_object (map (type_def schema) (cons_option o (filter_map (λ (n : Named). type_called n.text schema.types) rest)))) (map reference_value (references (name ∷ rest)))
        by None is some later = absurd (let e : false ≡ true = some in cc)
        by (Some t) is some later = (
          λ i.
              object-completes schema files rank ranked known (raised 8 d) (item_spot spot i) (type_def schema t) (codes "__Type") _ required (R ty start) (reference_pairs types 8 (reference name)) known.type_type refl
              (item-refers schema files rank ranked known list (codes "__Type") spot.type refers refl) refl below (found-made name t is d ty start),
          later,
        )

  abbrev EachMade : ℕ → Named → ℕ → List ExtendedType → Type 0
  EachMade d ty start ts =
      AllByRecursion (λ t. (type_name_of (type_def schema t) ≡ codes "__Type")
      × SetMade schema files rank ranked known (raised 8 d) W (type_def schema t) (R ty start) (reference_pairs types 8 (its_reference schema t))) ts

  pub first-kept : (keeps : ExtendedType → Bool) (ts : List ExtendedType) → AllByRecursion (IsFirst schema.types) ts → (d : ℕ) (ty : Named) (start : ℕ)
      → AllByRecursion (λ t. (type_name_of (type_def schema t) ≡ codes "__Type")
      × SetMade schema files rank ranked known (raised 8 d) W (type_def schema t) (R ty start) (reference_pairs types 8 (its_reference schema t))) (filter keeps ts)
  first-kept keeps [] first d ty start = tt
  first-kept keeps (t ∷ ts) first d ty start = by (keeps t) (first-kept keeps ts first.1 d ty start)
    where
      by : (b : Bool) → EachMade d ty start (filter keeps ts) → EachMade d ty start (cond b (t ∷ filter keeps ts) (filter keeps ts))
      by true rest = ((refl, found-made (type_name t) t first.0 d ty start), rest)
      by false rest = rest

  -- ---- parts that only some kinds have

  module _ (d : ℕ) (ty : Named) (t : ExtendedType) (outer : Trail) where
    abbrev run_made : Group → Value → Type 0
    run_made g v = Makes schema files rank ranked known (execute (world schema files rank ranked known) (suc (suc (raised 8 d)))) W (type_def schema t) outer g v

    -- objects, or null where the kind has none
    pub some-made : {X Y : Type 0} (has : Bool) (start end : ℕ) (it : FieldRow) (within : List Selection) (rows : List FieldRow) (shows : X → Meta) (said : X → Y) (pairs : Y → Pairs) (xs : List X)
        → (ys : List Y) → ys ≡ map said xs → HasField schema (codes "__Type") it → IsOrdinary schema files rank ranked known it.name → is_many it.form ≡ true → takes_null it.form ≡ true
        → meta_row (type_def schema t) it.name (given it.deprecated) ≡ Some (if_has has (objects (map shows xs))) → (object : HasObject schema it.target rows)
        → AllByRecursion (λ x. (type_name_of (shows x) ≡ it.target) × SetMade schema files rank ranked known (suc (suc (raised 8 d))) object.object (shows x) (within ∷ []) (pairs (said x))) xs
        → run_made (single (the_field schema files rank ranked known ty start end it within)) (list_if has (λ y. json.Object (pairs y)) ys)
    some-made true start end it within rows shows said pairs xs ys same field ordinary many takes gives object all =
        subst (λ l. run_made (single (the_field schema files rank ranked known ty start end it within)) (list_value (λ y. json.Object (pairs y)) l)) (sym same)
        (objects-made schema files rank ranked known (suc (suc (raised 8 d))) W (codes "__Type") known.type_type.named ty (type_def schema t) outer start end it within rows shows said pairs xs field ordinary many gives object all)
    some-made false start end it within rows shows said pairs xs ys same field ordinary many takes gives object all =
        null-made schema files rank ranked known (execute (world schema files rank ranked known) (suc (suc (raised 8 d)))) W (codes "__Type") known.type_type.named ty (type_def schema t) outer start end it within field ordinary takes gives

    -- references, or null where the kind has none
    pub named-made : (has : Bool) (start end inside : ℕ) (name : List ℕ) (names_of : List Named) (shown : List TypeRef) → shown ≡ references names_of
        → HasField schema (codes "__Type") (row name list (codes "__Type")) → IsOrdinary schema files rank ranked known name → AreNamesKnown schema.types names_of
        → meta_row (type_def schema t) name [] ≡ Some (if_has has (named_types schema names_of))
        → run_made
        (single (the_field schema files rank ranked known ty start end (row name list (codes "__Type")) (selected schema (named_type (definition_in schema ty name).ty) (asks_fragment inside (codes "R") asks_nothing))))
        (list_if has (λ it. json.Object (reference_pairs types 8 it)) shown)
    named-made true start end inside name names_of shown same field ordinary there gives =
        let within = selected schema (named_type (definition_in schema ty name).ty) (asks_fragment inside (codes "R") asks_nothing) in
        subst (λ l. run_made (single (the_field schema files rank ranked known ty start end (row name list (codes "__Type")) within)) (list_value (λ it. json.Object (reference_pairs types 8 it)) l)) (sym same)
        (list-made schema files rank ranked known (execute (world schema files rank ranked known) (suc (suc (raised 8 d)))) W (codes "__Type") known.type_type.named ty (type_def schema t) outer start end (row name list (codes "__Type")) within
        (map gives_object (map (type_def schema) (filter_map (λ (n : Named). type_called n.text schema.types) names_of)))
        (map (λ it. json.Object (reference_pairs types 8 it)) (references names_of)) field ordinary refl gives
        (λ spot refers below. named-each (suc (suc d)) (named_type (definition_in schema ty name).ty) inside spot refers below names_of there))
    named-made false start end inside name names_of shown same field ordinary there gives =
        null-made schema files rank ranked known (execute (world schema files rank ranked known) (suc (suc (raised 8 d)))) W (codes "__Type") known.type_type.named ty (type_def schema t) outer start end (row name list (codes "__Type"))
        (selected schema (named_type (definition_in schema ty name).ty) (asks_fragment inside (codes "R") asks_nothing)) field ordinary refl gives

    pub truth_or_null-made : (has truth : Bool) (start end : ℕ) (name : List ℕ) → HasField schema (codes "__Type") (row name plain (codes "Boolean")) → IsOrdinary schema files rank ranked known name
        → meta_row (type_def schema t) name [] ≡ Some (if_has has (truth_leaf truth))
        → run_made (single (the_field schema files rank ranked known ty start end (row name plain (codes "Boolean")) [])) (truth_if has truth)
    truth_or_null-made true truth start end name field ordinary gives =
        truth-made schema files rank ranked known (execute (world schema files rank ranked known) (suc (suc (raised 8 d)))) W (codes "__Type") known.type_type.named ty (type_def schema t) outer start end name plain truth field ordinary refl gives
    truth_or_null-made false truth start end name field ordinary gives =
        null-made schema files rank ranked known (execute (world schema files rank ranked known) (suc (suc (raised 8 d)))) W (codes "__Type") known.type_type.named ty (type_def schema t) outer start end (row name plain (codes "Boolean")) [] field ordinary refl gives
