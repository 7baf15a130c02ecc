-- What is made of the fields of an object of introspection, each by itself.
use Rattle.std.proofs.Common.{◌≡◌, ℕ, suc, ◌+◌, true, false, ◌||◌, ◌&&◌, if◌then◌else◌, Some, None, List, [], ◌∷◌, map, codes, refl, ap, ◌∙◌}
use Rattle.std.specs.Prelude.{length}
use Rattle.std.specs.List.{AllByRecursion}
use Rattle.std.specs.Option.{option_and_then, unwrap_or}
use Rattle.std.specs.Str.{bytes_eq}
use Rattle.gql_ast_base.specs.Names.{Named}
use Rattle.gql_ast_base.specs.declared.type_ref.TypeRef.{TypeRef}
use Rattle.gql_ast.specs.declared.field_definition.FieldDefinition.{FieldDefinition}
use Rattle.gql_client_schema_laws.specs.Answer.{Pairs}
use Rattle.gql_document_types.specs.Ranks.{AreRanked}
use Rattle.gql_document_types.specs.declared.selection.Field.{Field}
use Rattle.gql_document_types.specs.declared.selection.Selection.{Selection}
use Rattle.gql_exec.specs.Mapped.{mapped, all_mapped}
use Rattle.gql_exec.specs.Thing.{Thing, of_library}
use Rattle.gql_exec.specs.Asks.{definition_on, arguments_at, asked}
use Rattle.gql_exec.specs.Group.{Group}
use Rattle.gql_client_schema_laws.specs.Introspection.{Form, required, RefersAs, HasObject, FieldRow, HasField, HasIntrospection}
use Rattle.gql_client_schema_laws.specs.Selected.{field_with, full_fragments}
use Rattle.gql_client_schema_laws.proofs.Arguments.{given, given-arguments}
use Rattle.gql_client_schema_laws.proofs.Fits.{list-fits, object-fits}
use Rattle.gql_client_schema_laws.proofs.Forms.{is_many, item-formed}
use Rattle.gql_client_schema_laws.proofs.Sets.{single, asking, w}
use Rattle.gql_introspection.specs.Answers.{all_of}
use Rattle.gql_introspection.specs.Meta.{Meta, type_name_of}
use Rattle.gql_exec.specs.ThingMeaning.{root_meaning}
use Rattle.gql_introspection.specs.MetaMeaning.{meta_row, meta_meaning, or_unknown}
use Rattle.gql_resolvers.specs.Execute.{Made, Member, groups_made, execute, completed, settled, value_made, items_made, field_made, unless_misfit, then_rest, then_rest_of, with_key, one_array, one_object, object_made}
use Rattle.gql_resolvers.specs.Resolved.{Meaning, answered, gives_leaf, gives_object, gives_list}
use Rattle.gql_resolvers.specs.Spot.{Spot, trail, item_spot, field_spot}
use Rattle.gql_resolvers.specs.Trail.{Trail}
use Rattle.gql_resolvers.specs.Types.{item_type}
use Rattle.gql_resolvers.specs.World.{World, key_of}
use Rattle.gql_resolvers.specs.Fit.{object_misfit}
use Rattle.gql_schema_types.specs.Schemas.{field_of, object_of, is_query_root}
use Rattle.gql_schema_types.specs.Types.{as_object}
use Rattle.gql_schema_types.specs.declared.schema.Schema.{Schema}
use Rattle.gql_schema_types.specs.declared.types.ObjectType.{ObjectType}
use Rattle.gql_source.specs.File.{Files}
use Rattle.jb_tree.specs.declared.value.Value.{Value}
use Rattle.jb_tree.specs.declared.value.Value.TheVariants as json

abbrev pub Sets : Type 0
Sets = List (List Selection)

-- made without an error
abbrev pub all_made : {A : Type 0} → List A → Made A
all_made xs = (Some xs, [])

module _ (schema : Schema) (files : Files) (rank : ℕ → ℕ) (ranked : AreRanked (full_fragments schema) rank) (known : HasIntrospection schema) where
  abbrev pub world : World (Thing (Unit {0})) ObjectType Group Sets
  world = w schema files rank ranked

  abbrev pub Run : Type 0
  Run = ObjectType → Thing (Unit {0}) → Trail → Sets → Made Member

  abbrev pub thing : Meta → Thing (Unit {0})
  thing object = of_library schema object

  abbrev pub meant : Meaning Meta → Meaning (Thing (Unit {0}))
  meant m = mapped (of_library schema) m

  -- ---- places

  -- an answer is completed to one value without an error
  abbrev pub Completes : Run → Spot Group → Meaning Meta → Value → Type 0
  Completes run spot m v = completed world run spot (meant m) ≡ all_made (v ∷ [])

  pub completes : (run : Run) (spot : Spot Group) (m : Meaning Meta) (v : Value) → world.misfit spot.type (meant m) ≡ None
      → value_made world run spot (meant m) ≡ all_made (v ∷ []) → Completes run spot m v
  completes run spot m v fits made =
      ap (λ o. settled spot (unless_misfit world spot o (value_made world run spot (meant m)))) fits
      ∙ ap (settled spot) made

  -- the field of a group is answered, and that is completed to one value
  abbrev pub Makes : Run → ObjectType → Meta → Trail → Group → Value → Type 0
  Makes run U object outer g v =
      field_made world run (field_spot world U outer g) (world.asks U (thing object) g) ≡ all_made (v ∷ [])

  -- ---- sets

  abbrev pub GroupMade : Type 0
  GroupMade = Group × Value

  abbrev pub its_group : GroupMade → Group
  its_group row = row.0

  abbrev pub its_pair : GroupMade → Member
  its_pair row = (key_of world row.0, row.1)

  pub groups-made : (run : Run) (U : ObjectType) (object : Meta) (outer : Trail) (rows : List GroupMade) → AllByRecursion (λ row. Makes run U object outer row.0 row.1) rows
      → groups_made world run U (thing object) outer (map its_group rows) ≡ all_made (map its_pair rows)
  groups-made run U object outer [] all = refl
  groups-made run U object outer (row ∷ rows) all =
      ap (λ (made : Made Value). then_rest (with_key (key_of world row.0) made)
      (groups_made world run U (thing object) outer (map its_group rows))) all.0
      ∙ ap (λ (rest : Made Member). then_rest_of (Some (its_pair row ∷ [])) [] rest) (groups-made run U object outer rows all.1)

  -- a set on an object, to a depth
  abbrev pub SetMade : ℕ → ObjectType → Meta → Sets → Pairs → Type 0
  SetMade depth U object sets pairs =
      (outer : Trail) → execute world depth U (thing object) outer sets ≡ all_made pairs

  pub set-made : (d : ℕ) (U : ObjectType) (object : Meta) (sets : Sets) (rows : List GroupMade) → world.groups U sets ≡ map its_group rows
      → ((outer : Trail) → AllByRecursion (λ row. Makes (execute world d) U object outer row.0 row.1) rows)
      → SetMade (suc d) U object sets (map its_pair rows)
  set-made d U object sets rows groups all outer =
      ap (groups_made world (execute world d) U (thing object) outer) groups
      ∙ groups-made (execute world d) U object outer rows (all outer)

  -- ---- fields

  -- a name that begins like no field that execution answers by itself
  abbrev pub IsOrdinary : List ℕ → Type 0
  IsOrdinary name = (bytes_eq name (codes "__typename") ≡ false) × ((bytes_eq name (codes "__schema") || bytes_eq name (codes "__type")) ≡ false)

  abbrev pub the_field : Named → ℕ → ℕ → FieldRow → List Selection → Field
  the_field ty start end it within = field_with schema ty start end it.name it.deprecated within

  definition-is : (U : ObjectType) (T : List ℕ) (ty : Named) (start end : ℕ) (it : FieldRow) (within : List Selection) → U.name.text ≡ T → (has : HasField schema T it)
      → definition_on schema U (the_field ty start end it within) ≡ has.definition
  definition-is U T ty start end it within named has =
      ap (λ t. unwrap_or (field_of schema t it.name) (the_field ty start end it within).definition) named
      ∙ ap (λ o. unwrap_or o (the_field ty start end it within).definition) has.found

  -- the field is asked with its arguments, and answers as its object's row says
  asks-answered : (U : ObjectType) (T : List ℕ) (ty : Named) (start end : ℕ) (it : FieldRow) (within : List Selection) (object : Meta) (m : Meaning Meta) → U.name.text ≡ T
      → HasField schema T it → IsOrdinary it.name → meta_row object it.name (given it.deprecated) ≡ Some m
      → world.asks U (thing object) (single (the_field ty start end it within)) ≡ answered (meant m)
  asks-answered U T ty start end it within object m named has ordinary row =
      let f = the_field ty start end it within in
      let r = asking schema files rank ranked in
      ap (λ d. asked r U (thing object) it.name (arguments_at r d f)) (definition-is U T ty start end it within named has)
      ∙ ap (asked r U (thing object) it.name) (given-arguments schema known.truths it.deprecated (start + length it.name + 1) has.definition.arguments has.takes)
      ∙ ap (λ b. answered (if b then gives_leaf (json.String U.name.text) else r.answers U (thing object) it.name (given it.deprecated))) ordinary.0
      ∙ not-root ordinary.1
      ∙ ap (λ o. answered (meant (or_unknown o object it.name))) row
    where
      not-root : (bytes_eq it.name (codes "__schema") || bytes_eq it.name (codes "__type")) ≡ false
          → answered ((asking schema files rank ranked).answers U (thing object) it.name (given it.deprecated))
          ≡ answered (meant (or_unknown (meta_row object it.name (given it.deprecated)) object it.name))
      not-root none =
          ap (λ b. answered (if b && is_query_root schema.schema_definition U.name.text
          then mapped (of_library schema) (root_meaning schema it.name (given it.deprecated)) else meant (meta_meaning object it.name (given it.deprecated)))) none

  pub field-makes : (run : Run) (U : ObjectType) (T : List ℕ) (ty : Named) (start end : ℕ) (it : FieldRow) (within : List Selection) (object : Meta) (m : Meaning Meta) (v : Value)
      → (outer : Trail) → U.name.text ≡ T → (has : HasField schema T it) → IsOrdinary it.name → meta_row object it.name (given it.deprecated) ≡ Some m
      → ((spot : Spot Group) → spot.type ≡ has.definition.ty → spot.group ≡ single (the_field ty start end it within) → Completes run spot m v)
      → Makes run U object outer (single (the_field ty start end it within)) v
  field-makes run U T ty start end it within object m v outer named has ordinary row done =
      let g = single (the_field ty start end it within) in
      let spot = field_spot world U outer g in
      ap (field_made world run spot) (asks-answered U T ty start end it within object m named has ordinary row)
      ∙ done spot (ap (λ (d : FieldDefinition). d.ty) (definition-is U T ty start end it within named has)) refl

  -- ---- objects

  pub type-is : (object : Meta) (T : List ℕ) (rows : List FieldRow) (has : HasObject schema T rows) → type_name_of object ≡ T
      → world.type_of (thing object) ≡ Some has.object
  type-is object T rows has named = ap (object_of schema) named ∙ ap (option_and_then as_object) has.called

  -- an object at a place whose type is not a list
  pub object-completes : (d : ℕ) (spot : Spot Group) (object : Meta) (T : List ℕ) (rows : List FieldRow) (form : Form) (sets : Sets) (pairs : Pairs)
      → (has : HasObject schema T rows) → type_name_of object ≡ T → RefersAs form T spot.type → is_many form ≡ false → spot.group.pieces ≡ sets
      → SetMade d has.object object sets pairs
      → Completes (execute world d) spot (gives_object object) (json.Object pairs)
  object-completes d spot object T rows form sets pairs has named refers single_one below made =
      completes (execute world d) spot (gives_object object) (json.Object pairs)
      (ap (object_misfit schema spot.type) named ∙ object-fits schema form spot.type T rows has refers single_one)
      (ap (object_made world (execute world d) spot (thing object)) (type-is object T rows has named)
      ∙ ap one_object (ap (execute world d has.object (thing object) (trail spot)) below ∙ made (trail spot)))

  -- ---- lists

  -- each of these, in order, is made to one value wherever it stands in the list
  abbrev pub EachItem : Run → Spot Group → List (Meaning Meta) → List Value → Type 0
  EachItem run spot [] [] = Unit {0}
  EachItem run spot (m ∷ ms) (v ∷ vs) = ((i : ℕ) → Completes run (item_spot spot i) m v) × EachItem run spot ms vs
  EachItem run spot ms vs = ⊥

  items-made : (run : Run) (spot : Spot Group) (i : ℕ) (ms : List (Meaning Meta)) (vs : List Value) → EachItem run spot ms vs
      → items_made world run spot i (all_mapped (of_library schema) (all_of ms)) ≡ all_made vs
  items-made run spot i [] [] each = refl
  items-made run spot i (m ∷ ms) (v ∷ vs) each =
      ap (λ (made : Made Value). then_rest made (items_made world run spot (i + 1) (all_mapped (of_library schema) (all_of ms)))) (each.0 i)
      ∙ ap (λ (rest : Made Value). then_rest_of (Some (v ∷ [])) [] rest) (items-made run spot (i + 1) ms vs each.1)
  items-made run spot i [] (v ∷ vs) each = absurd each
  items-made run spot i (m ∷ ms) [] each = absurd each

  pub list-completes : (run : Run) (spot : Spot Group) (form : Form) (T : List ℕ) (ms : List (Meaning Meta)) (vs : List Value) → RefersAs form T spot.type → is_many form ≡ true
      → EachItem run spot ms vs → Completes run spot (gives_list (all_of ms)) (json.Array vs)
  list-completes run spot form T ms vs refers many each =
      completes run spot (gives_list (all_of ms)) (json.Array vs) (list-fits schema form T spot.type refers many)
      (ap one_array (items-made run spot 0 ms vs each))

  pub item-refers : (form : Form) (T : List ℕ) (ty : TypeRef) → RefersAs form T ty → is_many form ≡ true → RefersAs required T (item_type ty)
  item-refers form T ty refers many =
      record { name = refers.name; is = ap item_type refers.is ∙ item-formed form refers.name many; named = refers.named }

  -- objects of one type, of which the same sets are selected
  pub objects-each : {X Y : Type 0} (d : ℕ) (spot : Spot Group) (T : List ℕ) (rows : List FieldRow) (form : Form) (sets : Sets) (has : HasObject schema T rows)
      → RefersAs form T spot.type → is_many form ≡ true → spot.group.pieces ≡ sets → (shows : X → Meta) → (said : X → Y) → (pairs : Y → Pairs)
      → (xs : List X) → AllByRecursion (λ x. (type_name_of (shows x) ≡ T) × SetMade d has.object (shows x) sets (pairs (said x))) xs
      → EachItem (execute world d) spot (map gives_object (map shows xs)) (map (λ y. json.Object (pairs y)) (map said xs))
  objects-each d spot T rows form sets has refers many below shows said pairs [] all = tt
  objects-each d spot T rows form sets has refers many below shows said pairs (x ∷ xs) all = (
    λ i.
        object-completes d (item_spot spot i) (shows x) T rows required sets (pairs (said x)) has all.0.0 (item-refers form T spot.type refers many) refl below all.0.1,
    objects-each d spot T rows form sets has refers many below shows said pairs xs all.1,
  )
