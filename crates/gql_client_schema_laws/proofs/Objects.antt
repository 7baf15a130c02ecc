-- What is made of fields that answer with objects of introspection.
use Rattle.std.proofs.Common.{◌≡◌, ℕ, true, false, Some, List, [], ◌∷◌, map, ap}
use Rattle.std.specs.List.{AllByRecursion}
use Rattle.gql_ast_base.specs.Names.{Named}
use Rattle.gql_client_schema_laws.specs.Answer.{Pairs, list_value}
use Rattle.gql_document_types.specs.Ranks.{AreRanked}
use Rattle.gql_document_types.specs.declared.selection.Selection.{Selection}
use Rattle.gql_exec.specs.Group.{Group}
use Rattle.gql_client_schema_laws.specs.Introspection.{HasObject, HasField, FieldRow, HasIntrospection}
use Rattle.gql_client_schema_laws.specs.Selected.{full_fragments}
use Rattle.gql_client_schema_laws.proofs.Arguments.{given}
use Rattle.gql_client_schema_laws.proofs.Forms.{is_many}
use Rattle.gql_client_schema_laws.proofs.Leaves.{moved, list-made}
use Rattle.gql_client_schema_laws.proofs.Making.{Makes, SetMade, IsOrdinary, the_field, world, field-makes, object-completes, objects-each}
use Rattle.gql_client_schema_laws.proofs.Sets.{single}
use Rattle.gql_introspection.specs.Answers.{objects}
use Rattle.gql_introspection.specs.Meta.{Meta, type_name_of}
use Rattle.gql_introspection.specs.MetaMeaning.{meta_row}
use Rattle.gql_resolvers.specs.Execute.{execute}
use Rattle.gql_resolvers.specs.Resolved.{gives_object}
use Rattle.gql_resolvers.specs.Trail.{Trail}
use Rattle.gql_schema_types.specs.declared.schema.Schema.{Schema}
use Rattle.gql_schema_types.specs.declared.types.ObjectType.{ObjectType}
use Rattle.gql_source.specs.File.{Files}
use Rattle.jb_tree.specs.declared.value.Value.TheVariants as json

module _ (schema : Schema) (files : Files) (rank : ℕ → ℕ) (ranked : AreRanked (full_fragments schema) rank) (known : HasIntrospection schema)
    (d : ℕ) (U : ObjectType) (T : List ℕ) (named : U.name.text ≡ T) (ty : Named) (object : Meta) (outer : Trail) where
  -- a field that answers with an object, of which some set is selected
  pub object-made : (start end : ℕ) (it : FieldRow) (within : List Selection) (inner : Meta) (rows : List FieldRow) (pairs : Pairs) → HasField schema T it
      → IsOrdinary schema files rank ranked known it.name → is_many it.form ≡ false → meta_row object it.name (given it.deprecated) ≡ Some (gives_object inner)
      → (has : HasObject schema it.target rows) → type_name_of inner ≡ it.target → SetMade schema files rank ranked known d has.object inner (within ∷ []) pairs
      → Makes schema files rank ranked known (execute (world schema files rank ranked known) d) U object outer
      (single (the_field schema files rank ranked known ty start end it within)) (json.Object pairs)
  object-made start end it within inner rows pairs field ordinary one gives has called made =
      field-makes schema files rank ranked known (execute (world schema files rank ranked known) d) U T ty start end it within object (gives_object inner) (json.Object pairs) outer named
      field ordinary gives
      (λ spot is group.
      object-completes schema files rank ranked known d spot inner it.target rows it.form (within ∷ []) pairs has called
      (moved it.form it.target field.definition.ty spot.type is field.refers) one (ap (λ (g : Group). g.pieces) group) made)

  -- one that answers with a list of objects, each of which is shown as something
  pub objects-made : {X Y : Type 0} (start end : ℕ) (it : FieldRow) (within : List Selection) (rows : List FieldRow) (shows : X → Meta) (said : X → Y) (pairs : Y → Pairs)
      → (xs : List X) → HasField schema T it → IsOrdinary schema files rank ranked known it.name → is_many it.form ≡ true
      → meta_row object it.name (given it.deprecated) ≡ Some (objects (map shows xs)) → (has : HasObject schema it.target rows)
      → AllByRecursion (λ x. (type_name_of (shows x) ≡ it.target) × SetMade schema files rank ranked known d has.object (shows x) (within ∷ []) (pairs (said x))) xs
      → Makes schema files rank ranked known (execute (world schema files rank ranked known) d) U object outer
      (single (the_field schema files rank ranked known ty start end it within)) (list_value (λ y. json.Object (pairs y)) (map said xs))
  objects-made start end it within rows shows said pairs xs field ordinary many gives has all =
      list-made schema files rank ranked known (execute (world schema files rank ranked known) d) U T named ty object outer start end it within
      (map gives_object (map shows xs)) (map (λ y. json.Object (pairs y)) (map said xs)) field ordinary many gives
      (λ spot refers below. objects-each schema files rank ranked known d spot it.target rows it.form (within ∷ []) has refers many below shows said pairs xs all)
