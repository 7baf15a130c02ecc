-- What is made of fields that answer with leaves, objects and lists.
use Rattle.std.proofs.Common.{◌≡◌, ℕ, Bool, true, false, Option, Some, None, List, [], ◌∷◌, codes, refl, ap, ◌∙◌}
use Rattle.gql_ast_base.specs.Names.{Named}
use Rattle.gql_ast_base.specs.declared.type_ref.TypeRef.{TypeRef}
use Rattle.gql_ast.specs.declared.field_definition.EnumValueDefinition.{EnumValueDefinition}
use Rattle.gql_client_schema_laws.specs.Answer.{text_or_null}
use Rattle.gql_coerce.specs.InputTypes.{is_enum_value}
use Rattle.gql_document_types.specs.Ranks.{AreRanked}
use Rattle.gql_document_types.specs.declared.selection.Selection.{Selection}
use Rattle.gql_exec.specs.Group.{Group}
use Rattle.gql_client_schema_laws.specs.Introspection.{Form, plain, RefersAs, HasEnum, HasField, FieldRow, row, HasIntrospection}
use Rattle.gql_client_schema_laws.specs.Selected.{full_fragments}
use Rattle.gql_client_schema_laws.proofs.Arguments.{given}
use Rattle.gql_client_schema_laws.proofs.Fits.{null-fits, text-fits, truth-fits, word-fits}
use Rattle.gql_client_schema_laws.proofs.Forms.{is_many, takes_null}
use Rattle.gql_client_schema_laws.proofs.Making.{Run, Makes, EachItem, IsOrdinary, the_field, world, completes, field-makes, list-completes}
use Rattle.gql_client_schema_laws.proofs.Sets.{single}
use Rattle.gql_introspection.specs.Answers.{null_leaf, text_leaf, truth_leaf, text_or_null as text_or_null_leaf, all_of}
use Rattle.gql_introspection.specs.Meta.{Meta}
use Rattle.gql_introspection.specs.MetaMeaning.{meta_row}
use Rattle.gql_resolvers.specs.Resolved.{Meaning, gives_leaf, gives_list}
use Rattle.gql_resolvers.specs.Spot.{Spot}
use Rattle.gql_resolvers.specs.Trail.{Trail}
use Rattle.gql_schema_types.specs.declared.schema.Schema.{Schema}
use Rattle.gql_schema_types.specs.declared.types.ObjectType.{ObjectType}
use Rattle.gql_source.specs.File.{Files}
use Rattle.jb_tree.specs.declared.value.Value.{Value}
use Rattle.jb_tree.specs.declared.value.Value.TheVariants as json

-- a type that is the same refers as it
pub moved : (form : Form) (T : List ℕ) (ty other : TypeRef) → other ≡ ty → RefersAs form T ty → RefersAs form T other
moved form T ty other is refers = record { name = refers.name; is = is ∙ refers.is; named = refers.named }

module _ (schema : Schema) (files : Files) (rank : ℕ → ℕ) (ranked : AreRanked (full_fragments schema) rank) (known : HasIntrospection schema)
    (run : Run schema files rank ranked known) (U : ObjectType) (T : List ℕ) (named : U.name.text ≡ T) (ty : Named) (object : Meta) (outer : Trail) where
  -- a leaf that fits the field's type
  leaf-made : (start end : ℕ) (it : FieldRow) (within : List Selection) (v : Value) (has : HasField schema T it) → IsOrdinary schema files rank ranked known it.name
      → meta_row object it.name (given it.deprecated) ≡ Some (gives_leaf v)
      → ((other : TypeRef) → RefersAs it.form it.target other → (world schema files rank ranked known).misfit other (gives_leaf v) ≡ None)
      → Makes schema files rank ranked known run U object outer (single (the_field schema files rank ranked known ty start end it within)) v
  leaf-made start end it within v has ordinary gives fits =
      field-makes schema files rank ranked known run U T ty start end it within object (gives_leaf v) v outer named has ordinary gives
      (λ spot is group. completes schema files rank ranked known run spot (gives_leaf v) v
      (fits spot.type (moved it.form it.target has.definition.ty spot.type is has.refers)) refl)

  pub null-made : (start end : ℕ) (it : FieldRow) (within : List Selection) → HasField schema T it → IsOrdinary schema files rank ranked known it.name
      → takes_null it.form ≡ true → meta_row object it.name (given it.deprecated) ≡ Some null_leaf
      → Makes schema files rank ranked known run U object outer (single (the_field schema files rank ranked known ty start end it within)) json.Null
  null-made start end it within has ordinary takes gives =
      leaf-made start end it within json.Null has ordinary gives (λ other refers. null-fits schema it.form it.target other refers takes)

  pub text-made : (start end : ℕ) (name : List ℕ) (form : Form) (text : List ℕ) → HasField schema T (row name form (codes "String"))
      → IsOrdinary schema files rank ranked known name → is_many form ≡ false → meta_row object name [] ≡ Some (text_leaf text)
      → Makes schema files rank ranked known run U object outer (single (the_field schema files rank ranked known ty start end (row name form (codes "String")) [])) (json.String text)
  text-made start end name form text has ordinary one gives =
      leaf-made start end (row name form (codes "String")) [] (json.String text) has ordinary gives (λ other refers. text-fits schema form other text known.texts refers one)

  pub text_or_null-made : (start end : ℕ) (name : List ℕ) (text : Option (List ℕ)) → HasField schema T (row name plain (codes "String"))
      → IsOrdinary schema files rank ranked known name → meta_row object name [] ≡ Some (text_or_null_leaf text)
      → Makes schema files rank ranked known run U object outer (single (the_field schema files rank ranked known ty start end (row name plain (codes "String")) [])) (text_or_null text)
  text_or_null-made start end name None has ordinary gives = null-made start end (row name plain (codes "String")) [] has ordinary refl gives
  text_or_null-made start end name (Some text) has ordinary gives = text-made start end name plain text has ordinary refl gives

  pub truth-made : (start end : ℕ) (name : List ℕ) (form : Form) (truth : Bool) → HasField schema T (row name form (codes "Boolean"))
      → IsOrdinary schema files rank ranked known name → is_many form ≡ false → meta_row object name [] ≡ Some (truth_leaf truth)
      → Makes schema files rank ranked known run U object outer (single (the_field schema files rank ranked known ty start end (row name form (codes "Boolean")) [])) (json.Bool truth)
  truth-made start end name form truth has ordinary one gives =
      leaf-made start end (row name form (codes "Boolean")) [] (json.Bool truth) has ordinary gives (λ other refers. truth-fits schema form other truth known.truths refers one)

  -- the name of a value of an enum type
  pub word-made : (start end : ℕ) (name : List ℕ) (form : Form) (target text : List ℕ) (Takes : List EnumValueDefinition → Type 0) (enum : HasEnum schema target Takes)
      → HasField schema T (row name form target) → IsOrdinary schema files rank ranked known name → is_many form ≡ false → is_enum_value enum.enum.values text ≡ true
      → meta_row object name [] ≡ Some (text_leaf text)
      → Makes schema files rank ranked known run U object outer (single (the_field schema files rank ranked known ty start end (row name form target) [])) (json.String text)
  word-made start end name form target text Takes enum has ordinary one taken gives =
      leaf-made start end (row name form target) [] (json.String text) has ordinary gives
      (λ other refers. word-fits schema form other text target Takes enum refers one taken)

  -- a list of these
  pub list-made : (start end : ℕ) (it : FieldRow) (within : List Selection) (ms : List (Meaning Meta)) (vs : List Value) → HasField schema T it
      → IsOrdinary schema files rank ranked known it.name → is_many it.form ≡ true → meta_row object it.name (given it.deprecated) ≡ Some (gives_list (all_of ms))
      → ((spot : Spot Group) → RefersAs it.form it.target spot.type → spot.group.pieces ≡ within ∷ [] → EachItem schema files rank ranked known run spot ms vs)
      → Makes schema files rank ranked known run U object outer (single (the_field schema files rank ranked known ty start end it within)) (json.Array vs)
  list-made start end it within ms vs has ordinary many gives each =
      field-makes schema files rank ranked known run U T ty start end it within object (gives_list (all_of ms)) (json.Array vs) outer named has ordinary gives
      (λ spot is group.
      let refers = moved it.form it.target has.definition.ty spot.type is has.refers in
      list-completes schema files rank ranked known run spot it.form it.target ms vs refers many (each spot refers (ap (λ (g : Group). g.pieces) group)))
