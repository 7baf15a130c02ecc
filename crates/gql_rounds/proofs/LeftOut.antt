-- What comes of a field by a table, and by one that tells more.
use Rattle.std.proofs.Common.{◌≡◌, ◌⊎◌, ℕ, Bool, true, false, if◌then◌else◌, List, [], ◌∷◌, Option, Some, None, Result, Ok, Err, refl, sym, ap, ◌∙◌, codes, inl, inr}
use Rattle.std.specs.Map.{lookup}
use Rattle.std.specs.Str.{bytes_eq}
use Rattle.jb_tree.specs.Value.{array_items, object_members}
use Rattle.jb_tree.specs.declared.value.Value.{Value}
use Rattle.jb_tree.specs.declared.value.Value.TheVariants as json
use Rattle.gql_ast_base.specs.TypeParts.{item_type}
use Rattle.gql_ast_base.specs.declared.type_ref.TypeRef.{TypeRef}
use Rattle.gql_ast.specs.declared.field_definition.FieldDefinition.{FieldDefinition}
use Rattle.gql_coerce.specs.declared.told.ArgumentFault.{ArgumentFault}
use Rattle.gql_document_types.specs.declared.document.ExecutableDocument.{ExecutableDocument}
use Rattle.gql_document_types.specs.declared.selection.Field.{Field}
use Rattle.gql_exec.specs.Asks.{arguments_at, asked, asks, definition_on, fault_of}
use Rattle.gql_exec.specs.Executing.{is_hidden}
use Rattle.gql_exec.specs.Request.{Members, Request}
use Rattle.gql_resolvers.specs.DataMeaning.{failure_text, is_composite_type}
use Rattle.gql_resolvers.specs.Resolved.{Meaning, gives_leaf, fails_with, Outcome, answered, refused}
use Rattle.gql_schema_types.specs.Schemas.{field_of, type_named}
use Rattle.gql_schema_types.specs.declared.schema.Schema.{Schema}
use Rattle.gql_schema_types.specs.declared.types.ObjectType.{ObjectType}
use Rattle.gql_rounds.specs.Key.{key}
use Rattle.gql_rounds.specs.Known.{Known}
use Rattle.gql_rounds.specs.Table.{Table}
use Rattle.gql_rounds.specs.ToldMeaning.{known_or_leaf, list_or_leaf, object_or_leaf, told_by, told_or_skip, told_value, unless_failed, value_at}
use Rattle.gql_rounds.specs.bridge.ToldMeaning.{unfailed, unfailed_at}
use Rattle.gql_rounds.specs.Wanted.{ask_for, ask_with, is_left_out, is_skip, request_by_table}
use Rattle.gql_rounds.proofs.Values.{told-value-is}

-- ---- a value that was told is left out nowhere

unless-kept : (failed : Option (List ℕ)) (m : Meaning Known) → is_skip m ≡ false → is_skip (unless_failed failed m) ≡ false
unless-kept (Some text) m kept = refl
unless-kept None m kept = kept

known-kept : (value : Value) (number : Option ℕ) (name : Option (List ℕ)) → is_skip (known_or_leaf value number name) ≡ false
known-kept value (Some number) (Some name) = refl
known-kept value (Some number) None = refl
known-kept value None name = refl

object-kept : (composite : Bool) (value : Value) (members : Option Members) → is_skip (object_or_leaf composite value members) ≡ false
object-kept true value (Some members) = known-kept value _ _
object-kept true value None = refl
object-kept false value members = refl

list-kept : (item : Value → Meaning Known) (value : Value) (items : Option (List Value)) → is_skip (list_or_leaf item value items) ≡ false
list-kept item value (Some items) = refl
list-kept item value None = refl

unfailed-kept : (composite : Bool) (item : Option TypeRef) (value : Value) → is_skip (unfailed_at composite item value) ≡ false
unfailed-kept composite (Some item) value = list-kept (told_value composite item) value (array_items value)
unfailed-kept composite None value = object-kept composite value (object_members value)

pub value-kept : (schema : Schema) (definition : Option FieldDefinition) (value : Value) → is_skip (value_at schema definition value) ≡ false
value-kept schema (Some definition) value =
    let composite = is_composite_type (type_named schema definition.ty) in
    ap is_skip (told-value-is composite definition.ty value)
    ∙ unless-kept (failure_text value) (unfailed composite definition.ty value) (unfailed-kept composite (item_type definition.ty) value)
value-kept schema None value = refl

-- ---- what comes of a field

module _ (schema : Schema) (document : ExecutableDocument) (variables : Members) where
  abbrev pub by : Table → Request Known
  by table = request_by_table schema document variables table

  abbrev pub arguments_of : ObjectType → Field → Result Members ArgumentFault
  arguments_of U f = arguments_at (by []) (definition_on schema U f) f

  -- a field that tables tell of, with these arguments
  pub record IsTheirs (U : ObjectType) (f : Field) (arguments : Members) : Type 0 where
    pub coerced : arguments_of U f ≡ Ok arguments
    pub named : bytes_eq f.name.text (codes "__typename") ≡ false
    pub shown : is_hidden false schema U f.name.text ≡ false

  -- one of which no table tells: the same comes of it by each, and that is not left out
  pub record IsFixed (U : ObjectType) (x : Known) (f : Field) : Type 0 where
    pub outcome : Outcome Known
    pub is : (table : Table) → asks (by table) U x f ≡ outcome
    pub stays : is_left_out outcome ≡ false

  abbrev pub found : Table → Known → Field → Members → Option Value
  found table x f arguments = lookup (bytes_eq (key x.number f.name.text arguments)) table

  abbrev pub told_of : ObjectType → Field → Option Value → Outcome Known
  told_of U f value = answered (told_or_skip schema (field_of schema U.name.text f.name.text) value)

  pub theirs-told : (U : ObjectType) (x : Known) (f : Field) (arguments : Members) → IsTheirs U f arguments → (table : Table)
      → asks (by table) U x f ≡ told_of U f (found table x f arguments)
  theirs-told U x f arguments theirs table =
      ap (asked (by table) U x f.name.text) theirs.coerced
      ∙ ap (λ (b : Bool). answered (if b then gives_leaf (json.String U.name.text) else (by table).answers U x f.name.text arguments)) theirs.named
      ∙ ap (λ (b : Bool). answered (if b then fails_with (codes "schema introspection is disabled") else told_by table schema U x f.name.text arguments)) theirs.shown

  pub theirs-asked : (U : ObjectType) (x : Known) (f : Field) (arguments : Members) → IsTheirs U f arguments → (table : Table)
      → ask_for (by table) U x f ≡ record { object = x.number; type_name = U.name.text; field = f.name.text; arguments = arguments } ∷ []
  theirs-asked U x f arguments theirs table = ap (ask_with (by table) U x f) theirs.coerced

  pub left-out : (U : ObjectType) (f : Field) (o : Option Value) → is_left_out (told_of U f o) ≡ true → o ≡ None
  left-out U f None left = refl
  left-out U f (Some value) left =
      absurd (let e : true ≡ false = sym left ∙ value-kept schema (field_of schema U.name.text f.name.text) value in cc)

  -- each field is one or the other
  pub which : (U : ObjectType) (x : Known) (f : Field) → IsFixed U x f ⊎ ((arguments : Members) × IsTheirs U f arguments)
  which U x f = by_arguments (arguments_of U f) refl
    where
      by_hidden : (arguments : Members) → arguments_of U f ≡ Ok arguments → bytes_eq f.name.text (codes "__typename") ≡ false → (b : Bool)
          → is_hidden false schema U f.name.text ≡ b → IsFixed U x f ⊎ ((arguments : Members) × IsTheirs U f arguments)
      by_hidden arguments coerced named true hidden = inl (record {
        outcome = answered (fails_with (codes "schema introspection is disabled"));
        is = λ table.
            ap (asked (by table) U x f.name.text) coerced
            ∙ ap (λ (b : Bool). answered (if b then gives_leaf (json.String U.name.text) else (by table).answers U x f.name.text arguments)) named
            ∙ ap (λ (b : Bool). answered (if b then fails_with (codes "schema introspection is disabled") else told_by table schema U x f.name.text arguments)) hidden;
        stays = refl;
      })
      by_hidden arguments coerced named false shown = inr (arguments, record { coerced = coerced; named = named; shown = shown })

      by_name : (arguments : Members) → arguments_of U f ≡ Ok arguments → (b : Bool) → bytes_eq f.name.text (codes "__typename") ≡ b
          → IsFixed U x f ⊎ ((arguments : Members) × IsTheirs U f arguments)
      by_name arguments coerced true named = inl (record {
        outcome = answered (gives_leaf (json.String U.name.text));
        is = λ table.
            ap (asked (by table) U x f.name.text) coerced
            ∙ ap (λ (b : Bool). answered (if b then gives_leaf (json.String U.name.text) else (by table).answers U x f.name.text arguments)) named;
        stays = refl;
      })
      by_name arguments coerced false named = by_hidden arguments coerced named (is_hidden false schema U f.name.text) refl

      by_arguments : (made : Result Members ArgumentFault) → arguments_of U f ≡ made → IsFixed U x f ⊎ ((arguments : Members) × IsTheirs U f arguments)
      by_arguments (Ok arguments) coerced = by_name arguments coerced (bytes_eq f.name.text (codes "__typename")) refl
      by_arguments (Err fault) coerced = inl (record {
        outcome = refused (fault_of fault);
        is = λ table. ap (asked (by table) U x f.name.text) coerced;
        stays = refl;
      })
