-- What a resolver gives that knows what was told.
use Rattle.std.specs.Prelude.{ℕ, ℤ, pos, negsuc, Bool, true, false, List, [], ◌∷◌, Option, Some, None, option_and_then, codes}
use Rattle.std.specs.Map.{lookup}
use Rattle.std.specs.Str.{bytes_eq}
use Rattle.jb_tree.specs.declared.value.Value.{Value}
use Rattle.jb_tree.specs.Value.{array_items, object_members, whole_number}
use Rattle.gql_ast_base.specs.declared.type_ref.TypeRef.{TypeRef, fold-TypeRef}
use Rattle.gql_ast_base.specs.declared.type_ref.TypeRef.TheOpen.{TypeRef-F}
use Rattle.gql_ast.specs.declared.field_definition.FieldDefinition.{FieldDefinition}
use Rattle.gql_schema_types.specs.Schemas.{field_of, type_named}
use Rattle.gql_schema_types.specs.declared.schema.Schema.{Schema}
use Rattle.gql_exec.specs.Mapped.{mapped}
use Rattle.gql_exec.specs.Executing.{Resolving}
use Rattle.gql_resolvers.specs.DataMeaning.{failure_text, is_composite_type, text_member}
use Rattle.gql_resolvers.specs.Meaning.{Members}
use Rattle.gql_resolvers.specs.Resolved.{Meaning, Meanings, gives_leaf, gives_object, gives_list, gives_skip, fails_with, no_answer, answer_then}
use Rattle.gql_rounds.specs.Key.{key}
use Rattle.gql_rounds.specs.Known.{Known, Entity, beside}
use Rattle.gql_rounds.specs.Table.{Table}

-- a whole number from zero up
abbrev pub natural : ℤ → Option ℕ
natural (pos n) = Some n
natural (negsuc n) = None

-- the number that a member is
abbrev pub number_member : List ℕ → Members → Option ℕ
number_member name members = option_and_then natural (option_and_then whole_number (lookup (bytes_eq name) members))

-- the object of the members `object`, its number, and `type`, the name of its type; any other value is a leaf
abbrev pub known_or_leaf : Value → Option ℕ → Option (List ℕ) → Meaning Known
known_or_leaf value (Some number) (Some name) = gives_object (record { number = number; type_name = name })
known_or_leaf value (Some number) None = gives_leaf value
known_or_leaf value None name = gives_leaf value

abbrev pub object_or_leaf : Bool → Value → Option Members → Meaning Known
object_or_leaf true value (Some members) = known_or_leaf value (number_member (codes "object") members) (text_member (codes "type") members)
object_or_leaf true value None = gives_leaf value
object_or_leaf false value members = gives_leaf value

abbrev pub told_items : (Value → Meaning Known) → List Value → Meanings Known
told_items item [] = no_answer
told_items item (v ∷ vs) = answer_then (item v) (told_items item vs)

abbrev pub list_or_leaf : (Value → Meaning Known) → Value → Option (List Value) → Meaning Known
list_or_leaf item value (Some values) = gives_list (told_items item values)
list_or_leaf item value None = gives_leaf value

-- a value with a text member `__error` is a failure, as it is in plain data
abbrev pub unless_failed : Option (List ℕ) → Meaning Known → Meaning Known
unless_failed (Some text) meaning = fails_with text
unless_failed None meaning = meaning

module _ (composite : Bool) where
  -- a value that is no failure at one level of a type: an array is a list at the type of a list, and at a type that is none an object
  -- of the caller's can stand where the type is an object, an interface or a union type
  abbrev pub unfailed_level : TypeRef-F (Value → Meaning Known) → Value → Meaning Known
  unfailed_level (TypeRef-F.Named name) value = object_or_leaf composite value (object_members value)
  unfailed_level (TypeRef-F.NonNullNamed name) value = object_or_leaf composite value (object_members value)
  unfailed_level (TypeRef-F.List item) value = list_or_leaf item value (array_items value)
  unfailed_level (TypeRef-F.NonNullList item) value = list_or_leaf item value (array_items value)

  abbrev pub told_level : TypeRef-F (Value → Meaning Known) → Value → Meaning Known
  told_level level value = unless_failed (failure_text value) (unfailed_level level value)

  -- a value at a type
  abbrev pub told_value : TypeRef → Value → Meaning Known
  told_value = fold-TypeRef (Value → Meaning Known) told_level

-- a value at a field; where the type has no such field it is a leaf
abbrev pub value_at : Schema → Option FieldDefinition → Value → Meaning Known
value_at schema (Some definition) value = told_value (is_composite_type (type_named schema definition.ty)) definition.ty value
value_at schema None value = gives_leaf value

-- a field that was not told is left out
abbrev pub told_or_skip : Schema → Option FieldDefinition → Option Value → Meaning Known
told_or_skip schema definition (Some value) = value_at schema definition value
told_or_skip schema definition None = gives_skip

-- a field as this table tells it
abbrev pub told_by : Table → Resolving Known
told_by table schema T known f arguments = told_or_skip schema (field_of schema T.name.text f) (lookup (bytes_eq (key known.number f arguments)) table)

-- a field of an object beside what was told
abbrev pub told : Resolving Entity
told schema T entity f arguments = mapped (beside entity.table) (told_by entity.table schema T entity.known f arguments)
