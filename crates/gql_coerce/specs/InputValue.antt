-- What a JSON value is as an input of a type: section 3.10 of GraphQL October 2021, and "Input Coercion" of 3.5 to 3.12.
use Rattle.std.specs.Prelude.{ℕ, zero, suc, Bool, List, [], ◌∷◌, Option, Some, None, Ok, Err, map, if◌then◌else◌}
use Rattle.std.specs.Str.{bytes_eq}
use Rattle.std.specs.Option.{option_map, option_or}
use Rattle.std.specs.Map.{lookup, keys_of}
use Rattle.jb_tree.specs.declared.value.Value.{Value, Null, Array, Object, out-Value, size-Value}
use Rattle.jb_tree.specs.declared.value.Value.TheOpen.{Value-F}
use Rattle.jb_print.specs.Compact.{compact}
use Rattle.gql_ast_base.specs.Names.{Named}
use Rattle.gql_ast_base.specs.declared.type_ref.TypeRef.{TypeRef}
use Rattle.gql_ast.specs.declared.field_definition.InputValueDefinition.{InputValueDefinition}
use Rattle.gql_schema_types.specs.Types.{type_called, is_one_of}
use Rattle.gql_schema_types.specs.declared.types.ExtendedType.{ExtendedType}
use Rattle.gql_schema_types.specs.declared.types.ExtendedType.TheVariants as type
use Rattle.gql_schema_types.specs.declared.types.InputObjectType.{InputObjectType}
use Rattle.gql_coerce.specs.Outcome.{Outcome, mapped, all_of}
use Rattle.gql_coerce.specs.Faults.{fault, bug_at}
use Rattle.gql_coerce.specs.Subject.{field_words}
use Rattle.gql_coerce.specs.Messages.{null_value, could_not_coerce, undefined_type, non_input_type, unknown_key, missing_field}
use Rattle.gql_ast_base.specs.TypeParts.{named_type, is_non_null, item_type}
use Rattle.gql_coerce.specs.Wrapped.{wrap}
use Rattle.gql_coerce.specs.Scalars.{scalar_takes, enum_takes}
use Rattle.gql_coerce.specs.InputTypes.{input_object_called, field_name, is_field}
use Rattle.gql_coerce.specs.Filled.{Members, filled, not_given}
use Rattle.gql_coerce.specs.OneOf.{one_of_misfit}

-- what a value is coerced to: for something that messages name, at a type
abbrev pub Coercion : Type 0
Coercion = List ℕ → TypeRef → Outcome Value

abbrev pub could_not : List ℕ → Value → List ℕ → Outcome Value
could_not d value T = Err (fault (could_not_coerce d (compact value) T))

-- ---- Input objects

-- the first of the keys that is no field
abbrev pub first_unknown : List InputValueDefinition → List (List ℕ) → Option (List ℕ)
first_unknown fields [] = None
first_unknown fields (key ∷ keys) = if is_field fields key then first_unknown fields keys else Some key

-- the given keys, in whose places the fields' values will stand
abbrev pub places : List (List ℕ) → Members
places keys = map (λ key. (key, Null)) keys

abbrev pub refused_or : Option (List ℕ) → Outcome Value → Outcome Value
refused_or (Some text) otherwise = Err (fault text)
refused_or None otherwise = otherwise

-- why the members as a whole are no value of the input object, before a field is looked at: one of the keys is no field, or they
-- are not as a one-of input object asks
abbrev pub misfit : List ℕ → InputObjectType → Members → Option (List ℕ)
misfit T it members =
    option_or (option_map (λ key. unknown_key key T) (first_unknown it.fields (keys_of members))) (if is_one_of it then one_of_misfit T members else None)

-- ---- Types by name

abbrev pub taken : Bool → List ℕ → Value → List ℕ → Outcome Value
taken takes d value T = if takes then Ok value else could_not d value T

abbrev pub undefined : List ℕ → Named → Outcome Value
undefined d name = Err (bug_at name.location (undefined_type name.text d))

abbrev pub non_input : List ℕ → Named → Outcome Value
non_input d name = Err (bug_at name.location (non_input_type name.text d))

-- a value that is neither null nor an input object, at the type of a name
abbrev pub at_definition : Option ExtendedType → List ℕ → Named → Value → Outcome Value
at_definition None d name value = undefined d name
at_definition (Some (type.Scalar it)) d name value = taken (scalar_takes name.text value) d value name.text
at_definition (Some (type.Enum it)) d name value = taken (enum_takes it.values value) d value name.text
at_definition (Some (type.InputObject it)) d name value = could_not d value name.text
at_definition (Some (type.Object it)) d name value = non_input d name
at_definition (Some (type.Interface it)) d name value = non_input d name
at_definition (Some (type.Union it)) d name value = non_input d name

-- ---- The rule of one level, where `below` coerces what is inside

module _ (below : Value → Coercion) where
  -- a field's value: what is given for it, coerced, else its default
  abbrev pub field_given : Option Value → List ℕ → InputValueDefinition → Outcome (Option Value)
  field_given (Some value) T field = mapped Some (below value (field_words T (field_name field)) field.ty)
  field_given None T field =
      not_given (field_words T (field_name field)) field.ty field.default_value (fault (missing_field T (field_name field)))

  abbrev pub field_value : Members → List ℕ → InputValueDefinition → Outcome (Option Value)
  field_value members T field = field_given (lookup (bytes_eq (field_name field)) members) T field

  -- an object's members at an input object: the given ones keep their order, the defaults of others stand behind them
  abbrev pub input_object : List ℕ → InputObjectType → Members → Outcome Value
  input_object T it members = refused_or (misfit T it members) (mapped Object (filled (field_value members T) field_name (places (keys_of members)) it.fields))

  abbrev pub each_at : List ℕ → TypeRef → List Value → Outcome Value
  each_at d item values = mapped Array (all_of (map (λ (value : Value). below value d item) values))

module _ (types : List ExtendedType) where
  -- a value without members at the type of a name
  abbrev pub leaf : List ℕ → Named → Value → Outcome Value
  leaf d name value = at_definition (type_called name.text types) d name value

  module _ (below : Value → Coercion) where
    abbrev pub object_at : Option InputObjectType → Members → List ℕ → Named → Value → Outcome Value
    object_at (Some it) members d name value = input_object below name.text it members
    object_at None members d name value = leaf d name value

    -- a value with these members at the type of a name
    abbrev pub object : Members → List ℕ → Named → Value → Outcome Value
    object members d name value = object_at (input_object_called name.text types) members d name value

    abbrev pub array : Option TypeRef → List Value → Value → Coercion
    array (Some item) items value d ty = each_at below d item items
    array None items value d ty = leaf d (named_type ty) value

    abbrev pub level : Value-F Value → Value → Coercion
    level Value-F.Null value d ty = if is_non_null ty then Err (fault (null_value d ty)) else Ok Null
    level (Value-F.Bool truth) value d ty = mapped (wrap ty) (leaf d (named_type ty) value)
    level (Value-F.Number number) value d ty = mapped (wrap ty) (leaf d (named_type ty) value)
    level (Value-F.String text) value d ty = mapped (wrap ty) (leaf d (named_type ty) value)
    level (Value-F.Array items) value d ty = array (item_type ty) items value d ty
    level (Value-F.Object members) value d ty = mapped (wrap ty) (object members d (named_type ty) value)

    abbrev pub rule : Value → Coercion
    rule value = level (out-Value value) value

  -- as many levels of the rule
  unfoldable pub within : ℕ → Value → Coercion
  within zero value d ty = Ok value
  within (suc n) value d ty = rule (within n) value d ty

  -- The value that a value is coerced to, or the first fault: the rule at each level. There are fewer levels than this.
  unfoldable pub coerced : Value → Coercion
  coerced value = within (suc (size-Value value)) value
