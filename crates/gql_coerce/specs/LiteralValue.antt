-- What a literal is as an input of a type, where variables stand for the values of an environment: section 3.10 of
-- GraphQL October 2021, and "Input Coercion" of 3.5 to 3.12.
use Rattle.std.specs.Prelude.{ℕ, zero, suc, ◌+◌, max, ◌&&◌, List, [], ◌∷◌, map, Option, Some, None, is_some, if◌then◌else◌}
use Rattle.std.specs.Prelude.{Ok, Err}
use Rattle.std.specs.Option.{option_map, option_or}
use Rattle.std.specs.Str.{bytes_eq}
use Rattle.std.specs.Map.{lookup}
use Rattle.jb_tree.specs.declared.value.Value.{Value as JsonValue, Null, Array, Object}
use Rattle.jb_tree.specs.Value.{is_null}
use Rattle.gql_source.specs.Span.{Span}
use Rattle.gql_ast_base.specs.Names.{Named}
use Rattle.gql_ast_base.specs.declared.value.Value.{Value}
use Rattle.gql_ast_base.specs.declared.value.ValueKind.{ValueKind, out-ValueKind, fold-ValueKind}
use Rattle.gql_ast_base.specs.declared.value.ValueKind.TheOpen.{ValueKind-F, Value-F}
use Rattle.gql_ast_base.specs.declared.type_ref.TypeRef.{TypeRef}
use Rattle.gql_ast.specs.ValueText.{value_text}
use Rattle.gql_ast.specs.declared.field_definition.InputValueDefinition.{InputValueDefinition}
use Rattle.gql_schema_types.specs.Types.{type_called, is_one_of}
use Rattle.gql_schema_types.specs.declared.types.ExtendedType.{ExtendedType}
use Rattle.gql_schema_types.specs.declared.types.InputObjectType.{InputObjectType}
use Rattle.gql_coerce.specs.Outcome.{Outcome, mapped, all_of}
use Rattle.gql_coerce.specs.Faults.{fault_at, bug_at}
use Rattle.gql_coerce.specs.Subject.{field_words}
use Rattle.gql_coerce.specs.Messages.{null_literal, null_variable, absent_variable, could_not_coerce, undefined_type, unknown_literal_key, missing_field}
use Rattle.gql_ast_base.specs.TypeParts.{named_type, is_non_null, item_type}
use Rattle.gql_coerce.specs.Wrapped.{wrap}
use Rattle.gql_coerce.specs.Filled.{Members, filled, not_given}
use Rattle.gql_coerce.specs.OneOf.{one_of_literal_misfit}
use Rattle.gql_coerce.specs.InputTypes.{as_input_object, input_object_called, field_name}
use Rattle.gql_coerce.specs.InputValue.{first_unknown}
use Rattle.gql_coerce.specs.Translation.{translated}

-- what a literal is coerced to: for something that messages name, at a type
abbrev pub Coercion : Type 0
Coercion = List ℕ → TypeRef → Outcome JsonValue

-- ---- How deep literals are nested

abbrev pub greatest : List ℕ → ℕ
greatest [] = 0
greatest (n ∷ ns) = max n (greatest ns)

abbrev pub greatest_member : List (Named × ℕ) → ℕ
greatest_member [] = 0
greatest_member (member ∷ members) = max member.1 (greatest_member members)

abbrev pub kind_depth : ValueKind-F ℕ ℕ → ℕ
kind_depth (ValueKind-F.List depths) = greatest depths + 1
kind_depth (ValueKind-F.Object members) = greatest_member members + 1
kind_depth _ = 0

abbrev pub value_depth : Value-F ℕ ℕ → ℕ
value_depth value = value.kind

unfoldable pub depth_of : ValueKind → ℕ
depth_of = fold-ValueKind ℕ ℕ kind_depth value_depth

abbrev pub depth : Value → ℕ
depth literal = depth_of literal.kind

-- ---- Input objects

abbrev pub Literals : Type 0
Literals = List (Named × Value)

abbrev pub member_name : Named × Value → List ℕ
member_name member = member.0.text

-- of several members of one name the last counts
abbrev pub last_of : Option Value → List ℕ → Literals → Option Value
last_of found name [] = found
last_of found name (member ∷ members) = last_of (if bytes_eq name (member_name member) then Some member.1 else found) name members

abbrev pub last_named : List ℕ → Literals → Option Value
last_named name members = last_of None name members

abbrev pub refused_at : Option Span → Option (List ℕ) → Outcome JsonValue → Outcome JsonValue
refused_at place (Some text) otherwise = Err (fault_at place text)
refused_at place None otherwise = otherwise

-- why the members as a whole are no value of the input object, before a field is looked at: one of the keys is no field, or they
-- are not as a one-of input object asks
abbrev pub literal_misfit : Members → List ℕ → InputObjectType → Literals → Option (List ℕ)
literal_misfit env T it members =
    option_or (option_map (λ key. unknown_literal_key key T) (first_unknown it.fields (map member_name members)))
    (if is_one_of it then one_of_literal_misfit env T members else None)

-- ---- Types by name

abbrev pub literal_undefined : Option Span → List ℕ → Named → Outcome JsonValue
literal_undefined place d name = Err (bug_at place (undefined_type name.text d))

abbrev pub literal_could_not : List ℕ → Named → Value → Outcome JsonValue
literal_could_not d name literal = Err (fault_at literal.location (could_not_coerce d (value_text literal) name.text))

-- a literal that is neither null, a variable nor an input object, at the type of a name
abbrev pub at_type : Option ExtendedType → List ℕ → Named → Value → Outcome JsonValue
at_type None d name literal = literal_undefined literal.location d name
at_type (Some ty) d name literal = if is_some (as_input_object ty) then literal_could_not d name literal else translated d literal

-- ---- The rule of one level, where `below` coerces what is inside

abbrev pub null_at : Option Span → List ℕ → TypeRef → Outcome JsonValue
null_at place d ty = if is_non_null ty then Err (fault_at place (null_literal d)) else Ok Null

-- a variable inside a literal: one that is absent stands for null
abbrev pub variable_at : Option Span → List ℕ → TypeRef → Option JsonValue → Outcome JsonValue
variable_at place d ty None = if is_non_null ty then Err (fault_at place (absent_variable d)) else Ok Null
variable_at place d ty (Some value) = if is_non_null ty && is_null value then Err (fault_at place (null_variable d)) else Ok value

module _ (below : Value → Coercion) where
  -- a field's value: what is given for it, coerced, else its default
  abbrev pub literal_given : Option Value → Option Span → List ℕ → InputValueDefinition → Outcome (Option JsonValue)
  literal_given (Some literal) place T field = mapped Some (below literal (field_words T (field_name field)) field.ty)
  literal_given None place T field =
      not_given (field_words T (field_name field)) field.ty field.default_value (fault_at place (missing_field T (field_name field)))

  abbrev pub literal_field : Option Span → Literals → List ℕ → InputValueDefinition → Outcome (Option JsonValue)
  literal_field place members T field = literal_given (last_named (field_name field) members) place T field

  -- a literal's members at an input object: the fields in the order of their definitions
  abbrev pub literal_object : Members → Option Span → List ℕ → InputObjectType → Literals → Outcome JsonValue
  literal_object env place T it members =
      refused_at place (literal_misfit env T it members) (mapped Object (filled (literal_field place members T) field_name [] it.fields))

  abbrev pub each_literal_at : List ℕ → TypeRef → List Value → Outcome JsonValue
  each_literal_at d item literals = mapped Array (all_of (map (λ (literal : Value). below literal d item) literals))

module _ (types : List ExtendedType) where
  -- a literal without members at the type of a name
  abbrev pub literal_leaf : List ℕ → Named → Value → Outcome JsonValue
  literal_leaf d name literal = at_type (type_called name.text types) d name literal

  module _ (env : Members) where
    module _ (below : Value → Coercion) where
      abbrev pub literal_members_at : Option InputObjectType → Literals → List ℕ → Named → Value → Outcome JsonValue
      literal_members_at (Some it) members d name literal = literal_object below env literal.location name.text it members
      literal_members_at None members d name literal = literal_leaf d name literal

      -- a literal with these members at the type of a name
      abbrev pub literal_members : Literals → List ℕ → Named → Value → Outcome JsonValue
      literal_members members d name literal = literal_members_at (input_object_called name.text types) members d name literal

      abbrev pub literal_array : Option TypeRef → List Value → Value → Coercion
      literal_array (Some item) items literal d ty = each_literal_at below d item items
      literal_array None items literal d ty = literal_leaf d (named_type ty) literal

      abbrev pub literal_level : ValueKind-F ValueKind Value → Value → Coercion
      literal_level ValueKind-F.Null literal d ty = null_at literal.location d ty
      literal_level (ValueKind-F.Variable name) literal d ty = variable_at literal.location d ty (lookup (bytes_eq name.text) env)
      literal_level (ValueKind-F.List items) literal d ty = literal_array (item_type ty) items literal d ty
      literal_level (ValueKind-F.Object members) literal d ty = mapped (wrap ty) (literal_members members d (named_type ty) literal)
      literal_level (ValueKind-F.Int text) literal d ty = mapped (wrap ty) (literal_leaf d (named_type ty) literal)
      literal_level (ValueKind-F.Float text) literal d ty = mapped (wrap ty) (literal_leaf d (named_type ty) literal)
      literal_level (ValueKind-F.String text) literal d ty = mapped (wrap ty) (literal_leaf d (named_type ty) literal)
      literal_level (ValueKind-F.Boolean truth) literal d ty = mapped (wrap ty) (literal_leaf d (named_type ty) literal)
      literal_level (ValueKind-F.Enum name) literal d ty = mapped (wrap ty) (literal_leaf d (named_type ty) literal)

      abbrev pub literal_rule : Value → Coercion
      literal_rule literal = literal_level (out-ValueKind literal.kind) literal

    unfoldable pub literal_within : ℕ → Value → Coercion
    literal_within zero literal d ty = Ok Null
    literal_within (suc n) literal d ty = literal_rule (literal_within n) literal d ty

    -- the value that a literal is coerced to, or the first fault: the rule at each level
    unfoldable pub coerced_literal : Value → Coercion
    coerced_literal literal = literal_within (suc (depth literal)) literal
