-- What tests a value against another, as the code does it.
use Rattle.std.specs.Prelude.{ℕ, Bool, false, List}
use Rattle.std.specs.Bool.{beq}
use Rattle.std.specs.Str.{bytes_eq}
use Rattle.gql_ast_base.specs.Names.{Named}
use Rattle.gql_ast_base.specs.declared.value.Value.{Value}
use Rattle.gql_ast_base.specs.declared.value.ValueKind.{ValueKind, out-ValueKind}
use Rattle.gql_ast_base.specs.declared.value.ValueKind.TheOpen.{ValueKind-F}
use Rattle.gql_rules_merging.specs.SameValue.{ValueTest, same_value}

abbrev pub member_test : Named × Value → Named × ValueTest
member_test member = (member.0, same_value member.1)

abbrev variable_level : List ℕ → ValueKind-F ValueKind Value → Bool
variable_level name (ValueKind-F.Variable other) = bytes_eq name other.text
variable_level name _ = false

abbrev pub is_variable : List ℕ → ValueKind → Bool
is_variable name other = variable_level name (out-ValueKind other)

abbrev int_level : List ℕ → ValueKind-F ValueKind Value → Bool
int_level number (ValueKind-F.Int other) = bytes_eq number other
int_level number _ = false

abbrev pub is_int : List ℕ → ValueKind → Bool
is_int number other = int_level number (out-ValueKind other)

abbrev float_level : List ℕ → ValueKind-F ValueKind Value → Bool
float_level number (ValueKind-F.Float other) = bytes_eq number other
float_level number _ = false

abbrev pub is_float : List ℕ → ValueKind → Bool
is_float number other = float_level number (out-ValueKind other)

abbrev string_level : List ℕ → ValueKind-F ValueKind Value → Bool
string_level text (ValueKind-F.String other) = bytes_eq text other
string_level text _ = false

abbrev pub is_string : List ℕ → ValueKind → Bool
is_string text other = string_level text (out-ValueKind other)

abbrev boolean_level : Bool → ValueKind-F ValueKind Value → Bool
boolean_level truth (ValueKind-F.Boolean other) = beq truth other
boolean_level truth _ = false

abbrev pub is_boolean : Bool → ValueKind → Bool
is_boolean truth other = boolean_level truth (out-ValueKind other)

abbrev enum_level : List ℕ → ValueKind-F ValueKind Value → Bool
enum_level name (ValueKind-F.Enum other) = bytes_eq name other.text
enum_level name _ = false

abbrev pub is_enum : List ℕ → ValueKind → Bool
is_enum name other = enum_level name (out-ValueKind other)
