-- Which values a scalar type and an enum type take, as inputs and as results: sections 3.5 and 3.9 of GraphQL October 2021.
use Rattle.std.specs.Prelude.{ℕ, ℤ, pos, negsuc, ◌^◌, ◌-◌, nat_lt, Bool, true, false, ◌||◌, if◌then◌else◌, List, codes, is_some}
use Rattle.std.specs.Option.{option_map_or}
use Rattle.std.specs.Str.{bytes_eq}
use Rattle.jb_tree.specs.declared.value.Value.{Value}
use Rattle.jb_tree.specs.Value.{string_text, whole_number, truth_value}
use Rattle.gql_ast.specs.declared.field_definition.EnumValueDefinition.{EnumValueDefinition}
use Rattle.gql_coerce.specs.InputTypes.{is_enum_value}

-- 32 bits with a sign
abbrev pub is_int : ℤ → Bool
is_int (pos n) = nat_lt n (2 ^ 31)
is_int (negsuc n) = nat_lt n (2 ^ 31)

-- of a magnitude below 2 ^ 53 - 1
abbrev pub is_float : ℤ → Bool
is_float (pos n) = nat_lt n (2 ^ 53 - 1)
is_float (negsuc n) = nat_lt n (2 ^ 53 - 2)

-- 64 bits with a sign
abbrev pub is_signed : ℤ → Bool
is_signed (pos n) = nat_lt n (2 ^ 63)
is_signed (negsuc n) = nat_lt n (2 ^ 63)

abbrev pub number_is : (ℤ → Bool) → Value → Bool
number_is test value = option_map_or test (whole_number value) false

-- the five built-in types by name; any other takes anything
abbrev pub scalar_takes : List ℕ → Value → Bool
scalar_takes name value =
    if bytes_eq name (codes "Int") then number_is is_int value
    else (if bytes_eq name (codes "Float") then number_is is_float value
    else (if bytes_eq name (codes "String") then is_some (string_text value)
    else (if bytes_eq name (codes "Boolean") then is_some (truth_value value)
    else (if bytes_eq name (codes "ID") then is_some (string_text value) || number_is is_signed value
    else true))))

-- the text of one of the values
abbrev pub enum_takes : List EnumValueDefinition → Value → Bool
enum_takes values value = option_map_or (is_enum_value values) (string_text value) false
