-- A whole number at `Int` is one of 32 bits, with a sign: sections 3.5.1 and 5.6.1 of GraphQL October 2021.
use Rattle.std.specs.Prelude.{ℕ, ℤ, pos, negsuc, nat_lt, ◌^◌, Bool, true, false}
use Rattle.std.specs.Prelude.{◌&&◌, not, List, [], ◌∷◌, length, None, codes}
use Rattle.std.specs.Char.{is_ascii_digit}
use Rattle.std.specs.List.{list_all}
use Rattle.std.specs.Option.{option_map_or}
use Rattle.std.specs.Str.{bytes_eq}
use Rattle.std.specs.Str.Parse.{signed_digits_value, without_leading_sign}
use Rattle.gql_ast_base.specs.declared.type_ref.TypeRef.{TypeRef}
use Rattle.gql_ast_base.specs.declared.value.Value.{Value}
use Rattle.gql_ast_base.specs.declared.value.ValueKind.{ValueKind, out-ValueKind}
use Rattle.gql_ast_base.specs.declared.value.ValueKind.TheOpen.{ValueKind-F}
use Rattle.gql_diag_messages.specs.declared.rule.Rule.TheVariants.{IntCoercionError}
use Rattle.gql_diag_messages.specs.declared.diagnostic_data.DiagnosticData.{DiagnosticData}
use Rattle.gql_rules_values.specs.Faults.{fault, only_if}
use Rattle.gql_ast_base.specs.TypeParts.{named_type}
use Rattle.gql_schema_types.specs.Types.{type_called}
use Rattle.gql_schema_types.specs.declared.types.ExtendedType.{ExtendedType}
use Rattle.gql_schema_types.specs.declared.types.ExtendedType.TheVariants as type

abbrev pub within_32_bits : ℤ → Bool
within_32_bits (pos n) = nat_lt n (2 ^ 31)
within_32_bits (negsuc n) = nat_lt n (2 ^ 31)

-- digits behind a sign or alone that write a number of 32 bits
abbrev pub is_32_bits : List ℕ → Bool
is_32_bits text =
    (nat_lt 0 (length (without_leading_sign text)) && list_all is_ascii_digit (without_leading_sign text)) && within_32_bits (signed_digits_value 10 text)

abbrev pub is_scalar : ExtendedType → Bool
is_scalar (type.Scalar it) = true
is_scalar _ = false

-- the built-in scalar `Int`, which is there even where the schema leaves it out
abbrev pub is_int_type : List ExtendedType → List ℕ → Bool
is_int_type types name = bytes_eq name (codes "Int") && option_map_or is_scalar (type_called name types) true

module _ (types : List ExtendedType) (ty : TypeRef) (literal : Value) where
  abbrev pub int_level : ValueKind-F ValueKind Value → List DiagnosticData
  int_level (ValueKind-F.Int text) =
      only_if (is_int_type types (named_type ty).text && not (is_32_bits text)) (fault IntCoercionError (text ∷ []) literal.location None)
  int_level _ = []

  abbrev pub int_coercion_error : List DiagnosticData
  int_coercion_error = int_level (out-ValueKind literal.kind)
