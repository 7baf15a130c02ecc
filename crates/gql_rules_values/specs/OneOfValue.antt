-- A literal at a one-of input object has exactly one member, which is not null: sections 3.10.1 and 5.6.1 of GraphQL September 2025. A variable as
-- the one member is judged with the other uses of variables.
use Rattle.std.specs.Prelude.{ℕ, ◌-◌, Bool, true, false, ◌&&◌, not, List, [], ◌∷◌, Option, None, length, slice_get}
use Rattle.std.specs.List.{list_all}
use Rattle.std.specs.Option.{option_map_or}
use Rattle.std.specs.Str.{bytes_eq}
use Rattle.gql_source.specs.Span.{Span}
use Rattle.gql_ast_base.specs.Names.{Named}
use Rattle.gql_ast_base.specs.declared.value.Value.{Value}
use Rattle.gql_ast_base.specs.declared.value.ValueKind.{ValueKind, out-ValueKind}
use Rattle.gql_ast_base.specs.declared.value.ValueKind.TheOpen.{ValueKind-F}
use Rattle.gql_diag_messages.specs.declared.rule.Rule.TheVariants.{OneOfValue}
use Rattle.gql_diag_messages.specs.declared.diagnostic_data.DiagnosticData.{DiagnosticData}
use Rattle.gql_rules_values.specs.Faults.{fault, only_if}
use Rattle.gql_schema_types.specs.Types.{is_one_of}
use Rattle.gql_schema_types.specs.declared.types.InputObjectType.{InputObjectType}

module _ {X : Type 0} where
  -- all these keys are this one
  abbrev pub are_called : List ℕ → List (Named × X) → Bool
  are_called key members = list_all (λ (member : Named × X). bytes_eq key member.0.text) members

  -- there is a key, and no other one: a key that is repeated counts once
  abbrev pub has_one_key : List (Named × X) → Bool
  has_one_key [] = false
  has_one_key (first ∷ others) = are_called first.0.text others

abbrev pub null_level : ValueKind-F ValueKind Value → Bool
null_level ValueKind-F.Null = true
null_level _ = false

abbrev pub is_null : Value → Bool
is_null literal = null_level (out-ValueKind literal.kind)

-- the last value is null
abbrev pub ends_in_null : List (Named × Value) → Bool
ends_in_null members = option_map_or (λ (member : Named × Value). is_null member.1) (slice_get members (length members - 1)) false

-- one member, which is not null: of a key that is repeated the last counts
abbrev pub has_one_member : List (Named × Value) → Bool
has_one_member members = has_one_key members && not (ends_in_null members)

-- a literal of this place, where a one-of input object of this name is wanted
abbrev pub one_of_fault : Named → Option Span → DiagnosticData
one_of_fault name location = fault OneOfValue (name.text ∷ []) location None

abbrev pub one_of_value : InputObjectType → Value → List (Named × Value) → List DiagnosticData
one_of_value it literal members = only_if (is_one_of it && not (has_one_member members)) (one_of_fault it.name literal.location)
