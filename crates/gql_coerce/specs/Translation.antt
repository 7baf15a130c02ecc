-- What a literal stands for by itself: its members are translated one after another.
use Rattle.std.specs.Prelude.{ℕ, ℤ, pos, negsuc, ◌^◌, nat_lt, if◌then◌else◌, List, [], map}
use Rattle.std.specs.Prelude.{Option, Some, None, Ok, Err}
use Rattle.std.specs.Str.{bytes_eq}
use Rattle.std.specs.Str.Parse.{digits_value, signed_digits_value, starts_with_minus, without_leading_plus, without_leading_sign}
use Rattle.indexmap.specs.IndexMap.{insert_all}
use Rattle.jb_text.specs.Numeral.{is_numeral}
use Rattle.jb_tree.specs.declared.value.Value.{Value as JsonValue, Null, Bool as Truth, Number, String, Array, Object}
use Rattle.gql_source.specs.Span.{Span}
use Rattle.gql_ast_base.specs.Names.{Named}
use Rattle.gql_ast_base.specs.declared.value.Value.{Value}
use Rattle.gql_ast_base.specs.declared.value.ValueKind.{ValueKind, fold-ValueKind}
use Rattle.gql_ast_base.specs.declared.value.ValueKind.TheOpen.{ValueKind-F, Value-F}
use Rattle.gql_coerce.specs.Outcome.{Outcome, mapped, all_of}
use Rattle.gql_coerce.specs.Faults.{fault_at, bug_at}
use Rattle.gql_coerce.specs.Messages.{int_overflow, float_overflow, variable_in_default}

-- a number of 64 bits with a sign
abbrev pub signed_within : ℤ → Option ℤ
signed_within (pos n) = if nat_lt n (2 ^ 63) then Some (pos n) else None
signed_within (negsuc n) = if nat_lt n (2 ^ 63) then Some (negsuc n) else None

-- and without
abbrev pub unsigned_within : ℕ → Option ℤ
unsigned_within n = if nat_lt n (2 ^ 64) then Some (pos n) else None

-- the number that digits write, where a JSON number may be it
abbrev pub whole_of : List ℕ → Option ℤ
whole_of text =
    if is_numeral (without_leading_sign text)
    then (if starts_with_minus text then signed_within (signed_digits_value 10 text) else unsigned_within (digits_value 10 (without_leading_plus text)))
    else None

abbrev Translator : Type 0
Translator = Option Span → Outcome JsonValue

abbrev pub number_or : Option ℤ → List ℕ → Translator
number_or (Some z) d place = Ok (Number z)
number_or None d place = Err (fault_at place (int_overflow d))

-- a name beside what its value is translated to
abbrev pub member_of : Named × Outcome JsonValue → Outcome (List ℕ × JsonValue)
member_of member = mapped (λ value. (member.0.text, value)) member.1

module _ (d : List ℕ) where
  -- one level, with what each value inside is translated to in its place
  abbrev pub kind_step : ValueKind-F Translator (Outcome JsonValue) → Translator
  kind_step ValueKind-F.Null place = Ok Null
  kind_step (ValueKind-F.Variable name) place = Err (bug_at place (variable_in_default d))
  kind_step (ValueKind-F.Int text) place = number_or (whole_of text) d place
  kind_step (ValueKind-F.Float text) place = Err (fault_at place (float_overflow d))
  kind_step (ValueKind-F.String text) place = Ok (String text)
  kind_step (ValueKind-F.Boolean truth) place = Ok (Truth truth)
  kind_step (ValueKind-F.Enum name) place = Ok (String name.text)
  kind_step (ValueKind-F.List items) place = mapped Array (all_of items)
  kind_step (ValueKind-F.Object members) place = mapped (λ pairs. Object (insert_all bytes_eq [] pairs)) (all_of (map member_of members))

  abbrev pub value_step : Value-F Translator (Outcome JsonValue) → Outcome JsonValue
  value_step value = value.kind value.location

  abbrev pub translated_kind : ValueKind → Translator
  translated_kind = fold-ValueKind Translator (Outcome JsonValue) kind_step value_step

  abbrev pub translated : Value → Outcome JsonValue
  translated value = translated_kind value.kind value.location
