-- Values that are the same, whatever the order of the keys of objects: sections 2.9 and 5.3.2 of GraphQL October 2021.
use Rattle.std.specs.Prelude.{ℕ, Bool, true, false, ◌&&◌, ◌==◌, List, [], ◌∷◌, length, Option}
use Rattle.std.specs.Option.{option_map_or}
use Rattle.std.specs.Bool.{beq}
use Rattle.std.specs.List.{find, list_all}
use Rattle.std.specs.Str.{bytes_eq}
use Rattle.gql_ast_base.specs.Names.{Named}
use Rattle.gql_ast_base.specs.declared.value.Value.{Value}
use Rattle.gql_ast_base.specs.declared.value.ValueKind.{ValueKind, out-ValueKind, fold-ValueKind}
use Rattle.gql_ast_base.specs.declared.value.ValueKind.TheOpen.{ValueKind-F, Value-F}

-- is another value the same as one?
abbrev pub KindTest : Type 0
KindTest = ValueKind → Bool

abbrev pub ValueTest : Type 0
ValueTest = Value → Bool

-- item by item
abbrev pub same_items : List ValueTest → List Value → Bool
same_items [] [] = true
same_items (test ∷ tests) (value ∷ values) = test value && same_items tests values
same_items _ _ = false

-- the first member that has the name
abbrev pub member_called : List (Named × Value) → List ℕ → Option (Named × Value)
member_called members name = find (λ (member : Named × Value). bytes_eq name member.0.text) members

-- a member has the value of the first of its name
abbrev pub is_among : List (Named × Value) → Named × ValueTest → Bool
is_among others member = option_map_or (λ (other : Named × Value). member.1 other.1) (member_called others member.0.text) false

-- as many, and each among the others
abbrev pub same_members : List (Named × ValueTest) → List (Named × Value) → Bool
same_members members others = (length members == length others) && list_all (is_among others) members

abbrev pub same_level : ValueKind-F KindTest ValueTest → ValueKind-F ValueKind Value → Bool
same_level ValueKind-F.Null ValueKind-F.Null = true
same_level (ValueKind-F.Variable name) (ValueKind-F.Variable other) = bytes_eq name.text other.text
same_level (ValueKind-F.Int number) (ValueKind-F.Int other) = bytes_eq number other
same_level (ValueKind-F.Float number) (ValueKind-F.Float other) = bytes_eq number other
same_level (ValueKind-F.String text) (ValueKind-F.String other) = bytes_eq text other
same_level (ValueKind-F.Boolean truth) (ValueKind-F.Boolean other) = beq truth other
same_level (ValueKind-F.Enum name) (ValueKind-F.Enum other) = bytes_eq name.text other.text
same_level (ValueKind-F.List items) (ValueKind-F.List others) = same_items items others
same_level (ValueKind-F.Object members) (ValueKind-F.Object others) = same_members members others
same_level _ _ = false

abbrev pub kind_step : ValueKind-F KindTest ValueTest → KindTest
kind_step kind other = same_level kind (out-ValueKind other)

abbrev pub value_step : Value-F KindTest ValueTest → ValueTest
value_step value other = value.kind other.kind

abbrev pub same_kind : ValueKind → KindTest
same_kind = fold-ValueKind KindTest ValueTest kind_step value_step

abbrev pub same_value : Value → ValueTest
same_value value other = same_kind value.kind other.kind
