-- Constant values, in which no variable stands: `Value[Const]` in section 2.9 of GraphQL October 2021.
use Rattle.std.specs.Prelude.{Bool, true, false, ◌&&◌, List, [], ◌∷◌, Option}
use Rattle.std.specs.Option.{option_map_or}
use Rattle.gql_ast_base.specs.Names.{Named}
use Rattle.gql_ast_base.specs.declared.value.Value.{Value}
use Rattle.gql_ast_base.specs.declared.value.ValueKind.{ValueKind, fold-ValueKind}
use Rattle.gql_ast_base.specs.declared.value.ValueKind.TheOpen.{ValueKind-F, Value-F}

abbrev pub all_true : List Bool → Bool
all_true [] = true
all_true (truth ∷ truths) = truth && all_true truths

abbrev pub all_members_true : List (Named × Bool) → Bool
all_members_true [] = true
all_members_true (member ∷ members) = member.1 && all_members_true members

-- one level, with whether each value inside is constant
abbrev pub constant_step : ValueKind-F Bool Bool → Bool
constant_step (ValueKind-F.Variable name) = false
constant_step (ValueKind-F.List items) = all_true items
constant_step (ValueKind-F.Object members) = all_members_true members
constant_step _ = true

abbrev pub value_step : Value-F Bool Bool → Bool
value_step value = value.kind

unfoldable pub is_constant_kind : ValueKind → Bool
is_constant_kind = fold-ValueKind Bool Bool constant_step value_step

abbrev pub is_constant : Value → Bool
is_constant value = is_constant_kind value.kind

-- a default that is constant, or none
abbrev pub is_constant_default : Option Value → Bool
is_constant_default default = option_map_or is_constant default true
