-- Does a fragment's type condition hold of an object type? DoesFragmentTypeApply, section 6.3.2 of GraphQL October 2021.
use Rattle.std.specs.Prelude.{ℕ, Bool, true, false, ◌||◌, List, Option, Some}
use Rattle.std.specs.Option.{option_map_or}
use Rattle.std.specs.Str.{bytes_eq}
use Rattle.gql_ast_base.specs.Names.{Named}
use Rattle.gql_schema_types.specs.Called.{is_among}
use Rattle.gql_schema_types.specs.Types.{type_called}
use Rattle.gql_schema_types.specs.declared.types.ExtendedType.{ExtendedType}
use Rattle.gql_schema_types.specs.declared.types.ExtendedType.TheVariants.{Interface, Union}
use Rattle.gql_schema_types.specs.declared.types.ObjectType.{ObjectType}

-- is this a union that has the type of the name?
abbrev pub has_member : Option ExtendedType → List ℕ → Bool
has_member (Some (Union it)) name = is_among name it.members
has_member _ name = false

-- is this an interface, of the name, among those that are listed?
abbrev pub is_listed : Option ExtendedType → List ℕ → List Named → Bool
is_listed (Some (Interface it)) name listed = is_among name listed
is_listed _ name listed = false

-- the condition is the object type itself, an interface that it lists, or a union that has it
abbrev pub applies : List ExtendedType → ObjectType → List ℕ → Bool
applies types object condition =
    bytes_eq condition object.name.text
    || (is_listed (type_called condition types) condition object.implements_interfaces || has_member (type_called condition types) object.name.text)

-- without a condition it always holds
abbrev pub applies_if : List ExtendedType → ObjectType → Option Named → Bool
applies_if types object condition = option_map_or (λ (name : Named). applies types object name.text) condition true
