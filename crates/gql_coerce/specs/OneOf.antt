-- One-of input objects: a value of one has exactly one member, and that one is not null. Section 3.10.1 of GraphQL September 2025.
use Rattle.std.specs.Prelude.{ℕ, ◌-◌, Bool, true, false, List, [], ◌∷◌, length, slice_get, Option, Some, None, if◌then◌else◌}
use Rattle.std.specs.List.{list_all}
use Rattle.std.specs.Map.{lookup}
use Rattle.std.specs.Option.{option_and_then, option_map_or}
use Rattle.std.specs.Str.{bytes_eq}
use Rattle.jb_tree.specs.declared.value.Value.{Value}
use Rattle.jb_tree.specs.Value.{is_null}
use Rattle.gql_ast_base.specs.Names.{Named}
use Rattle.gql_ast_base.specs.declared.value.Value.{Value as Literal}
use Rattle.gql_ast_base.specs.declared.value.ValueKind.{ValueKind, out-ValueKind}
use Rattle.gql_ast_base.specs.declared.value.ValueKind.TheOpen.{ValueKind-F}
use Rattle.gql_coerce.specs.Filled.{Members}
use Rattle.gql_coerce.specs.Messages.{one_member, null_member}

-- why it is no value of the type: it has no one member, or has one that is null
abbrev pub only_misfit : {A : Type 0} → List ℕ → (A → List ℕ) → (A → Bool) → Option A → Option (List ℕ)
only_misfit T name null None = Some (one_member T)
only_misfit T name null (Some member) = if null member then Some (null_member T (name member)) else None

-- ---- Values

abbrev pub Pair : Type 0
Pair = List ℕ × Value

-- the only member
abbrev pub only : Members → Option Pair
only (member ∷ []) = Some member
only _ = None

-- why an object with these members is no value of a one-of input object
abbrev pub one_of_misfit : List ℕ → Members → Option (List ℕ)
one_of_misfit T members = only_misfit T (λ (member : Pair). member.0) (λ (member : Pair). is_null member.1) (only members)

-- ---- Literals

abbrev pub Member : Type 0
Member = Named × Literal

-- this one, where all members have its name
abbrev pub if_only : List Member → Member → Option Member
if_only members one = if list_all (λ (member : Member). bytes_eq one.0.text member.0.text) members then Some one else None

-- the only member: a repeated key counts once, with its last value
abbrev pub only_named : List Member → Option Member
only_named members = option_and_then (if_only members) (slice_get members (length members - 1))

-- a literal that gives null: null itself, a variable that is null, and one that has no value
abbrev pub gives_null : Members → ValueKind-F ValueKind Literal → Bool
gives_null env ValueKind-F.Null = true
gives_null env (ValueKind-F.Variable name) = option_map_or is_null (lookup (bytes_eq name.text) env) true
gives_null env (ValueKind-F.Int text) = false
gives_null env (ValueKind-F.Float text) = false
gives_null env (ValueKind-F.String text) = false
gives_null env (ValueKind-F.Boolean truth) = false
gives_null env (ValueKind-F.Enum name) = false
gives_null env (ValueKind-F.List items) = false
gives_null env (ValueKind-F.Object members) = false

-- why an object literal with these members is no value of a one-of input object
abbrev pub one_of_literal_misfit : Members → List ℕ → List Member → Option (List ℕ)
one_of_literal_misfit env T members =
    only_misfit T (λ (member : Member). member.0.text) (λ (member : Member). gives_null env (out-ValueKind member.1.kind)) (only_named members)
