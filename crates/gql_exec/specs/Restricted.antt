-- The part of an execution that asks for the names of types and for the schema: sections 4.1, 4.2 and 6.2 of GraphQL October 2021.
use Rattle.std.specs.Prelude.{◌≡◌, ℕ, Bool, true, false, ◌&&◌, ◌||◌, List, ◌∷◌, [], is_ok, Some, None, codes}
use Rattle.std.specs.List.{filter, list_any}
use Rattle.std.specs.Str.{bytes_eq}
use Rattle.gql_document_types.specs.declared.selection.Selection.{Selection}
use Rattle.gql_schema_types.specs.Entries.{entry}
use Rattle.gql_schema_types.specs.Types.{type_called, fields_of, field_name}
use Rattle.gql_schema_types.specs.declared.schema.Schema.{Schema}
use Rattle.gql_schema_types.specs.declared.types.ExtendedType.{ExtendedType}
use Rattle.gql_schema_types.specs.declared.types.ObjectType.{ObjectType}
use Rattle.gql_collect.specs.Groups.{response_key}
use Rattle.gql_resolvers.specs.Depth.{AllGroups}
use Rattle.gql_resolvers.specs.Execute.{Member}
use Rattle.gql_exec.specs.Asks.{definition_on, arguments_at}
use Rattle.gql_exec.specs.Group.{Group}
use Rattle.gql_exec.specs.Request.{Request}
use Rattle.gql_exec.specs.RequestWorld.{plain, plain_world}

abbrev pub is_meta_name : List ℕ → Bool
is_meta_name f = bytes_eq f (codes "__typename") || (bytes_eq f (codes "__schema") || bytes_eq f (codes "__type"))

-- a group of such a field
abbrev pub is_meta : Group → Bool
is_meta g = is_meta_name g.first.name.text

-- the response key of such a group
abbrev pub is_meta_key : List Group → List ℕ → Bool
is_meta_key gs key = list_any (λ g. is_meta g && bytes_eq key (response_key g.first)) gs

-- the members that have such a key, in order
abbrev pub restricted : List Group → List Member → List Member
restricted gs members = filter (λ (m : Member). is_meta_key gs m.0) members

-- an object type without fields of its own that have a name of introspection
abbrev pub HasNoOwn : Schema → ObjectType → Type 0
HasNoOwn schema U = (ty : ExtendedType) → type_called U.name.text schema.types ≡ Some ty
    → (entry field_name (codes "__schema") (fields_of ty) ≡ None) × (entry field_name (codes "__type") (fields_of ty) ≡ None)

-- the arguments of each other field are coerced
abbrev pub OthersCoerce : {X : Type 0} → Request X → ObjectType → List Selection → Type 0
OthersCoerce r U selections =
    AllGroups (plain_world r) (λ g. is_meta g ≡ false → is_ok (arguments_at r (definition_on r.schema U g.first) g.first) ≡ true)
    (plain r U (selections ∷ []))
