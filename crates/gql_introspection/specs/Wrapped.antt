-- The fields of `__Type` of a list or a non-null type: sections 4.2.2.7 and 4.2.2.8 of GraphQL October 2021.
use Rattle.std.specs.Prelude.{ℕ, Bool, true, List, [], ◌∷◌, Option, Some, None, if◌then◌else◌, codes}
use Rattle.std.specs.List.{list_any}
use Rattle.std.specs.Str.{bytes_eq}
use Rattle.gql_ast_base.specs.declared.type_ref.TypeRef.{TypeRef, out-TypeRef}
use Rattle.gql_ast_base.specs.declared.type_ref.TypeRef.TheOpen.{TypeRef-F}
use Rattle.gql_resolvers.specs.Resolved.{Meaning, gives_object}
use Rattle.gql_schema_types.specs.declared.schema.Schema.{Schema}
use Rattle.gql_introspection.specs.Answers.{null_leaf, text_or_null}
use Rattle.gql_introspection.specs.Meta.{Meta, wrapped}
use Rattle.gql_introspection.specs.NamedTypes.{named_type, type_meaning}

-- a name by itself has no kind: no object is made of it
abbrev pub kind_level : Bool → TypeRef-F TypeRef → Option (List ℕ)
kind_level stripped (TypeRef-F.Named name) = None
kind_level stripped (TypeRef-F.NonNullNamed name) = if stripped then None else Some (codes "NON_NULL")
kind_level stripped (TypeRef-F.List item) = Some (codes "LIST")
kind_level stripped (TypeRef-F.NonNullList item) = if stripped then Some (codes "LIST") else Some (codes "NON_NULL")

abbrev pub wrapped_kind : TypeRef → Bool → Option (List ℕ)
wrapped_kind ty stripped = kind_level stripped (out-TypeRef ty)

module _ (schema : Schema) where
  abbrev pub inner_level : TypeRef → Bool → TypeRef-F TypeRef → Meaning Meta
  inner_level ty stripped (TypeRef-F.Named name) = null_leaf
  inner_level ty stripped (TypeRef-F.NonNullNamed name) = if stripped then null_leaf else named_type schema name.text
  inner_level ty stripped (TypeRef-F.List item) = type_meaning schema item
  inner_level ty stripped (TypeRef-F.NonNullList item) = if stripped then type_meaning schema item else gives_object (wrapped schema ty true)

  -- the type of a list's items, and what is below a `!`
  abbrev pub inner_type : TypeRef → Bool → Meaning Meta
  inner_type ty stripped = inner_level ty stripped (out-TypeRef ty)

-- the other fields of `__Type`
abbrev pub is_null_field : List ℕ → Bool
is_null_field f = list_any (bytes_eq f)
    (codes "name" ∷ codes "description" ∷ codes "fields" ∷ codes "interfaces" ∷ codes "possibleTypes" ∷ codes "enumValues" ∷ codes "inputFields"
    ∷ codes "specifiedByURL" ∷ codes "isOneOf" ∷ [])

abbrev pub wrapped_row : Schema → TypeRef → Bool → List ℕ → Option (Meaning Meta)
wrapped_row schema ty stripped f =
    if bytes_eq f (codes "kind") then Some (text_or_null (wrapped_kind ty stripped))
    else if bytes_eq f (codes "ofType") then Some (inner_type schema ty stripped)
    else if is_null_field f then Some null_leaf
    else None
