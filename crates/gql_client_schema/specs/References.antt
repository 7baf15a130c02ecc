-- How references to types are read: the members `kind`, `name` and `ofType` of `__Type` (GraphQL October 2021, section 4.2.2).
use Rattle.std.specs.Prelude.{ℕ, zero, suc, if◌then◌else◌, List, Option, Some, None, option_and_then, codes}
use Rattle.std.specs.Option.{option_map}
use Rattle.std.specs.Str.{bytes_eq}
use Rattle.jb_tree.specs.declared.value.Value.{Value}
use Rattle.jb_tree.specs.Value.{is_null}
use Rattle.gql_ast_base.specs.declared.type_ref.TypeRef.{TypeRef, List as ListOf, NonNullList, out-TypeRef}
use Rattle.gql_ast_base.specs.declared.type_ref.TypeRef.TheOpen.{TypeRef-F}
use Rattle.gql_ast_base.specs.declared.type_ref.TypeRef.TheVariants as ref
use Rattle.gql_sdl.specs.declared.shown.TypeKind.{TypeKind}
use Rattle.gql_sdl.specs.declared.shown.TypeKind.TheVariants.{Scalar, Object, Interface, Union, Enum, InputObject}
use Rattle.gql_client_schema.specs.declared.kind.Head.{Head}
use Rattle.gql_client_schema.specs.declared.kind.Head.TheVariants as head
use Rattle.gql_client_schema.specs.declared.kind.Kind.{Kind}
use Rattle.gql_client_schema.specs.declared.kind.Kind.TheVariants as kinds
use Rattle.gql_client_schema.specs.Members.{Members, right, in_object, or_null, required, read_text, read_name}
use Rattle.gql_client_schema.specs.Reading.{Reading, gives, and_then, mapped, both}

-- the kinds of `__TypeKind`
abbrev pub kind_named : List ℕ → Option Kind
kind_named text =
    if bytes_eq text (codes "SCALAR") then Some (kinds.Named Scalar)
    else (if bytes_eq text (codes "OBJECT") then Some (kinds.Named Object)
    else (if bytes_eq text (codes "INTERFACE") then Some (kinds.Named Interface)
    else (if bytes_eq text (codes "UNION") then Some (kinds.Named Union)
    else (if bytes_eq text (codes "ENUM") then Some (kinds.Named Enum)
    else (if bytes_eq text (codes "INPUT_OBJECT") then Some (kinds.Named InputObject)
    else (if bytes_eq text (codes "LIST") then Some kinds.List
    else (if bytes_eq text (codes "NON_NULL") then Some kinds.NonNull
    else None)))))))

abbrev pub kind_of : List ℕ → Reading Kind
kind_of text = right (kind_named text)

abbrev pub read_kind : Value → Reading Kind
read_kind value = and_then (read_text value) kind_of

abbrev pub named_head : TypeKind → Members → Reading Head
named_head kind members = mapped (head.Named kind) (required read_name (codes "name") members)

abbrev pub wrapper_head : Head → Members → Reading Head
wrapper_head found members = mapped (λ name. found) (required (or_null read_text) (codes "name") members)

-- a wrapper's name may be null or any text, every other has to be a name
abbrev pub head_by : Kind → Members → Reading Head
head_by (kinds.Named kind) members = named_head kind members
head_by kinds.List members = wrapper_head head.List members
head_by kinds.NonNull members = wrapper_head head.NonNull members

-- `kind` and `name`
abbrev pub head_of : Members → Reading Head
head_of members = and_then (required read_kind (codes "kind") members) (λ kind. head_by kind members)

-- the same type as not null, if it is not so already
abbrev pub non_null_at : TypeRef-F TypeRef → Option TypeRef
non_null_at (TypeRef-F.Named name) = Some (ref.NonNullNamed name)
non_null_at (TypeRef-F.List item) = Some (NonNullList item)
non_null_at _ = None

abbrev pub non_null : TypeRef → Option TypeRef
non_null ty = non_null_at (out-TypeRef ty)

abbrev pub list_of : Option TypeRef → Option TypeRef
list_of = option_map ListOf

-- a named type, or what the wrapper makes of the type inside, if it makes something
abbrev pub with_head : Head → Option TypeRef → Option TypeRef
with_head (head.Named kind name) inner = Some (ref.Named name)
with_head head.List inner = list_of inner
with_head head.NonNull inner = option_and_then non_null inner

abbrev pub joined_head : Head × Option TypeRef → Option TypeRef
joined_head parts = with_head parts.0 parts.1

-- one level: what it refers to, if it ends in a named type
abbrev pub link_of : (Members → Reading (Option TypeRef)) → Members → Reading (Option TypeRef)
link_of inner members = mapped joined_head (both (head_of members) (inner members))

-- null, where there is nothing inside, or a level
abbrev pub nested : (Members → Reading (Option TypeRef)) → Value → Reading (Option TypeRef)
nested rule value = if is_null value then gives None else in_object rule value

-- `ofType`, of so many levels as are left
unfoldable pub inner : ℕ → Members → Reading (Option TypeRef)
inner zero members = gives None
inner (suc left) members = required (nested (link_of (inner left))) (codes "ofType") members

abbrev pub linked : ℕ → Members → Reading (Option TypeRef)
linked left members = link_of (inner left) members

abbrev pub reference_of : Members → Reading TypeRef
reference_of members = and_then (linked 8 members) right

-- a reference ends in a named type within eight wrappers, none of which is a non-null of a non-null
abbrev pub read_reference : Value → Reading TypeRef
read_reference = in_object reference_of
