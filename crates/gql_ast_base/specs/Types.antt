-- What a concrete tree stands for as a reference to a type: section 2.11 of GraphQL October 2021.
use Rattle.std.specs.Prelude.{if◌then◌else◌, List, [], ◌++◌, option_to_list, Option, None}
use Rattle.std.specs.Option.{option_map}
use Rattle.gql_source.specs.declared.file_id.FileId.{FileId}
use Rattle.gql_ast_base.specs.Forest.{Forest, Plain, nothing, tree_then}
use Rattle.gql_ast_base.specs.SyntaxKind.TheVariants as kind
use Rattle.gql_ast_base.specs.declared.type_ref.TypeRef.{TypeRef, out-TypeRef, List as ListOf, NonNullList}
use Rattle.gql_ast_base.specs.declared.type_ref.TypeRef.TheOpen.{TypeRef-F}
use Rattle.gql_ast_base.specs.declared.type_ref.TypeRef.TheVariants.{Named as NamedType, NonNullNamed}
use Rattle.gql_ast_base.specs.Kinds.{is_kind}
use Rattle.gql_ast_base.specs.Parts.{Text, head, nth_name}

-- the type with `!` behind it
abbrev pub non_null_step : TypeRef → TypeRef-F TypeRef → TypeRef
non_null_step ty (TypeRef-F.Named name) = NonNullNamed name
non_null_step ty (TypeRef-F.List item) = NonNullList item
non_null_step ty _ = ty

abbrev pub non_null : TypeRef → TypeRef
non_null ty = non_null_step ty (out-TypeRef ty)

module _ (text : Text) (file : FileId) where
  -- one way to refer to a type, where `types` and `forms` are the types and the ways right below it
  unfoldable pub form_step : Plain → List TypeRef → List TypeRef → Option TypeRef
  form_step tree types forms =
      if is_kind tree.kind kind.NamedType then option_map NamedType (nth_name text file 0 tree.children)
      else if is_kind tree.kind kind.ListType then option_map ListOf (head types)
      else if is_kind tree.kind kind.NonNullType then option_map non_null (head forms)
      else None

  -- a reference is what the first of its parts is
  unfoldable pub type_step : Plain → List TypeRef → Option TypeRef
  type_step tree forms = if is_kind tree.kind kind.TypeReference then head forms else None

  abbrev mutual
    -- the types among the trees of a row
    pub types : Forest → List TypeRef
    types nothing = []
    types (tree_then k start end children rest) =
        option_to_list (type_step (record { kind = k; start = start; end = end; children = children }) (forms children)) ++ types rest

    -- the ways to refer to a type among them
    pub forms : Forest → List TypeRef
    forms nothing = []
    forms (tree_then k start end children rest) =
        option_to_list (form_step (record { kind = k; start = start; end = end; children = children }) (types children) (forms children)) ++ forms rest

  -- the type that a tree refers to
  abbrev pub type_of : Plain → Option TypeRef
  type_of tree = type_step tree (forms tree.children)
