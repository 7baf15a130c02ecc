-- Items two lists deep, and a type that an interface loosens.
use Rattle.std.proofs.Common.{rules, ◌≡◌, ℕ, List, [], ◌∷◌, Some, None, refl, ◌∙◌, codes, pos}
use Rattle.jb_tree.specs.declared.value.Value.{Value}
use Rattle.jb_tree.specs.declared.value.Value.TheVariants as json
use Rattle.gql_ast_base.specs.declared.type_ref.TypeRef.{TypeRef, out-TypeRef, the_lemmas}
use Rattle.gql_ast_base.specs.declared.type_ref.TypeRef.TheVariants as ty
use Rattle.gql_ast_base.specs.declared.type_ref.TypeRef.TheOpen.{TypeRef-F}
use Rattle.gql_ast_base.specs.TypeParts.{named_type}
use Rattle.gql_ast.specs.declared.field_definition.FieldDefinition.{FieldDefinition}
use Rattle.gql_document_types.specs.declared.selection.Selection.{Selection}
use Rattle.gql_collect.specs.Flat.{flat_sets}
use Rattle.gql_resolvers.specs.Execute.{Made, Member, Below, execute, groups_made}
use Rattle.gql_resolvers.specs.Trail.{Trail, held}
use Rattle.gql_exec.specs.Group.{Group}
use Rattle.gql_exec.specs.RequestWorld.{setting_on}
use Rattle.gql_response.specs.declared.graphql_error.GraphQLError.{GraphQLError}
use Rattle.gql_response.specs.declared.path.ResponseDataPathSegment.TheVariants.{Field, ListIndex}
use Rattle.gql_exec_laws.specs.Example.{Example, IsAnswered, root, inner, request}
use Rattle.gql_exec_laws.specs.Examples.{int, list_query}
use Rattle.gql_exec_laws.specs.Nulls.{strict_int, list_in_list, item_null, inner_list_null, outer_list_null, at_field, at_list, at_item, loose_x, i, interface_query, implementer, stricter_type}
use Rattle.gql_exec_laws.specs.Parts.{plain, field_at, name_at, select}
use Rattle.gql_exec_laws.proofs.Computed.{computed, world, executed, answered}
use Rattle.gql_exec_laws.proofs.Opened.{selected, nested, fitting, printing}

out-strict-list : (item : TypeRef) → out-TypeRef (ty.NonNullList item) ≡ TypeRef-F.NonNullList item
out-strict-list item = search (rules, the_lemmas)

named-strict-list : (item : TypeRef) → named_type (ty.NonNullList item) ≡ named_type item
named-strict-list item = search (rules, the_lemmas)

ruleset listed = (fitting, out-strict-list, named-strict-list)

-- ---- two lists

module _ (type : TypeRef) (printed : List ℕ) where
  abbrev definition : FieldDefinition
  definition = plain (codes "f") type

  abbrev e : Example
  e = list_in_list type printed

  fields : flat_sets (setting_on (request e) (list_query definition)) (e.selections ∷ []) ≡ field_at 2 definition [] ∷ []
  unfolding computed
  fields = simp selected

abbrev error : GraphQLError
error = record {
  message = codes "resolver error: e";
  locations = record { line = 1; column = 3 } ∷ [];
  path = Field (name_at 2 (codes "f")) ∷ ListIndex 1 ∷ ListIndex 1 ∷ [];
  extensions = [];
}

abbrev made_with : Value → Made Member
made_with value = (Some ((codes "f", value) ∷ []), error ∷ [])

abbrev one : Value
one = json.Array (json.Number (pos 1) ∷ [])

abbrev group : TypeRef → Group
group type = record { first = field_at 2 (plain (codes "f") type) []; pieces = [] ∷ [] }

abbrev item_type : TypeRef
item_type = ty.List (ty.NonNullList int)

abbrev item_made : Made Member
item_made = made_with (json.Array (one ∷ json.Array (json.Number (pos 2) ∷ json.Null ∷ []) ∷ []))

item_same : execute (world item_null) 1 item_null.root_type root [] (item_null.selections ∷ []) ≡ item_made
unfolding computed
item_same =
    executed item_null 0 item_null.root_type root [] (item_null.selections ∷ []) (field_at 2 (plain (codes "f") item_type) [] ∷ []) (group item_type ∷ [])
    (fields item_type (codes "\"data\":{\"f\":[[1],[2,null]]}}")) refl ∙ simp listed

pub item_known : IsAnswered item_null
unfolding computed
item_known = answered item_null 1 item_made (simp nested) item_same (simp printing)

abbrev inner_type : TypeRef
inner_type = ty.List (ty.List strict_int)

abbrev inner_made : Made Member
inner_made = made_with (json.Array (one ∷ json.Null ∷ []))

inner_same : execute (world inner_list_null) 1 inner_list_null.root_type root [] (inner_list_null.selections ∷ []) ≡ inner_made
unfolding computed
inner_same =
    executed inner_list_null 0 inner_list_null.root_type root [] (inner_list_null.selections ∷ []) (field_at 2 (plain (codes "f") inner_type) [] ∷ [])
    (group inner_type ∷ []) (fields inner_type (codes "\"data\":{\"f\":[[1],null]}}")) refl ∙ simp listed

pub inner_known : IsAnswered inner_list_null
unfolding computed
inner_known = answered inner_list_null 1 inner_made (simp nested) inner_same (simp printing)

abbrev outer_type : TypeRef
outer_type = ty.List (ty.NonNullList strict_int)

abbrev outer_made : Made Member
outer_made = made_with json.Null

outer_same : execute (world outer_list_null) 1 outer_list_null.root_type root [] (outer_list_null.selections ∷ []) ≡ outer_made
unfolding computed
outer_same =
    executed outer_list_null 0 outer_list_null.root_type root [] (outer_list_null.selections ∷ []) (field_at 2 (plain (codes "f") outer_type) [] ∷ [])
    (group outer_type ∷ []) (fields outer_type (codes "\"data\":{\"f\":null}}")) refl ∙ simp listed

pub outer_known : IsAnswered outer_list_null
unfolding computed
outer_known = answered outer_list_null 1 outer_made (simp nested) outer_same (simp printing)

-- ---- where the null falls

pub held_item : held (at_item item_type) ≡ Some (at_item item_type)
held_item = simp listed

pub held_list : held (at_item inner_type) ≡ Some (at_list inner_type)
held_list = simp listed

pub held_field : held (at_item outer_type) ≡ Some (at_field outer_type)
held_field = simp listed

pub held_root : held (at_item (ty.NonNullList (ty.NonNullList strict_int))) ≡ None
held_root = simp listed

-- ---- the type of the object

abbrev within : List Selection
within = select 6 loose_x [] ∷ []

abbrev group_of : List (List Selection) → Group
group_of sets = record { first = field_at 2 i within; pieces = sets }

abbrev group_x : Group
group_x = record { first = field_at 6 loose_x []; pieces = [] ∷ [] }

strict_fields : flat_sets (setting_on (request stricter_type) interface_query) (stricter_type.selections ∷ []) ≡ field_at 2 i within ∷ []
unfolding computed
strict_fields = simp selected

strict_within : flat_sets (setting_on (request stricter_type) implementer) (within ∷ []) ≡ field_at 6 loose_x [] ∷ []
unfolding computed
strict_within = simp selected

strict_inside : (outer : Trail) → execute (world stricter_type) 1 implementer inner outer (within ∷ [])
    ≡ groups_made (world stricter_type) (execute (world stricter_type) 0) implementer inner outer (group_x ∷ [])
unfolding computed
strict_inside outer =
    executed stricter_type 0 implementer inner outer (within ∷ []) (field_at 6 loose_x [] ∷ []) (group_x ∷ []) strict_within refl

abbrev strict_error : GraphQLError
strict_error = record {
  message = codes "non-null type Int! resolved to null";
  locations = record { line = 1; column = 7 } ∷ [];
  path = Field (name_at 2 (codes "i")) ∷ Field (name_at 6 (codes "x")) ∷ [];
  extensions = [];
}

abbrev strict_made : Made Member
strict_made = (Some ((codes "i", json.Null) ∷ []), strict_error ∷ [])

strict_around : (run : Below (world stricter_type)) (sets : List (List Selection))
    → ((outer : Trail) → run implementer inner outer sets
    ≡ groups_made (world stricter_type) (execute (world stricter_type) 0) implementer inner outer (group_x ∷ []))
    → groups_made (world stricter_type) run interface_query root [] (group_of sets ∷ []) ≡ strict_made
unfolding computed
strict_around run sets within_run = simp (listed, within_run)

strict_same : execute (world stricter_type) 2 interface_query root [] (stricter_type.selections ∷ []) ≡ strict_made
unfolding computed
strict_same =
    executed stricter_type 1 interface_query root [] (stricter_type.selections ∷ []) (field_at 2 i within ∷ []) (group_of (within ∷ []) ∷ [])
    strict_fields refl
    ∙ strict_around (execute (world stricter_type) 1) (within ∷ []) strict_inside

pub strict_known : IsAnswered stricter_type
unfolding computed
strict_known = answered stricter_type 2 strict_made (simp nested) strict_same (simp printing)
