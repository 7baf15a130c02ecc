-- Items that fail: each nulls itself, or the list where items must not be null.
use Rattle.std.proofs.Common.{◌≡◌, ℕ, List, [], ◌∷◌, Some, refl, ◌∙◌, codes, pos}
use Rattle.jb_tree.specs.declared.value.Value.TheVariants as json
use Rattle.gql_ast.specs.declared.field_definition.FieldDefinition.{FieldDefinition}
use Rattle.gql_collect.specs.Flat.{flat_sets}
use Rattle.gql_resolvers.specs.Execute.{Made, Member, execute}
use Rattle.gql_exec.specs.Group.{Group}
use Rattle.gql_exec.specs.RequestWorld.{setting_on}
use Rattle.gql_response.specs.declared.graphql_error.GraphQLError.{GraphQLError}
use Rattle.gql_response.specs.declared.path.ResponseDataPathSegment.TheVariants.{Field, ListIndex}
use Rattle.gql_exec_laws.specs.Example.{IsAnswered, root, request}
use Rattle.gql_exec_laws.specs.Examples.{failed_items, failed_strict_item, list_query, f, strict_f}
use Rattle.gql_exec_laws.specs.Parts.{field_at, name_at}
use Rattle.gql_exec_laws.proofs.Computed.{computed, world, executed, answered}
use Rattle.gql_exec_laws.proofs.Opened.{selected, nested, fitting, printing}

abbrev pub group : FieldDefinition → Group
group definition = record { first = field_at 2 definition []; pieces = [] ∷ [] }

-- the failure of the item with this index
abbrev error : ℕ → List ℕ → GraphQLError
error index message =
    record { message = message; locations = record { line = 1; column = 3 } ∷ []; path = Field (name_at 2 (codes "f")) ∷ ListIndex index ∷ []; extensions = [] }

-- ---- items that may be null

pub fields : flat_sets (setting_on (request failed_items) (list_query f)) (failed_items.selections ∷ []) ≡ field_at 2 f [] ∷ []
unfolding computed
fields = simp selected

abbrev pub made : Made Member
made = (
  Some ((codes "f", json.Array (json.Null ∷ json.Number (pos 42) ∷ json.Null ∷ [])) ∷ []),
  error 0 (codes "resolver error: a") ∷ error 2 (codes "resolver error: b") ∷ [],
)

pub same : execute (world failed_items) 1 (list_query f) root [] (failed_items.selections ∷ []) ≡ made
unfolding computed
same = executed failed_items 0 (list_query f) root [] (failed_items.selections ∷ []) (field_at 2 f [] ∷ []) (group f ∷ []) fields refl ∙ simp fitting

pub known : IsAnswered failed_items
unfolding computed
known = answered failed_items 1 made (simp nested) same (simp printing)

-- ---- items that must not be null

strict_fields : flat_sets (setting_on (request failed_strict_item) (list_query strict_f)) (failed_strict_item.selections ∷ []) ≡ field_at 2 strict_f [] ∷ []
unfolding computed
strict_fields = simp selected

abbrev strict_made : Made Member
strict_made = (Some ((codes "f", json.Null) ∷ []), error 1 (codes "resolver error: e") ∷ [])

strict_same : execute (world failed_strict_item) 1 (list_query strict_f) root [] (failed_strict_item.selections ∷ []) ≡ strict_made
unfolding computed
strict_same =
    executed failed_strict_item 0 (list_query strict_f) root [] (failed_strict_item.selections ∷ []) (field_at 2 strict_f [] ∷ []) (group strict_f ∷ [])
    strict_fields refl ∙ simp fitting

pub known_strict : IsAnswered failed_strict_item
unfolding computed
known_strict = answered failed_strict_item 1 strict_made (simp nested) strict_same (simp printing)
