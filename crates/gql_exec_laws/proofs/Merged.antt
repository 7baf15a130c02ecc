-- The sets of one response key.
use Rattle.std.proofs.Common.{◌≡◌, List, [], ◌∷◌, Some, refl, ◌∙◌, codes, pos}
use Rattle.jb_tree.specs.declared.value.Value.TheVariants as json
use Rattle.gql_document_types.specs.declared.selection.Selection.{Selection}
use Rattle.gql_collect.specs.Flat.{flat_sets}
use Rattle.gql_resolvers.specs.Execute.{Made, Member, Below, execute, groups_made}
use Rattle.gql_resolvers.specs.Trail.{Trail}
use Rattle.gql_exec.specs.Group.{Group}
use Rattle.gql_exec.specs.RequestWorld.{setting_on}
use Rattle.gql_exec_laws.specs.Example.{IsAnswered, root, inner, request}
use Rattle.gql_exec_laws.specs.Examples.{merged, object_query, inner_type, a, x, y}
use Rattle.gql_exec_laws.specs.Parts.{field_at, select}
use Rattle.gql_exec_laws.proofs.Computed.{computed, world, executed, answered}
use Rattle.gql_exec_laws.proofs.Opened.{selected, nested, fitting, printing}

abbrev within_first : List Selection
within_first = select 6 y [] ∷ []

abbrev within_second : List Selection
within_second = select 14 x [] ∷ select 16 y [] ∷ []

abbrev within : List (List Selection)
within = within_first ∷ within_second ∷ []

abbrev group_of : List (List Selection) → Group
group_of sets = record { first = field_at 2 a within_first; pieces = sets }

abbrev group_y : Group
group_y = record { first = field_at 6 y []; pieces = [] ∷ [] ∷ [] }

abbrev group_x : Group
group_x = record { first = field_at 14 x []; pieces = [] ∷ [] }

fields : flat_sets (setting_on (request merged) object_query) (merged.selections ∷ []) ≡ field_at 2 a within_first ∷ field_at 10 a within_second ∷ []
unfolding computed
fields = simp selected

fields_within : flat_sets (setting_on (request merged) inner_type) within
    ≡ field_at 6 y [] ∷ field_at 14 x [] ∷ field_at 16 y [] ∷ []
unfolding computed
fields_within = simp selected

inside : (outer : Trail) → execute (world merged) 1 inner_type inner outer within
    ≡ groups_made (world merged) (execute (world merged) 0) inner_type inner outer (group_y ∷ group_x ∷ [])
unfolding computed
inside outer =
    executed merged 0 inner_type inner outer within (field_at 6 y [] ∷ field_at 14 x [] ∷ field_at 16 y [] ∷ [])
    (group_y ∷ group_x ∷ []) fields_within refl

abbrev made : Made Member
made = (Some ((codes "a", json.Object ((codes "y", json.Number (pos 2)) ∷ (codes "x", json.Number (pos 1)) ∷ [])) ∷ []), [])

around : (run : Below (world merged)) (sets : List (List Selection))
    → ((outer : Trail) → run inner_type inner outer sets
    ≡ groups_made (world merged) (execute (world merged) 0) inner_type inner outer (group_y ∷ group_x ∷ []))
    → groups_made (world merged) run object_query root [] (group_of sets ∷ []) ≡ made
unfolding computed
around run sets within_run = simp (fitting, within_run)

same : execute (world merged) 2 object_query root [] (merged.selections ∷ []) ≡ made
unfolding computed
same =
    executed merged 1 object_query root [] (merged.selections ∷ []) (field_at 2 a within_first ∷ field_at 10 a within_second ∷ [])
    (group_of within ∷ []) fields refl
    ∙ around (execute (world merged) 1) within inside

pub known : IsAnswered merged
unfolding computed
known = answered merged 2 made (simp nested) same (simp printing)
