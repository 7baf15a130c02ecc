-- How deep an operation goes into the types of a schema, where introspection is on: section 4 of GraphQL October 2021.
use Rattle.std.specs.Prelude.{◌≡◌, ◌<◌, ℕ, Bool, true, if◌then◌else◌}
use Rattle.gql_document_types.specs.declared.document.ExecutableDocument.{ExecutableDocument}
use Rattle.gql_document_types.specs.declared.operation.Operation.{Operation}
use Rattle.gql_collect.specs.Expanded.{expanded_depth}
use Rattle.gql_collect.specs.View.{fragments_nested, nested}
use Rattle.gql_exec.specs.Room.{all_selections as all_selections_of}

-- the greatest number of fields that lead on, on one chain of nested selections, where a spread stands for what its fragment selects
abbrev pub depth_of : ExecutableDocument → Operation → ℕ
depth_of document operation = expanded_depth (fragments_nested document.fragments) (nested document.fragments operation.selection_set.selections)

-- below three, where introspection is on
abbrev pub IsShallow : Bool → ExecutableDocument → Operation → Type 0
IsShallow introspection document operation = introspection ≡ true → depth_of document operation < 3

-- every selection of the operation and of all fragments
abbrev pub all_selections : ExecutableDocument → Operation → ℕ
all_selections document operation = all_selections_of document.fragments operation.selection_set.selections

-- the most looks of the check
abbrev pub depth_looks : Bool → ExecutableDocument → Operation → ℕ
depth_looks introspection document operation = if introspection then all_selections document operation else 0
