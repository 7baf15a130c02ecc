-- Groups of fields with one response key, as execution takes them: the first field, and what is selected below each field,
-- set by set. Sections 6.3.2 and 6.4.3 of GraphQL October 2021.
use Rattle.std.specs.Prelude.{List, [], ◌∷◌, map, Option, Some, None}
use Rattle.std.specs.List.{flat_map}
use Rattle.gql_document_types.specs.declared.selection.Field.{Field}
use Rattle.gql_document_types.specs.declared.selection.Selection.{Selection}
use Rattle.gql_collect.specs.Groups.{FieldGroup}

pub record Group : Type 0 where
  pub first : Field
  pub pieces : List (List Selection)

abbrev pub piece_of : Field → List Selection
piece_of field = field.selection_set.selections

abbrev pub pieces_of : List Field → List (List Selection)
pieces_of fields = map piece_of fields

-- a group that has a first field
abbrev pub started : Option Field → List Field → List Group
started None fields = []
started (Some f) fields = record { first = f; pieces = pieces_of fields } ∷ []

abbrev pub group_from : FieldGroup → List Group
group_from group = started group.first group.fields

abbrev pub groups_from : List FieldGroup → List Group
groups_from groups = flat_map group_from groups
