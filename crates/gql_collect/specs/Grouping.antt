-- Groups on the way: fields that are put into groups one after another.
use Rattle.std.specs.Prelude.{List, map, Some}
use Rattle.std.specs.List.{flat_map}
use Rattle.gql_document_types.specs.declared.selection.Field.{Field}
use Rattle.gql_collect.specs.Groups.{FieldGroup, response_key}
use Rattle.gql_collect.specs.Walk.{fields_of}
use Rattle.gql_collect.specs.declared.group.Group.{Group}

abbrev pub group_seen : Group → FieldGroup
group_seen group = record { key = response_key group.first.now; first = Some group.first.now; fields = fields_of group.fields }

abbrev pub groups_seen : List Group → List FieldGroup
groups_seen groups = map group_seen groups

-- the fields of all groups
abbrev pub fields_in_groups : List FieldGroup → List Field
fields_in_groups groups = flat_map (λ (group : FieldGroup). group.fields) groups
