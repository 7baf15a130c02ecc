-- Plans: groups that were collected once, and stand for those that are collected for each object (GraphQL October 2021,
-- section 6.3.2).
use Rattle.std.specs.Prelude.{List, map}
use Rattle.gql_collect.specs.declared.group.Group.{Group}
use Rattle.gql_collect.specs.declared.plan.Part.{Part, out-Part}
use Rattle.gql_collect.specs.declared.planned_field.PlannedField.{PlannedField}

abbrev pub field_in : Part → PlannedField
field_in part = (out-Part part).field

abbrev pub group_in : Part → Group
group_in part = (field_in part).group

-- parts without their nodes
abbrev pub fields_in : List Part → List PlannedField
fields_in parts = map field_in parts

abbrev pub groups_from : List PlannedField → List Group
groups_from fields = map (λ (field : PlannedField). field.group) fields

abbrev pub groups_in : List Part → List Group
groups_in parts = groups_from (fields_in parts)
