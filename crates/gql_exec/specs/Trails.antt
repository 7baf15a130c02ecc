-- Places as the code has them.
use Rattle.gql_collect.specs.Walk.{fields_of}
use Rattle.gql_collect.specs.declared.group.Group.{Group as FieldsOfKey}
use Rattle.gql_exec.specs.Group.{Group, pieces_of}

abbrev pub group_of : FieldsOfKey → Group
group_of group = record { first = group.first.now; pieces = pieces_of (fields_of group.fields) }
