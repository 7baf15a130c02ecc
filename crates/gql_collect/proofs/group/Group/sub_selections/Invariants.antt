use Rattle.std.proofs.Common.{◌≡◌, map, take}
use Rattle.gql_document_types.specs.declared.selection.Field.{Field}
use Rattle.gql_collect.specs.Collected.{sets_of}
use Rattle.gql_collect.specs.Walk.{fields_of}
use Rattle.gql_collect.proofs.group.Group.sub_selections.Given as goal

-- the sets of the fields so far
abbrev pub invariant-loop-field : goal.invariant-loop-field
invariant-loop-field l = sets_of l.pieces ≡ map (λ (field : Field). field.selection_set.selections) (fields_of (take l.field-index l.self.fields))
