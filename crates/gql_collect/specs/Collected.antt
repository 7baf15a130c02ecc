-- The setting of a collection, and the sets that it is for.
use Rattle.std.specs.Prelude.{List, map}
use Rattle.std.specs.Borrow.{Bor}
use Rattle.gql_document_types.specs.declared.fragment.Fragment.{Fragment}
use Rattle.gql_document_types.specs.declared.selection.Selection.{Selection}
use Rattle.gql_document_types.specs.declared.selection.SelectionSet.{SelectionSet}
use Rattle.gql_schema_types.specs.declared.schema.Schema.{Schema}
use Rattle.gql_schema_types.specs.declared.types.ObjectType.{ObjectType}
use Rattle.gql_collect.specs.Kept.{Variables}
use Rattle.gql_collect.specs.Setting.{Setting}

abbrev pub setting : List Fragment → Schema → ObjectType → Variables → Setting
setting fragments schema object variables = record { fragments = fragments; schema = schema; object = object; variables = variables }

abbrev pub sets_of : List (Bor SelectionSet) → List (List Selection)
sets_of sets = map (λ (set : Bor SelectionSet). set.now.selections) sets
