-- What is counted in a set: { a ... { b { c } } ...F1 }
use Rattle.std.specs.Prelude.{List, [], ◌∷◌, None, codes}
use Rattle.gql_document_types.specs.declared.selection.Field.{Field}
use Rattle.gql_document_types.specs.declared.selection.Selection.{Selection}
use Rattle.gql_document_types.specs.declared.selection.Selection.TheVariants as selection
use Rattle.gql_schema_types.specs.MetaFields.{named}
use Rattle.gql_exec_laws.specs.Doubling.{spread}
use Rattle.gql_exec_laws.specs.Examples.{int}
use Rattle.gql_exec_laws.specs.Parts.{plain, field_at}

abbrev pub field_a : Field
field_a = field_at 2 (plain (codes "a") int) []

abbrev pub field_c : Field
field_c = field_at 14 (plain (codes "c") int) []

abbrev pub field_b : Field
field_b = field_at 10 (plain (codes "b") int) (selection.Field field_c ∷ [])

abbrev pub inline : List Selection → Selection
inline selections = selection.InlineFragment (record {
  type_condition = None;
  directives = [];
  selection_set = record { ty = named (codes "Query"); selections = selections };
  location = None;
})

abbrev pub counted : List Selection
counted = selection.Field field_a ∷ inline (selection.Field field_b ∷ []) ∷ spread 1 ∷ []
