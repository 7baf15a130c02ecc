-- A walk through selections that enters each fragment once, and how far it has come.
use Rattle.std.specs.Prelude.{List}
use Rattle.std.specs.Prelude.{map}
use Rattle.std.specs.Borrow.{Bor}
use Rattle.gql_document_types.specs.declared.selection.Field.{Field}

abbrev pub fields_of : List (Bor Field) → List Field
fields_of fields = map (λ (field : Bor Field). field.now) fields
