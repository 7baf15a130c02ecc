-- What only private clauses and proofs cite, beside `OperationNameCollision`.
use Rattle.std.specs.Prelude.{◌≡◌, List, [], ◌∷◌, ◌++◌, None}
use Rattle.gql_ast_base.specs.Names.{Named}
use Rattle.gql_schema_types.specs.Entries.{entry}
use Rattle.gql_document.specs.OperationNameCollision.{itself}

abbrev pub is_new : List Named → Named → Type 0
is_new names name = entry itself name.text names ≡ None

abbrev pub added : List Named → Named → List Named
added names name = names ++ name ∷ []
