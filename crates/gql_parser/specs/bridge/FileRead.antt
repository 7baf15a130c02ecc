-- What only private clauses and proofs cite, beside `FileRead`.
use Rattle.std.specs.Prelude.{◌≡◌, ◌⊎◌, Option, Some, None}
use Rattle.gql_lexer.specs.declared.error.CstError.{CstError}
use Rattle.gql_ast.specs.declared.document.Document.{Document}
use Rattle.gql_diag.specs.List.{Diagnostics}
use Rattle.gql_parser.specs.Parsers.{Given}
use Rattle.gql_parser.specs.Diagnosed.{list_of}
use Rattle.gql_parser.specs.FileRead.{no_document, no_faults}

-- ---- the same of a document that is there

-- of what was read, with an error or without
abbrev pub IsFileOf : Given → Document → Option CstError → Document → Diagnostics → Type 0
IsFileOf given read error document errors =
    ((error ≡ None) × (document ≡ read) × (errors ≡ no_faults))
    ⊎ ((found : CstError) × (error ≡ Some found) × (document ≡ no_document) × (errors ≡ list_of given found))
