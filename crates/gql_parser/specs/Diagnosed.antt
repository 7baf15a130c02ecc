-- What is told of the error that ends the reading of a text.
use Rattle.std.specs.Prelude.{ℕ, [], ◌∷◌, Some}
use Rattle.std.specs.declared.ops.Range.{Range}
use Rattle.gql_source.specs.declared.file_id.FileId.{FileId}
use Rattle.gql_lexer.specs.Message.{message_of}
use Rattle.gql_lexer.specs.declared.error.CstError.{CstError}
use Rattle.gql_lexer.specs.declared.error.CstError.TheVariants.{Syntax, RecursionLimit, TokenLimit}
use Rattle.gql_diag.specs.List.{Diagnostics}
use Rattle.gql_diag_messages.specs.declared.details.Details.{Details}
use Rattle.gql_diag_messages.specs.declared.details.Details.TheVariants.{ParserLimit, SyntaxError}
use Rattle.gql_diag_messages.specs.declared.diagnostic_data.DiagnosticData.{DiagnosticData}
use Rattle.gql_parser.specs.Parsers.{Given, its_file}

-- where it stands
abbrev pub range_of : CstError → Range ℕ
range_of (Syntax fault range) = range
range_of (RecursionLimit range) = range
range_of (TokenLimit range) = range

-- a fault of the syntax, or a limit of the parser
abbrev pub details_of : CstError → Details
details_of (Syntax fault range) = SyntaxError (message_of (Syntax fault range))
details_of (RecursionLimit range) = ParserLimit (message_of (RecursionLimit range))
details_of (TokenLimit range) = ParserLimit (message_of (TokenLimit range))

abbrev pub diagnostic : FileId → CstError → DiagnosticData
diagnostic file error = record {
  location = Some (record { file_id = file; offset = (range_of error).start; end_offset = (range_of error).end });
  details = details_of error;
}

-- the list that has this one alone, with its one file
abbrev pub list_of : Given → CstError → Diagnostics
list_of given error = record { sources = its_file given; items = diagnostic given.file error ∷ [] }
