-- Errors in words.
use Rattle.std.specs.Prelude.{ℕ, List, codes}
use Rattle.gql_lexer.specs.declared.error.CstError.{CstError}
use Rattle.gql_lexer.specs.declared.error.CstError.TheVariants.{Syntax, RecursionLimit, TokenLimit}
use Rattle.gql_lexer.specs.declared.error.SyntaxFault.{SyntaxFault}
use Rattle.gql_lexer.specs.declared.error.SyntaxFault.TheVariants.{EndOfText, BadCharacter, OpenString, BadEscape, BadNumber, BadToken}

abbrev pub fault_message : SyntaxFault → List ℕ
fault_message EndOfText = codes "Unexpected <EOF>."
fault_message BadCharacter = codes "unexpected character"
fault_message OpenString = codes "unterminated string"
fault_message BadEscape = codes "invalid escape in string"
fault_message BadNumber = codes "invalid number"
fault_message BadToken = codes "unexpected token"

abbrev pub message_of : CstError → List ℕ
message_of (Syntax fault range) = fault_message fault
message_of (RecursionLimit range) = codes "parser recursion limit reached"
message_of (TokenLimit range) = codes "token limit reached, aborting lexing"
