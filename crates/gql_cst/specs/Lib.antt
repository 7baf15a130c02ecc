-- Trees of a text, and what is left of them without ignored tokens.
pub mod Bare
pub mod TreeOf
pub use Rattle.gql_grammar.specs.declared.syntax_kind.SyntaxKind
pub use Rattle.gql_grammar.specs.contracts.syntax_kind.SyntaxKind as SyntaxKindContract
pub use Rattle.gql_lexer.specs.BlockString
pub use Rattle.gql_lexer.specs.Class
pub use Rattle.gql_lexer.specs.Lex
pub use Rattle.gql_lexer.specs.Lexical
pub use Rattle.gql_lexer.specs.Message
pub use Rattle.gql_lexer.specs.Value
pub mod Forest
pub mod Words
pub mod Leaves
pub mod Nesting
pub mod Levels
pub mod Spans
pub mod Late
pub mod Cut
pub mod Outcome
pub mod Report
pub mod Parses
pub mod Checked
pub mod Sentences
pub mod Judged
pub mod bridge
