pub mod BlockWriting
pub mod Lex
pub mod Lexical
pub mod Reading
pub mod Value
