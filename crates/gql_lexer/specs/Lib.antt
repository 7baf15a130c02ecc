pub mod BlockString
pub mod Class
pub mod Lex
pub mod Lexical
pub mod Message
pub mod Value
pub mod bridge
