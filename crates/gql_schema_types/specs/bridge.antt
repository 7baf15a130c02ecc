pub mod Implementers
