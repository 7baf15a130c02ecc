mod InTurn
pub mod Texts
pub mod ReadsBack
pub mod Equality
