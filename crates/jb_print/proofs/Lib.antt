pub mod Escapes
pub mod Trees
pub mod Compacts
pub mod Pretties
