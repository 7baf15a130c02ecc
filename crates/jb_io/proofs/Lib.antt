pub mod Nesting
pub mod PrettyPrinted
pub mod Printed
pub mod Settled
pub mod Strings
pub mod TakesLemmas
mod Alike
mod Deep
mod Nested
