pub mod Selected
pub mod Variants
pub mod Texts
mod Choices
mod Words
