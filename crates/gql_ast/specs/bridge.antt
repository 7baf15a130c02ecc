pub mod Pieces
pub mod Selections
pub mod ValueText
