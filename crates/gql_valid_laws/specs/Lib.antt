pub mod Covariant
pub mod Examples
pub mod Merge
pub mod Outputs
-- What coercion makes of validated documents.
pub mod Marks
pub mod Unmarked
pub mod Inputs
pub mod UnmarkedAnswers
