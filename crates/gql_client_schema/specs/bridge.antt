pub mod Answers
pub mod ClientSchema
pub mod Constants
pub mod Program
pub mod Reading
pub mod References
