pub mod Program
pub mod Reply
pub mod Style
