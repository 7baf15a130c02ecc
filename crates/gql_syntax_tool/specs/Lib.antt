pub mod Reply
pub mod Start
