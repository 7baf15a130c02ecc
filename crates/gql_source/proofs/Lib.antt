pub mod Files
pub mod LineStarts
mod Joined
pub mod LineSteps
pub mod CharacterCounts
mod LineEnds
