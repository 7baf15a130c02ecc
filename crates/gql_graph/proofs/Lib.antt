mod Growing
pub mod Inserted
mod Meetings
mod SetFields
pub mod Heights
pub mod Chained
pub mod Cyclic
pub mod Ends
pub mod Flooded
pub mod Marks
pub mod Parts
pub mod Turned
pub mod Walks
