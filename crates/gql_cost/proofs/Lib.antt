mod Alls
pub mod Standing
mod Collected
mod Sizes
mod Bound
mod Sums
mod Groups
mod Rooms
mod Fixed
pub mod Costs
pub mod Evens
mod Caps
mod Selections
mod Walks
mod Sized
mod WalkCalls
mod Whole
mod SmallQueries
mod Chosen
mod Exact
mod Bounded
mod CostRefusals
mod Calls
mod Lines
mod TwoWords
