mod Flats
pub mod Groups
pub mod Runs
pub mod Steady
-- Equations, one selection after the other.
pub mod Collected
pub mod Deep
pub mod Entering
-- The examples, computed.
mod Opened
mod Computed
pub mod Counting
mod Doubling
pub mod FailedItem
pub mod InnerNull
pub mod RootNull
pub mod Merged
pub mod Nulls
pub mod DeepFields
pub mod Inputs
pub mod Explaining
pub mod Ways
pub mod Unlisted
