mod CountCalls
pub mod Counts
mod ExpandCalls
mod Fixed
mod Row
pub mod Views
pub mod Measure
mod RootWalk
mod Spread
pub mod Spreadless
pub mod Variants
