pub mod ApartKeys
pub mod Flats
pub mod Filtered
pub mod Paths
pub mod Rows
pub mod Parts
pub mod Wholes
pub mod Spreads
mod PureParts
pub mod Locally
mod Parting
mod Locals
mod AbsentKeys
mod Divisions
mod SeenKeys
mod Filing
mod Adding
mod Chosen
mod Divisible
mod Local
mod Exact
mod Calls
mod Lines
