pub mod ChosenOperation
pub mod Counted
pub mod Expanded
pub mod RootWalk
