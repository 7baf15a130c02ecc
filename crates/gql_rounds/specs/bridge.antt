pub mod Asked
pub mod Ready
pub mod Rounds
pub mod Told
pub mod ToldMeaning
pub mod Walked
pub mod Wanted
