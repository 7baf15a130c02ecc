pub mod ByName
pub mod Missing
pub mod Subject
pub mod Told
pub mod Translation
pub mod Wanted
