pub mod DataMeaning
pub mod DataShape
pub mod Meaning
pub mod Seen
