pub mod ClassSteps
pub mod Classes
pub mod Families
pub mod Gathering
pub mod Keying
pub mod Places
pub mod Telling
pub mod Tests
