pub mod Response
pub mod ErrorAt
pub mod Puts
pub mod Reading
pub mod Held
pub mod Same
pub mod RequestFault
