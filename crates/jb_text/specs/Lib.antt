pub mod Ends
pub mod WalkMut
pub mod Plain
pub mod ByteString
pub mod Number
pub mod Numeral
pub mod formers
pub mod bridge
