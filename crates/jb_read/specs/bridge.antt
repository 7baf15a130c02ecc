pub mod Bytes
pub mod Numbers
pub mod Reading
pub mod Strings
pub mod Texts
