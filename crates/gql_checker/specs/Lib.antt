pub mod Judged
pub mod Told
pub mod Command
pub mod Program
pub mod bridge
