pub mod Causes
pub mod Divided
pub mod Joined
pub mod Joining
pub mod KeysSeen
pub mod Sides
pub mod Told
