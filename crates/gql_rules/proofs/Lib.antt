mod Entries
mod Firsts
mod Known
mod Members
mod Noted
mod Reaches
mod Steps
mod Told
pub mod Layers
pub mod Listed
pub mod UntypedLayers
