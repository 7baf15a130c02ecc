pub mod Firsts
pub mod Merging
pub mod Whole
