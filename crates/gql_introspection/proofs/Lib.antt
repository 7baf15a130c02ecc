pub mod Lists
pub mod MetaSkips
