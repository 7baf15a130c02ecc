mod Fragments
mod Keys
mod RootMeasure
mod RootWay
pub mod Sizes
