mod Roots
mod One
mod Exact
mod Lines
mod Own
