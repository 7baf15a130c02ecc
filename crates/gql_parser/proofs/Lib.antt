mod Answering
mod Gathered
mod Judging
mod Ordered
mod Shallow
mod BuiltInText
mod Marks
mod One
mod SchemaPhases
pub mod SchemaKept
pub mod Scalars
mod Roots
mod OneDocument
mod OneTelling
mod Phases
mod Running
mod Sets
mod Telling
mod Tied
mod Found
mod SelectedSets
mod Definitions
pub mod Made
pub mod Kept
mod Operations
mod Documents
mod Mixed
mod Sorts
mod Steps
pub mod Typed
mod SourcedFields
mod BuiltInFields
mod Settling
mod OutputFields
