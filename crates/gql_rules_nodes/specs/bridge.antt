pub mod DocumentNodes
pub mod MissingSubselection
pub mod Nodes
pub mod UniqueVariable
