pub mod Judged
pub mod Operations
pub mod UndefinedVariable
pub mod UntypedSelections
pub mod Uses
pub mod Views
