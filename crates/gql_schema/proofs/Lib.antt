pub mod Cut
pub mod Types
pub mod Known
pub mod TypeRows
