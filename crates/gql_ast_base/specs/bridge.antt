pub mod Parts
pub mod Types
pub mod Values
pub use Rattle.gql_cst.specs.bridge.Forest
