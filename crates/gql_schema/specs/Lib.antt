pub mod Rows
pub mod BuiltInSchema
pub mod Builders
pub use Rattle.gql_schema.specs.BuiltInSchema
pub mod bridge
