-- A law for resolvers whose fields are lists of objects, passed on.
pub use Rattle.gql_resolvers.proofs.ObjectLists.{objects-mean}
