use Rattle.gql_introspection.proofs.MetaSkips.{meta-whole, type-field-whole}
use Rattle.gql_introspection.proofs.laws.introspection_never_skips.Goals as goal

pub returns : goal.returns
returns c = record {
  objects = λ object f arguments. meta-whole object f arguments;
  schema_field = λ schema. tt;
  type_field = λ schema arguments. type-field-whole schema arguments;
}
