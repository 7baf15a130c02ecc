use Rattle.std.proofs.Common.{sym, subst}
use Rattle.gql_schema_types.specs.Schemas.{field_of}
use Rattle.gql_resolvers.specs.Meaning.{Answers, itself}
use Rattle.gql_resolvers.specs.ResolveInfo.{field_name_of, object_type_of, schema_of}
use Rattle.gql_resolvers.proofs.Shapes.{simple-is-leaf}
use Rattle.gql_resolvers.proofs.data_object.field_value.Goals as goal

pub returns-then-is_simple : goal.returns-then-is_simple
returns-then-is_simple c =
    let info = c.args.info.now in
    let definition = field_of (schema_of info) (object_type_of info).name.text (field_name_of info) in
    let simple = c.is_simple.ensures c.if-is_simple.true in
    subst (λ m. Answers itself c.leaf.result m) (sym (simple-is-leaf (schema_of info) definition c.args.value.now simple.0 simple.1)) c.leaf.ensures
