use Rattle.std.proofs.Common.{◌≡◌, ◌++◌, map, drop, Option}
use Rattle.std.specs.List.{filter_map}
use Rattle.gql_ast_base.specs.Names.{Named}
use Rattle.gql_schema_types.specs.Types.{type_called}
use Rattle.gql_schema_types.specs.declared.types.ExtendedType.{ExtendedType}
use Rattle.gql_resolvers.specs.Resolved.{gives_object}
use Rattle.gql_introspection.specs.bridge.Items.{answers_in}
use Rattle.gql_introspection.specs.Meta.{type_def}
use Rattle.gql_introspection.proofs.named_types.named_types.Given as goal

-- the items so far and those that are left make the whole
abbrev pub invariant-loop-name : goal.invariant-loop-name
invariant-loop-name l =
    let found : Named → Option ExtendedType = λ name. type_called name.text l.schema.types in
    answers_in l.items ++ map gives_object (map (type_def l.schema) (filter_map found (drop l.name-index l.names)))
    ≡ map gives_object (map (type_def l.schema) (filter_map found l.names))
