use Rattle.std.proofs.Common.{◌≡◌, ◌++◌, map, filter, drop}
use Rattle.gql_resolvers.specs.Resolved.{gives_object}
use Rattle.gql_introspection.specs.bridge.Items.{answers_in}
use Rattle.gql_introspection.specs.Meta.{type_def}
use Rattle.gql_introspection.specs.TypeDef.{is_implementing}
use Rattle.gql_introspection.proofs.type_def.implementing.Given as goal

-- the items so far and those that are left make the whole
abbrev pub invariant-loop-ty : goal.invariant-loop-ty
invariant-loop-ty l =
    answers_in l.items ++ map gives_object (map (type_def l.schema) (filter (is_implementing l.interface) (drop l.ty-index l.ty-items)))
    ≡ map gives_object (map (type_def l.schema) (filter (is_implementing l.interface) l.ty-items))
