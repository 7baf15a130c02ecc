use Rattle.std.proofs.Common.{◌≡◌, ◌++◌, map, drop}
use Rattle.gql_resolvers.specs.Resolved.{gives_object}
use Rattle.gql_introspection.specs.bridge.Items.{answers_in}
use Rattle.gql_introspection.proofs.shown.all_shown.Given as goal

-- the items so far and those that are left make the whole
abbrev pub invariant-loop-part : goal.invariant-loop-part
invariant-loop-part g l =
    let shows = g.T.Shown.shows l.schema in
    answers_in l.items ++ map gives_object (map shows (drop l.part-index l.parts)) ≡ map gives_object (map shows l.parts)
