use Rattle.std.proofs.Common.{◌≡◌, ◌++◌, map, drop}
use Rattle.gql_ast.specs.Schemas.{location_name}
use Rattle.gql_introspection.specs.Answers.{text_leaf}
use Rattle.gql_introspection.specs.bridge.Items.{answers_in}
use Rattle.gql_introspection.proofs.directive_def.locations.Given as goal

-- the items so far and those that are left make the whole
abbrev pub invariant-loop-location : goal.invariant-loop-location
invariant-loop-location l =
    answers_in l.items ++ map text_leaf (map location_name (drop l.location-index l.locations)) ≡ map text_leaf (map location_name l.locations)
