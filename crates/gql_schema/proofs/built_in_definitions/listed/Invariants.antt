use Rattle.std.proofs.Common.{◌≡◌, take}
use Rattle.gql_schema.proofs.built_in_definitions.listed.Given as goal

abbrev pub invariant-loop-place : goal.invariant-loop-place
invariant-loop-place l = l.list ≡ take l.place-index l.places
