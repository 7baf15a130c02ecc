use Rattle.std.proofs.Common.{◌≡◌, take, Ok}
use Rattle.jb_shape.specs.Outcome.{each}
use Rattle.gql_response.specs.Reading.{read_location}
use Rattle.gql_response.proofs.location.read_locations.Given as goal

abbrev pub invariant-loop-value : goal.invariant-loop-value
invariant-loop-value l = each read_location (take l.value-index l.value-items) ≡ Ok l.locations
