use Rattle.std.proofs.Common.{rules, ◌≡◌, true, ◌∷◌, Some, sym, ◌∙◌}
use Rattle.gql_response_check.proofs.Leaves.{alone}
use Rattle.gql_response_check.proofs.error_at_place.are_locations.Goals as goal

pub returns-then-is_place : goal.returns-then-is_place
returns-then-is_place c =
    let first = c.in-Some.first.now in
    let place = c.in-Some-place.place in
    let is : c.args.locations.now ≡ first ∷ c.in-Some.rest.now = search rules in
    let some : c.args.place ≡ Some place = search rules in
    let yes : c.is_place.result ≡ true = search rules in
    alone c.args.locations.now c.in-Some.rest.now c.args.place first place c.is_empty.result is some (sym c.is_place.ensures ∙ yes) c.is_empty.ensures
