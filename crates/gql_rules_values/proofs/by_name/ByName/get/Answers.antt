use Rattle.std.proofs.Common.{◌<◌, length, slice_get, sym, ap, ◌∙◌, subst}
use Rattle.std.proofs.lemmas.Option.{slice_get-get_or}
use Rattle.gql_rules_values.proofs.by_name.ByName.get.Goals as goal
use Rattle.gql_schema_types.proofs.Lookups.{found, missing, place_within}
use Rattle.gql_schema_types.specs.Entries.{is_called}

pub returns-in-Some : goal.returns-in-Some
returns-in-Some g c =
    let p = is_called g.T.Placed.name_of c.args.name.now in
    let xs = c.self.inside.items.now in
    let i = c.in-Some.at in
    let within : i < length xs = subst (λ l. i < length l) (sym c.self.view_is) (place_within p c.args.self.now i (sym c.in-Some.ensures)) in
    sym (found p c.args.self.now i (sym c.in-Some.ensures) ∙ ap (λ l. slice_get l i) (sym c.self.view_is) ∙ slice_get-get_or xs i c.index-self-at.result within)

pub returns-in-None : goal.returns-in-None
returns-in-None g c = sym (missing (is_called g.T.Placed.name_of c.args.name.now) c.args.self.now (sym c.in-None.ensures))
