use Rattle.std.proofs.Common.{ap, ◌∙◌}
use Rattle.std.specs.Map.{lookup}
use Rattle.std.specs.Str.{bytes_eq}
use Rattle.gql_rules_values.proofs.Places.{places-more}
use Rattle.gql_rules_values.proofs.by_name.places_of.Goals as goal

pub loop-at-preserved : goal.loop-at-preserved
loop-at-preserved g c name =
    ap (lookup (bytes_eq name)) c.in_ok-note_place.ensures
    ∙ places-more g.T.Placed.name_of c.args.items.now c.loop-at.at c.index-items-at.result c.loop-at-test.true c.index-items-at.is name c.loop-at.places (c.loop-at.invariant name)
