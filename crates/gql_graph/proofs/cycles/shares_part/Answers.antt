use Rattle.std.proofs.Common.{refl, sym, ap, ◌∙◌, length}
use Rattle.std.proofs.lemmas.Option.{slice_get_read, slice_get_past}
use Rattle.gql_graph.specs.bridge.Cycles.{in_part}
use Rattle.gql_graph.proofs.cycles.shares_part.Goals as goal

pub returns-in-Some : goal.returns-in-Some
returns-in-Some c =
    let parts = c.args.parts.now in
    c.any_in_part.ensures ∙ ap (in_part parts c.args.others.now) (sym (slice_get_read parts (length parts) c.args.node c.in-Some.part.now refl c.in-Some.ensures.lookup.3.0 c.in-Some.ensures.lookup.1))

pub returns-in-None : goal.returns-in-None
returns-in-None c = ap (in_part c.args.parts.now c.args.others.now) (sym (slice_get_past c.args.parts.now c.args.node c.in-None.ensures.lookup.3))
