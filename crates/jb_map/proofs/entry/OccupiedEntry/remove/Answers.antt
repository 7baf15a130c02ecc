use Rattle.std.proofs.Common.{List, ℕ, ap, ◌∙◌}
use Rattle.std.specs.Option.{option_map}
use Rattle.std.proofs.lemmas.Option.{slice_get-map}
use Rattle.jb_map.proofs.EntryLemmas.{without_there}
use Rattle.jb_map.proofs.entry.OccupiedEntry.remove.Goals as goal

pub returns-clause-value : goal.returns-clause-value
returns-clause-value g c =
    slice_get-map (λ (p : List ℕ × g.row.V.Denot). p.1) c.args.self.map.now c.args.self.index
    ∙ ap (option_map (λ (p : List ℕ × g.row.V.Denot). p.1)) c.remove_at-key.ensures.pair

pub returns-clause-removed : goal.returns-clause-removed
returns-clause-removed g c = c.remove_at-key.ensures.pairs ∙ without_there c.args.self c.remove_at-key.result c.remove_at-key.ensures.pair
