use Rattle.std.proofs.Common.{List, ℕ, sym, ap, ◌∙◌}
use Rattle.std.specs.Option.{option_map}
use Rattle.std.specs.Str.{bytes_eq}
use Rattle.jb_map.proofs.Entries.{lookup_by_entry}
use Rattle.jb_map.proofs.pairs.Pairs.remove.Goals as goal

pub returns-in-Some-clause-value : goal.returns-in-Some-clause-value
returns-in-Some-clause-value g c =
    ap (option_map (λ (p : List ℕ × g.row.V.Denot). p.1)) c.in-Some.ensures.pair ∙ sym (lookup_by_entry (bytes_eq c.args.key.now) c.args.self.now)

pub returns-clause-value : goal.returns-clause-value
returns-clause-value g c =
    ap (option_map (λ (p : List ℕ × g.row.V.Denot). p.1)) c.in-None.ensures.pair ∙ sym (lookup_by_entry (bytes_eq c.args.key.now) c.args.self.now)
