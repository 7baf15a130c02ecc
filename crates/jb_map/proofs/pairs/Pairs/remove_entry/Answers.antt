use Rattle.std.proofs.Common.{sym, ◌∙◌}
use Rattle.std.specs.Str.{bytes_eq}
use Rattle.indexmap.proofs.MapLemmas.{Found-position, Missing-position, swap_remove_entry-found}
use Rattle.jb_map.proofs.Entries.{first_pair, no_pair}
use Rattle.jb_map.proofs.pairs.Pairs.remove_entry.Goals as goal

pub returns-in-Some-clause-pair : goal.returns-in-Some-clause-pair
returns-in-Some-clause-pair g c =
    let t = bytes_eq c.args.key.now in
    let es = c.args.self.now in
    sym c.remove_at.ensures.pair ∙ sym (first_pair t es c.in-Some.at (Found-position t es c.in-Some.at (sym c.in-Some.ensures)).first)

pub returns-in-Some-clause-pairs : goal.returns-in-Some-clause-pairs
returns-in-Some-clause-pairs g c =
    c.remove_at.ensures.pairs ∙ sym (swap_remove_entry-found (bytes_eq c.args.key.now) c.args.self.now c.in-Some.at c.remove_at.result (sym c.in-Some.ensures))

pub returns-in-None-clause-pair : goal.returns-in-None-clause-pair
returns-in-None-clause-pair g c =
    let t = bytes_eq c.args.key.now in
    sym (no_pair t c.args.self.now (Missing-position t c.args.self.now (sym c.in-None.ensures)).absent)
