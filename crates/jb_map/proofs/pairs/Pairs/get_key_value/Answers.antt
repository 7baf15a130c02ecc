use Rattle.std.proofs.Common.{sym, ◌∙◌}
use Rattle.std.specs.Str.{bytes_eq}
use Rattle.indexmap.proofs.MapLemmas.{Found-position, Missing-position}
use Rattle.jb_map.proofs.Entries.{pair_get, first_pair, no_pair}
use Rattle.jb_map.proofs.pairs.Pairs.get_key_value.Goals as goal

pub returns-in-Some : goal.returns-in-Some
returns-in-Some g c =
    let t = bytes_eq c.args.key.now in
    let es = c.args.self.now in
    sym (pair_get es c.in-Some.at c.key_at.result.now c.value_at.result.now c.key_at.ensures c.value_at.ensures)
    ∙ sym (first_pair t es c.in-Some.at (Found-position t es c.in-Some.at (sym c.in-Some.ensures)).first)

pub returns-in-None : goal.returns-in-None
returns-in-None g c =
    let t = bytes_eq c.args.key.now in
    sym (no_pair t c.args.self.now (Missing-position t c.args.self.now (sym c.in-None.ensures)).absent)
