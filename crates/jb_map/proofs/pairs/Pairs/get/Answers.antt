use Rattle.std.proofs.Common.{sym, ◌∙◌}
use Rattle.std.specs.Str.{bytes_eq}
use Rattle.indexmap.proofs.MapLemmas.{Found-position, Missing-position}
use Rattle.jb_map.proofs.pairs.Pairs.get.Goals as goal

pub returns-in-Some : goal.returns-in-Some
returns-in-Some g c = sym c.value_at.ensures ∙ sym (Found-position (bytes_eq c.args.key.now) c.args.self.now c.in-Some.at (sym c.in-Some.ensures)).value

pub returns-in-None : goal.returns-in-None
returns-in-None g c = sym (Missing-position (bytes_eq c.args.key.now) c.args.self.now (sym c.in-None.ensures)).value
