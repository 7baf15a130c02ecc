use Rattle.std.proofs.Common.{ap, ◌∙◌, position}
use Rattle.std.specs.Str.{bytes_eq}
use Rattle.indexmap.proofs.ReorderLemmas.{parts}
use Rattle.jb_map.proofs.pairs.Pairs.find.Goals as goal

pub returns : goal.returns
returns g c =
    let o = parts _ _ _ c.self.view_is c.self.invariant in
    c.find.ensures ∙ ap (position (bytes_eq c.args.key.now)) o.keys
