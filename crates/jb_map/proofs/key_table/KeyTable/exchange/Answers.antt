use Rattle.std.proofs.Common.{string_bytes, map, swap, ap, ◌∙◌}
use Rattle.indexmap.proofs.ReorderLemmas.{map-swap}
use Rattle.jb_map.proofs.key_table.KeyTable.exchange.Goals as goal

pub returns : goal.returns
returns c =
    ap (map string_bytes) c.swap_indices.ensures.keys ∙ map-swap string_bytes c.self.inside.texts.keys c.args.first c.args.second
    ∙ ap (λ l. swap l c.args.first c.args.second) c.self.view_is
