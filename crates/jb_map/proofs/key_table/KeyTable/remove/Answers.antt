use Rattle.std.proofs.Common.{string_bytes, map, remove, ap, ◌∙◌}
use Rattle.indexmap.proofs.SetLemmas.{map-remove}
use Rattle.jb_map.proofs.key_table.KeyTable.remove.Goals as goal

pub returns : goal.returns
returns c =
    ap (map string_bytes) c.shift_remove_index-key.ensures.keys ∙ map-remove string_bytes c.self.inside.texts.keys c.args.index ∙ ap (λ l. remove l c.args.index) c.self.view_is
