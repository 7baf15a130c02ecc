use Rattle.std.proofs.Common.{string_bytes, map, take, sym, ap, ◌∙◌}
use Rattle.std.specs.List.{take-map}
use Rattle.jb_map.proofs.key_table.KeyTable.cut.Goals as goal

pub returns : goal.returns
returns c =
    ap (map string_bytes) c.truncate.ensures.keys ∙ sym (take-map string_bytes c.args.len c.self.inside.texts.keys) ∙ ap (take c.args.len) c.self.view_is
