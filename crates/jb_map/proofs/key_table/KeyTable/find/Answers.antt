use Rattle.std.proofs.Common.{string_bytes, sym, ◌∙◌, ap, position}
use Rattle.std.specs.Str.{bytes_eq}
use Rattle.jb_map.proofs.Positions.{position-map}
use Rattle.jb_map.proofs.key_table.KeyTable.find.Goals as goal

pub returns : goal.returns
returns c =
    let mapped = position-map string_bytes (bytes_eq c.args.key.now) c.self.inside.texts.keys in
    c.get_index_of.ensures.index ∙ sym mapped ∙ ap (position (bytes_eq c.args.key.now)) c.self.view_is
