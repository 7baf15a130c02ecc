use Rattle.std.proofs.Common.{◌<◌, length, string_bytes, swap_remove, ap, ◌∙◌, arith}
use Rattle.std.proofs.lemmas.List.{length-map}
use Rattle.jb_map.proofs.Positions.{removed_texts}
use Rattle.jb_map.proofs.key_table.KeyTable.swap_remove.Goals as goal

pub returns : goal.returns
returns c d =
    let ks = c.self.inside.texts.keys in
    let within : c.args.index < length ks = omega (arith, c.requires, ap length c.self.view_is, length-map ks string_bytes) in
    removed_texts string_bytes ks c.swap_remove_index-key.new.self.keys c.args.index c.swap_remove_index-key.result within c.swap_remove_index-key.ensures.key c.swap_remove_index-key.ensures.keys d
    ∙ ap (λ l. swap_remove l c.args.index d) c.self.view_is
