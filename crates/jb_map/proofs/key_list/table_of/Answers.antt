use Rattle.std.proofs.Common.{position, ap, ◌∙◌, arith}
use Rattle.std.specs.Str.{bytes_eq}
use Rattle.jb_map.proofs.KeyLists.{new_key}
use Rattle.jb_map.proofs.key_list.table_of.Goals as goal

pub push-requires : goal.push-requires
push-requires c =
    ap (λ k. position (bytes_eq k) c.loop-text.keys) c.as_str.ensures
    ∙ ap (position (bytes_eq c.text-item.result)) c.loop-text.invariant
    ∙ new_key c.args.texts.now c.loop-text.text-index c.text-item.result (omega arith) c.text-item.is c.requires
