use Rattle.std.proofs.Common.{◌≡◌, true, false, sym}
use Rattle.std.specs.List.{list_any}
use Rattle.std.specs.Map.{keys_of}
use Rattle.std.specs.Str.{bytes_eq}
use Rattle.jb_shape.proofs.Known.{all_stops, all_more}
use Rattle.jb_shape.proofs.variants.all_known.Goals as goal

pub returns-then-not-is_known : goal.returns-then-not-is_known
returns-then-not-is_known c =
    let known : list_any (bytes_eq c.key_at.result.now) c.args.known.now ≡ false = cc in
    sym (all_stops (λ name. list_any (bytes_eq name) c.args.known.now) (keys_of c.args.members.now) c.loop-index.index c.key_at.result.now c.key_at.ensures known)

pub loop-index-preserved : goal.loop-index-preserved
loop-index-preserved c =
    let known : list_any (bytes_eq c.key_at.result.now) c.args.known.now ≡ true = cc in
    all_more (λ name. list_any (bytes_eq name) c.args.known.now) (keys_of c.args.members.now) c.loop-index.index c.key_at.result.now c.key_at.ensures
    c.loop-index.invariant known
