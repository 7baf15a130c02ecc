use Rattle.std.proofs.Common.{◌≡◌, ℕ, List, [], take, Ok}
use Rattle.std.specs.Str.{bytes_eq}
use Rattle.indexmap.specs.IndexMap.{insert_all}
use Rattle.jb_tree.specs.declared.value.Value.{Value}
use Rattle.jb_shape.specs.Outcome.{each}
use Rattle.jb_shape.specs.Lists.{member_value}
use Rattle.jb_shape.proofs.members.MembersToValue.to_value.Given as goal

abbrev pub invariant-loop-pair : goal.invariant-loop-pair
invariant-loop-pair g l =
    (texts : List (List ℕ × Value)) × (each (member_value g.K.MapKey.key_text g.V.ToValue.shape) (take l.pair-index l.pair-items) ≡ Ok texts)
    × (l.members ≡ insert_all bytes_eq [] texts)
