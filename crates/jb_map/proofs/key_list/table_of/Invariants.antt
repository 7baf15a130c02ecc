use Rattle.std.proofs.Common.{◌≡◌, take}
use Rattle.jb_map.proofs.key_list.table_of.Given as goal

abbrev pub invariant-loop-text : goal.invariant-loop-text
invariant-loop-text l = l.keys ≡ take l.text-index l.texts
