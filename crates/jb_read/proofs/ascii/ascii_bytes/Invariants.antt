use Rattle.std.proofs.Common.{◌≡◌, true, take}
use Rattle.std.specs.List.{list_all}
use Rattle.jb_read.specs.bridge.Strings.{is_plain_ascii}
use Rattle.jb_read.proofs.ascii.ascii_bytes.Given as goal

abbrev pub invariant-loop-at : goal.invariant-loop-at
invariant-loop-at l = list_all is_plain_ascii (take l.at l.bytes) ≡ true
