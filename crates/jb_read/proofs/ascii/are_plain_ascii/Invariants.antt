use Rattle.std.proofs.Common.{◌≡◌, ◌&&◌, drop}
use Rattle.std.specs.List.{list_all}
use Rattle.jb_read.specs.bridge.Strings.{is_plain_ascii}
use Rattle.jb_read.proofs.ascii.are_plain_ascii.Given as goal

abbrev pub invariant-loop-byte : goal.invariant-loop-byte
invariant-loop-byte l = (l.plain && list_all is_plain_ascii (drop l.byte-index l.bytes)) ≡ list_all is_plain_ascii l.bytes
