use Rattle.std.proofs.Common.{◌≡◌, ◌+◌, drop}
use Rattle.std.specs.List.{prefix_len}
use Rattle.jb_text.specs.Plain.{is_plain}
use Rattle.jb_text.proofs.plain.plain_length.Given as goal

abbrev pub invariant-loop-at : goal.invariant-loop-at
invariant-loop-at l = l.at + prefix_len is_plain (drop l.at l.bytes) ≡ prefix_len is_plain l.bytes
