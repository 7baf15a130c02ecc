use Rattle.std.proofs.Common.{◌≡◌, ◌++◌, false, map, drop, codes, string_bytes}
use Rattle.jb_print.specs.Compact.{compact}
use Rattle.jb_print.specs.bridge.Pieces.{pieces_text, member_piece}
use Rattle.jb_print.proofs.compact.+compact.Given as goal

-- what is written and what is left make the whole text
abbrev pub invariant-write_items-loop-item : goal.invariant-write_items-loop-item
invariant-write_items-loop-item l =
    string_bytes l.out ++ (pieces_text l.later (map compact (drop l.item-index l.item-items)) ++ codes "]") ≡ string_bytes l.fn.out ++ (codes "[" ++ (pieces_text false (map compact l.items) ++ codes "]"))

abbrev pub invariant-write_members-loop-index : goal.invariant-write_members-loop-index
invariant-write_members-loop-index l =
    string_bytes l.out ++ (pieces_text l.later (map member_piece (drop l.index l.members)) ++ codes "}") ≡ string_bytes l.fn.out ++ (codes "{" ++ (pieces_text false (map member_piece l.members) ++ codes "}"))
