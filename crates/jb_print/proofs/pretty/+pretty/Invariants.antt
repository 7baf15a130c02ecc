use Rattle.std.proofs.Common.{◌≡◌, ◌++◌, false, map, drop, string_bytes}
use Rattle.jb_print.specs.bridge.Pieces.{pieces_text, item_line, member_line}
use Rattle.jb_print.proofs.pretty.+pretty.Given as goal

-- what is written and what is left make the whole text
abbrev pub invariant-write_items-loop-item : goal.invariant-write_items-loop-item
invariant-write_items-loop-item l =
    string_bytes l.out ++ pieces_text l.later (map (item_line l.line) (drop l.item-index l.item-items)) ≡ string_bytes l.fn.out ++ pieces_text false (map (item_line l.line) l.items)

abbrev pub invariant-write_members-loop-index : goal.invariant-write_members-loop-index
invariant-write_members-loop-index l =
    string_bytes l.out ++ pieces_text l.later (map (member_line l.line) (drop l.index l.members)) ≡ string_bytes l.fn.out ++ pieces_text false (map (member_line l.line) l.members)
