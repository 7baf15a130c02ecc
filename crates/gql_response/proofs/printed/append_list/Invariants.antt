use Rattle.std.proofs.Common.{◌≡◌, ◌++◌, false, map, drop, codes, string_bytes}
use Rattle.jb_print.specs.Compact.{compact}
use Rattle.jb_print.specs.bridge.Pieces.{pieces_text}
use Rattle.gql_response.proofs.printed.append_list.Given as goal

-- what is written and what is left make the whole text
abbrev pub invariant-loop-item : goal.invariant-loop-item
invariant-loop-item g l =
    string_bytes l.out ++ (pieces_text l.later (map compact (map g.T.Printed.value_of (drop l.item-index l.items))) ++ codes "]")
    ≡ string_bytes l.fn.out ++ (codes "[" ++ (pieces_text false (map compact (map g.T.Printed.value_of l.items)) ++ codes "]"))
