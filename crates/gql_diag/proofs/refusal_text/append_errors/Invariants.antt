use Rattle.std.proofs.Common.{◌≡◌, ◌++◌, false, map, drop, codes, string_bytes}
use Rattle.jb_print.specs.Compact.{compact}
use Rattle.jb_print.specs.bridge.Pieces.{pieces_text}
use Rattle.gql_response.specs.Response.{error_value}
use Rattle.gql_diag.specs.Refusal.{error_of}
use Rattle.gql_diag.proofs.refusal_text.append_errors.Given as goal

-- what is written and what is left make the whole text
abbrev pub invariant-loop-item : goal.invariant-loop-item
invariant-loop-item l =
    string_bytes l.out ++ (pieces_text l.later (map compact (map error_value (map (error_of l.sources) (drop l.item-index l.items)))) ++ codes "]")
    ≡ string_bytes l.fn.out ++ (codes "[" ++ (pieces_text false (map compact (map error_value (map (error_of l.sources) l.items))) ++ codes "]"))
