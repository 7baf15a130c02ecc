use Rattle.std.proofs.Common.{◌≡◌, ◌++◌, false, map, drop, codes, string_bytes}
use Rattle.gql_ast.specs.ValueText.{value_text}
use Rattle.gql_ast.specs.bridge.ValueText.{member_text}
use Rattle.gql_ast.specs.bridge.Pieces.{pieces_text}
use Rattle.gql_ast.proofs.value_text.+write.Given as goal

-- what is written and what is left make the whole text
abbrev pub invariant-write_items-loop-item : goal.invariant-write_items-loop-item
invariant-write_items-loop-item l =
    string_bytes l.out ++ (pieces_text l.later (map value_text (drop l.item-index l.item-items)) ++ codes "]") ≡ string_bytes l.fn.out ++ (codes "[" ++ (pieces_text false (map value_text l.items) ++ codes "]"))

abbrev pub invariant-write_members-loop-member : goal.invariant-write_members-loop-member
invariant-write_members-loop-member l =
    string_bytes l.out ++ (pieces_text l.later (map member_text (drop l.member-index l.member-items)) ++ codes "}") ≡ string_bytes l.fn.out ++ (codes "{" ++ (pieces_text false (map member_text l.members) ++ codes "}"))
