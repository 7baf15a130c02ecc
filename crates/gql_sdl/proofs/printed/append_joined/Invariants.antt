use Rattle.std.proofs.Common.{◌≡◌, ◌++◌, false, map, drop, string_bytes}
use Rattle.gql_sdl.specs.Pieces.{pieces}
use Rattle.gql_sdl.proofs.printed.append_joined.Given as goal

-- what is written and what is left make the whole text
abbrev pub invariant-loop-item : goal.invariant-loop-item
invariant-loop-item g l =
    string_bytes l.out ++ pieces l.between l.later (map g.T.Printed.text_of (drop l.item-index l.items))
    ≡ string_bytes l.fn.out ++ pieces l.between false (map g.T.Printed.text_of l.items)
