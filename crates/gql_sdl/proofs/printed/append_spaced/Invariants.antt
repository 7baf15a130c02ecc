use Rattle.std.proofs.Common.{◌≡◌, ◌++◌, map, drop, string_bytes}
use Rattle.gql_sdl.specs.Pieces.{spaced}
use Rattle.gql_sdl.proofs.printed.append_spaced.Given as goal

-- what is written and what is left make the whole text
abbrev pub invariant-loop-item : goal.invariant-loop-item
invariant-loop-item g l =
    string_bytes l.out ++ spaced (map g.T.Printed.text_of (drop l.item-index l.items))
    ≡ string_bytes l.fn.out ++ spaced (map g.T.Printed.text_of l.items)
