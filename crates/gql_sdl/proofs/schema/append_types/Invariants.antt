use Rattle.std.proofs.Common.{◌≡◌, ◌++◌, drop, string_bytes}
use Rattle.std.specs.List.{flat_map}
use Rattle.gql_sdl.specs.Schemas.{type_line}
use Rattle.gql_sdl.proofs.schema.append_types.Given as goal

-- what is written and what is left make the whole text
abbrev pub invariant-loop-ty : goal.invariant-loop-ty
invariant-loop-ty l =
    string_bytes l.out ++ flat_map type_line (drop l.ty-index l.types) ≡ string_bytes l.fn.out ++ flat_map type_line l.types
