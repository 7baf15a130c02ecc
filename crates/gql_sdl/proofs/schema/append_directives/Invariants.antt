use Rattle.std.proofs.Common.{◌≡◌, ◌++◌, drop, string_bytes}
use Rattle.std.specs.List.{flat_map}
use Rattle.gql_sdl.specs.Schemas.{directive_line}
use Rattle.gql_sdl.proofs.schema.append_directives.Given as goal

-- what is written and what is left make the whole text
abbrev pub invariant-loop-directive : goal.invariant-loop-directive
invariant-loop-directive l =
    string_bytes l.out ++ flat_map directive_line (drop l.directive-index l.directives) ≡ string_bytes l.fn.out ++ flat_map directive_line l.directives
