use Rattle.std.proofs.Common.{◌≡◌, ◌++◌, length, string_bytes}
use Rattle.std.specs.List.{flat_map}
use denote.Text.{Utf8}
use denote.Shadow.{shadow}
use Rattle.jb_print.specs.Quoted.{escaped}
use Rattle.jb_print.proofs.text.write_escaped.Given as goal

abbrev pub invariant-loop-out : goal.invariant-loop-out
invariant-loop-out l =
    shadow (Utf8 l.rest)
    × (string_bytes l.out ++ flat_map escaped l.rest ≡ string_bytes l.fn.out ++ flat_map escaped l.text)

abbrev pub decreases-loop-out : goal.decreases-loop-out
decreases-loop-out l = length l.rest
