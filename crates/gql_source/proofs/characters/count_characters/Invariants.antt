use Rattle.std.proofs.Common.{◌≡◌, take}
use Rattle.std.specs.List.{count_by}
use Rattle.gql_source.specs.Lines.{begins_character}
use Rattle.gql_source.proofs.characters.count_characters.Given as goal

-- what is counted are the characters that begin in the bytes that were gone over
abbrev pub invariant-loop-byte : goal.invariant-loop-byte
invariant-loop-byte l = l.count ≡ count_by begins_character (take l.byte-index l.bytes)
