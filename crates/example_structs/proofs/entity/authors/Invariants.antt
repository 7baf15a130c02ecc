use Rattle.std.proofs.Common.{◌≡◌, ◌++◌, map, drop}
use Rattle.example_structs.specs.Thing.{thing, of_author}
use Rattle.example_structs.proofs.entity.authors.Given as goal

-- the authors so far and those that are left make the whole
abbrev pub invariant-loop-author : goal.invariant-loop-author
invariant-loop-author l = map thing l.found ++ map of_author (drop l.author-index l.library.authors) ≡ map of_author l.library.authors
