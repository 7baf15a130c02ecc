use Rattle.std.proofs.Common.{◌≡◌, ◌++◌, map, drop}
use Rattle.example_structs.specs.Thing.{thing, of_book}
use Rattle.example_structs.proofs.entity.books.Given as goal

-- the books so far and those that are left make the whole
abbrev pub invariant-loop-book : goal.invariant-loop-book
invariant-loop-book l = map thing l.found ++ map (of_book l.author) (drop l.book-index l.author.books) ≡ map (of_book l.author) l.author.books
