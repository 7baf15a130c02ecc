-- What a query can reach.
use Rattle.std.specs.Prelude.{ℕ, List, codes}
use Rattle.example_structs.specs.declared.library.Library.{Library}
use Rattle.example_structs.specs.declared.library.Author.{Author}
use Rattle.example_structs.specs.declared.library.Book.{Book}
use Rattle.example_structs.specs.declared.library.Kind.{Kind}
use Rattle.example_structs.specs.declared.library.Kind.TheVariants.{Novel, Treatise}
use Rattle.example_structs.specs.declared.library.Subject.{Subject}
use Rattle.example_structs.specs.declared.library.Subject.TheVariants.{Geometry, Optics}
use Rattle.example_structs.specs.declared.entity.Entity.{Entity}
use Rattle.example_structs.specs.declared.entity.Entity.TheVariants as entity

pub data Thing : Type 0 where
  of_library : Library → Thing
  of_author : Author → Thing
  of_book : Author → Book → Thing

-- an entity, wherever in memory the library lies
abbrev pub thing : Entity → Thing
thing (entity.Library held) = of_library held.now
thing (entity.Author held) = of_author held.now
thing (entity.Book book writer) = of_book writer.now book.now

-- the type of a book
abbrev pub type_of_kind : Kind → List ℕ
type_of_kind Novel = codes "Novel"
type_of_kind (Treatise _) = codes "Treatise"

abbrev pub subject_name : Subject → List ℕ
subject_name Geometry = codes "GEOMETRY"
subject_name Optics = codes "OPTICS"

-- the type of each
abbrev pub type_of : Thing → List ℕ
type_of (of_library _) = codes "Query"
type_of (of_author _) = codes "Author"
type_of (of_book _ book) = type_of_kind book.kind
