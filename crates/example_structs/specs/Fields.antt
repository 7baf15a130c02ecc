-- What the fields of the library, its authors and their books are.
use Rattle.std.specs.Prelude.{if◌then◌else◌, ℕ, List, map, Option, Some, None, option_and_then, codes, pos}
use Rattle.std.specs.List.{find, slice_get}
use Rattle.std.specs.Option.{option_map_or}
use Rattle.std.specs.Str.{bytes_eq}
use Rattle.gql_engine.specs.Resolving.{Meaning, Members, gives_leaf, gives_object, gives_objects, fails_with, unknown_field}
use Rattle.gql_engine.specs.Resolving.{natural, number_argument, text_argument}
use Rattle.gql_engine.specs.Resolving.json
use Rattle.example_structs.specs.Thing.{Thing, of_library, of_author, of_book, subject_name, type_of}
use Rattle.example_structs.specs.declared.library.Library.{Library}
use Rattle.example_structs.specs.declared.library.Author.{Author}
use Rattle.example_structs.specs.declared.library.Book.{Book}
use Rattle.example_structs.specs.declared.library.Kind.{Kind}
use Rattle.example_structs.specs.declared.library.Kind.TheVariants.{Novel, Treatise}

abbrev pub text_leaf : List ℕ → Meaning Thing
text_leaf text = gives_leaf (json.String text)

-- the author whom the argument `name` names
abbrev pub author_of_name : Library → Members → Option Author
author_of_name held arguments =
    option_and_then (λ name. find (λ (a : Author). bytes_eq name a.name) held.authors) (text_argument (codes "name") arguments)

abbrev pub author_or_null : Option Author → Meaning Thing
author_or_null found = option_map_or (λ a. gives_object (of_author a)) found (gives_leaf json.Null)

abbrev pub library_field : Library → List ℕ → Members → Option (Meaning Thing)
library_field held field arguments =
    if bytes_eq field (codes "authors") then Some (gives_objects (map of_author held.authors))
    else if bytes_eq field (codes "author") then Some (author_or_null (author_of_name held arguments))
    else None

-- the book at the place that the argument `index` says, from zero
abbrev pub book_at : Author → Members → Option Book
book_at writer arguments = option_and_then (slice_get writer.books) (option_and_then natural (number_argument (codes "index") arguments))

abbrev pub book_or_null : Author → Option Book → Meaning Thing
book_or_null writer found = option_map_or (λ b. gives_object (of_book writer b)) found (gives_leaf json.Null)

abbrev pub author_field : Author → List ℕ → Members → Option (Meaning Thing)
author_field writer field arguments =
    if bytes_eq field (codes "name") then Some (text_leaf writer.name)
    else if bytes_eq field (codes "books") then Some (gives_objects (map (of_book writer) writer.books))
    else if bytes_eq field (codes "book") then Some (book_or_null writer (book_at writer arguments))
    else None

-- null where it is not known
abbrev pub year : Book → Meaning Thing
year book = option_map_or (λ n. gives_leaf (json.Number (pos n))) book.year (gives_leaf json.Null)

-- what a treatise is about
abbrev pub subject_field : Kind → Option (Meaning Thing)
subject_field Novel = None
subject_field (Treatise subject) = Some (text_leaf (subject_name subject))

abbrev pub book_field : Author → Book → List ℕ → Option (Meaning Thing)
book_field writer book field =
    if bytes_eq field (codes "title") then Some (text_leaf book.title)
    else if bytes_eq field (codes "year") then Some (year book)
    else if bytes_eq field (codes "author") then Some (gives_object (of_author writer))
    else if bytes_eq field (codes "subject") then subject_field book.kind
    else None

-- the fields that there are
abbrev pub field_of : Thing → List ℕ → Members → Option (Meaning Thing)
field_of (of_library held) field arguments = library_field held field arguments
field_of (of_author writer) field arguments = author_field writer field arguments
field_of (of_book writer book) field arguments = book_field writer book field

-- any other is a failure
abbrev pub resolves : Thing → List ℕ → Members → Meaning Thing
resolves object field arguments = option_map_or (λ m. m) (field_of object field arguments) (fails_with (unknown_field field (type_of object)))
