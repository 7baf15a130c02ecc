-- What the library answers.
use Rattle.std.specs.Prelude.{if◌then◌else◌, ℕ, List, codes, pos}
use Rattle.std.specs.Str.{bytes_eq}
use Rattle.gql_engine.specs.Resolving.{Meaning, gives_leaf, gives_object}
use Rattle.gql_engine.specs.Resolving.json
use Rattle.example_resolver.specs.declared.library.Library.{Library}
use Rattle.example_resolver.specs.declared.library.Library.TheVariants.{Root, Emma}

-- the type of each object
abbrev pub type_of : Library → List ℕ
type_of Root = codes "Query"
type_of Emma = codes "Book"

-- each field of each object; null for all others
abbrev pub field_of : Library → List ℕ → Meaning Library
field_of Root name =
    if bytes_eq name (codes "book") then gives_object Emma
    else gives_leaf json.Null
field_of Emma name =
    if bytes_eq name (codes "title") then gives_leaf (json.String (codes "Emma"))
    else if bytes_eq name (codes "year") then gives_leaf (json.Number (pos 1815))
    else gives_leaf json.Null
