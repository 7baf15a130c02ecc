-- What only private clauses and proofs cite, beside `Index`.
use Rattle.std.specs.Prelude.{◌≡◌, ⊤}
use Rattle.std.specs.Prelude.{Result, Ok, Err}
use Rattle.jb_tree.specs.declared.index.IndexError.{IndexError}
use Rattle.jb_tree.specs.declared.value.Value.{Value}

-- whether a value has a place, by what making it would give
abbrev pub HasPlace : Result ⊤ IndexError → Result Value IndexError → Value → Type 0
HasPlace (Ok _) made value = made ≡ Ok value
HasPlace (Err fault) made value = made ≡ Err fault
