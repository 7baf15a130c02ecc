-- Lists of things with names.
use Rattle.std.specs.Prelude.{ℕ, Bool, not, List, [], ◌∷◌, ◌++◌, Option, if◌then◌else◌, is_some, map}
use Rattle.std.specs.Option.{option_map_or}
use Rattle.std.specs.List.{find, filter}
use Rattle.std.specs.Str.{bytes_eq}
use Rattle.gql_ast_base.specs.Names.{Named}

module _ {X : Type 0} (own : X → Named) where
  -- the texts of their names
  abbrev pub texts : List X → List (List ℕ)
  texts xs = map (λ x. (own x).text) xs

  -- it has the name
  abbrev pub is_called : List ℕ → X → Bool
  is_called name x = bytes_eq name (own x).text

  -- the first of the name
  abbrev pub entry : List ℕ → List X → Option X
  entry name xs = find (is_called name) xs

  -- x in the place of the first of its name, or else last
  abbrev pub put : List X → X → List X
  put [] x = x ∷ []
  put (y ∷ ys) x = if is_called (own x).text y then x ∷ ys else y ∷ put ys x

  -- those of other names
  abbrev pub without : List ℕ → List X → List X
  without name xs = filter (λ x. not (is_called name x)) xs

  -- x last, unless there is one of its name
  abbrev pub put_new : List X → X → List X
  put_new xs x = if is_some (entry (own x).text xs) then xs else xs ++ x ∷ []

  -- the entries, and behind them the others in order, of each name the first
  abbrev pub joined : List X → List X → List X
  joined seen [] = seen
  joined seen (x ∷ xs) = joined (put_new seen x) xs

  -- x and the one of its name, if there is one
  abbrev pub repeat : List X → X → List (X × X)
  repeat seen x = option_map_or (λ first. (x, first) ∷ []) (entry (own x).text seen) []

  -- those that have the name of one that came before, each with the first of its name
  abbrev pub repeats : List X → List X → List (X × X)
  repeats seen [] = []
  repeats seen (x ∷ xs) = repeat seen x ++ repeats (put_new seen x) xs
