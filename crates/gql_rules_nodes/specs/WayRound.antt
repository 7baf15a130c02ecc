-- The way from a fragment back to itself, as it is told.
use Rattle.std.specs.Prelude.{ℕ, zero, suc, ◌==◌, Bool, List, [], ◌∷◌, ◌++◌, map, if◌then◌else◌, codes}
use Rattle.std.specs.Prelude.{option_to_list, Option, Some, None, slice_get}
use Rattle.std.specs.List.{find, flat_map}
use Rattle.std.specs.Option.{option_and_then, option_map_or, unwrap_or}
use Rattle.gql_document_types.specs.declared.fragment.Fragment.{Fragment}
use Rattle.gql_graph.specs.Chains.{is_marked}
use Rattle.gql_graph.specs.Graph.{Graph}

-- at each fragment the first that is spread in it and marked as recursive
abbrev pub first_recursive : Graph → List Bool → List (Option ℕ)
first_recursive g recursive = map (find (is_marked recursive)) g

abbrev pub named : Option ℕ → List ℕ
named next = option_to_list next

module _ (nexts : List (Option ℕ)) where
  abbrev pub next_of : ℕ → Option ℕ
  next_of v = unwrap_or (slice_get nexts v) None

  abbrev pub next : Option ℕ → Option ℕ
  next at = option_and_then next_of at

-- the way goes on from the next one, unless it is back there
abbrev pub further : ℕ → Option ℕ → Option ℕ
further start at = option_and_then (λ v. if v == start then None else Some v) at

module _ (nexts : List (Option ℕ)) where
  -- so many names more
  unfoldable pub way_on : ℕ → ℕ → Option ℕ → List ℕ
  way_on start zero at = []
  way_on start (suc more) at = named (next nexts at) ++ way_on start more (further start (next nexts at))

  -- from each fragment to the first recursive one that it spreads, until the way is back or has 32 names
  abbrev pub way_round : ℕ → List ℕ
  way_round start = way_on start 32 (Some start)

abbrev pub quoted : List ℕ → List ℕ
quoted name = codes "\"" ++ (name ++ codes "\"")

module _ (fragments : List Fragment) where
  abbrev pub name_of : ℕ → List ℕ
  name_of v = option_map_or (λ (fragment : Fragment). fragment.name.text) (slice_get fragments v) []

  abbrev pub another : ℕ → List ℕ
  another v = codes ", " ++ quoted (name_of v)

  -- the names of these fragments, in quotation marks and with commas between
  abbrev pub way_text : List ℕ → List ℕ
  way_text [] = []
  way_text (v ∷ vs) = quoted (name_of v) ++ flat_map another vs
