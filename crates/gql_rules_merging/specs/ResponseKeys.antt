-- Response keys: section 2.7 of GraphQL October 2021.
use Rattle.std.specs.Prelude.{ℕ, suc, Bool, List, [], ◌∷◌, map, Option, Some, None, if◌then◌else◌}
use Rattle.std.specs.Option.{unwrap_or, option_map}
use Rattle.std.specs.Str.{bytes_eq}
use Rattle.gql_rules_merging.specs.Numbering.{Selected}

-- the alias, or else the name
abbrev pub key_of : Selected → List ℕ
key_of field = (unwrap_or field.alias field.name).text

abbrev pub has_key : List ℕ → Selected → Bool
has_key key field = bytes_eq key (key_of field)

-- the place of the first field of which a test holds
abbrev pub place_of : (Selected → Bool) → List Selected → Option ℕ
place_of test [] = None
place_of test (field ∷ fields) = if test field then Some 0 else option_map suc (place_of test fields)

-- a response key is told by the number of the first field that has it
abbrev pub key_number : List Selected → Selected → ℕ
key_number fields field = unwrap_or (place_of (has_key (key_of field)) fields) 0

abbrev pub key_numbers : List Selected → List ℕ
key_numbers fields = map (key_number fields) fields
