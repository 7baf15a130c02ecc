-- The numbers of response keys, noted field by field.
use Rattle.std.specs.Prelude.{ℕ, List, [], ◌∷◌, ◌++◌, length, Option, Some, None}
use Rattle.std.specs.Map.{lookup}
use Rattle.std.specs.Str.{bytes_eq}
use Rattle.gql_rules_merging.specs.Numbering.{Selected}
use Rattle.gql_rules_merging.specs.ResponseKeys.{key_of}

-- the first field of each key, and the numbers of keys so far
pub record Noted : Type 0 where
  pub firsts : List (List ℕ × ℕ)
  pub keys : List ℕ

abbrev pub noted : List (List ℕ × ℕ) → List ℕ → Noted
noted firsts keys = record { firsts = firsts; keys = keys }

abbrev pub with_key : List ℕ → Noted → Option ℕ → Noted
with_key key so_far (Some first) = noted so_far.firsts (so_far.keys ++ first ∷ [])
with_key key so_far None = noted (so_far.firsts ++ (key, length so_far.keys) ∷ []) (so_far.keys ++ length so_far.keys ∷ [])

abbrev pub with_field : Selected → Noted → Noted
with_field field so_far = with_key (key_of field) so_far (lookup (bytes_eq (key_of field)) so_far.firsts)

abbrev pub with_fields : List Selected → Noted → Noted
with_fields [] so_far = so_far
with_fields (field ∷ fields) so_far = with_fields fields (with_field field so_far)
