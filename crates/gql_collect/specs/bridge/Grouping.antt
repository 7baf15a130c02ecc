-- What only private clauses and proofs cite, beside `Grouping`.
use Rattle.std.specs.Prelude.{ℕ, if◌then◌else◌, List, [], ◌∷◌, ◌++◌, map, Some, slice_get, slice_set}
use Rattle.std.specs.Borrow.{Bor}
use Rattle.std.specs.Option.{option_map_or}
use Rattle.std.specs.Str.{bytes_eq}
use Rattle.gql_ast_base.specs.Names.{Named}
use Rattle.gql_document_types.specs.declared.selection.Field.{Field}
use Rattle.gql_schema_types.specs.Entries.{texts}
use Rattle.gql_collect.specs.Groups.{FieldGroup, response_name, response_key}
use Rattle.gql_collect.specs.declared.group.Group.{Group}
use Rattle.gql_collect.specs.declared.group.Key.{Key}

abbrev pub key_name : Key → Named
key_name key = response_name key.field.now

abbrev pub key_texts : List Key → List (List ℕ)
key_texts keys = texts key_name keys

abbrev pub group_keys : List FieldGroup → List (List ℕ)
group_keys groups = map (λ (group : FieldGroup). group.key) groups

abbrev pub begun : Field → FieldGroup
begun f = record { key = response_key f; first = Some f; fields = f ∷ [] }

-- a field goes last into the group of its key, or begins one
abbrev pub added : List FieldGroup → Field → List FieldGroup
added [] f = begun f ∷ []
added (group ∷ groups) f =
    if bytes_eq (response_key f) group.key then record group { fields = group.fields ++ f ∷ [] } ∷ groups else group ∷ added groups f

-- a field goes last into the group of the number
abbrev pub extended : List Group → ℕ → Bor Field → List Group
extended groups number field =
    option_map_or (λ (group : Group). slice_set groups number (record group { fields = group.fields ++ field ∷ [] })) (slice_get groups number) groups
