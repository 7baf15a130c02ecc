-- Groups of fields by response key: CollectFields, section 6.3.2 of GraphQL October 2021.
use Rattle.std.specs.Prelude.{◌≡◌, ℕ, Bool, false, if◌then◌else◌, List, [], ◌∷◌, map, Option, is_some}
use Rattle.std.specs.List.{find, filter, list_any}
use Rattle.std.specs.Option.{unwrap_or, option_map_or}
use Rattle.std.specs.Str.{bytes_eq}
use Rattle.gql_ast_base.specs.Names.{Named}
use Rattle.gql_document_types.specs.declared.selection.Field.{Field}
use Rattle.gql_document_types.specs.declared.selection.Selection.{Selection}
use Rattle.gql_schema_types.specs.Schemas.{field_of as field_of_type}
use Rattle.gql_schema_types.specs.declared.schema.Schema.{Schema}
use Rattle.gql_schema_types.specs.declared.types.ObjectType.{ObjectType}
use Rattle.gql_collect.specs.Flat.{flat_sets}
use Rattle.gql_collect.specs.Same.{SameFirst}
use Rattle.gql_collect.specs.Setting.{Setting}

-- the alias, or else the name: section 2.7
abbrev pub response_name : Field → Named
response_name field = unwrap_or field.alias field.name

abbrev pub response_key : Field → List ℕ
response_key field = (response_name field).text

abbrev pub has_key : List ℕ → Field → Bool
has_key key field = bytes_eq key (response_key field)

-- the keys in the order of their first occurrence, without those that were there before
abbrev pub distinct_after : List (List ℕ) → List (List ℕ) → List (List ℕ)
distinct_after seen [] = []
distinct_after seen (k ∷ ks) = if list_any (bytes_eq k) seen then distinct_after seen ks else k ∷ distinct_after (k ∷ seen) ks

abbrev pub keys : List Field → List (List ℕ)
keys fields = distinct_after [] (map response_key fields)

-- the fields of one key, and the first of them
pub record FieldGroup : Type 0 where
  pub key : List ℕ
  pub first : Option Field
  pub fields : List Field

abbrev pub group_at : List Field → List ℕ → FieldGroup
group_at fields key = record { key = key; first = find (has_key key) fields; fields = filter (has_key key) fields }

abbrev pub groups_of : List Field → List FieldGroup
groups_of fields = map (group_at fields) (keys fields)

abbrev pub has_field : Schema → ObjectType → Field → Bool
has_field schema object field = is_some (field_of_type schema object.name.text field.name.text)

-- is the first field defined on the object type?
abbrev pub is_defined : Schema → ObjectType → FieldGroup → Bool
is_defined schema object group = option_map_or (has_field schema object) group.first false

-- the groups of flat selections whose first field is defined on the object type
abbrev pub applying : Setting → List (List Selection) → List FieldGroup
applying s sets = filter (is_defined s.schema s.object) (groups_of (flat_sets s sets))

-- the same keys and first fields, and the same fields once repeats are left out
pub data SameGroups : List FieldGroup → List FieldGroup → Type 0 where
  none_same : SameGroups [] []
  one_same : {g h : FieldGroup} {gs hs : List FieldGroup} → g.key ≡ h.key → g.first ≡ h.first → SameFirst g.fields h.fields → SameGroups gs hs
      → SameGroups (g ∷ gs) (h ∷ hs)
