-- How deep selections go, each fragment written out: how many fields are inside one another.
use Rattle.std.specs.Prelude.{◌≡◌, ◌<◌, ℕ, zero, suc, max, true, List, [], ◌∷◌, is_some, Some}
use Rattle.gql_document_types.specs.declared.fragment.Fragment.{Fragment}
use Rattle.gql_document_types.specs.declared.selection.Field.{Field}
use Rattle.gql_document_types.specs.declared.selection.Selection.{Selection}
use Rattle.gql_collect.specs.Expanded.{most}
use Rattle.gql_collect.specs.Nested.{Nested, nothing, field_then, spread_then, inline_then, Fragments, body_of}
use Rattle.gql_collect.specs.View.{nested, fragments_nested}
use Rattle.gql_collect.specs.Groups.{FieldGroup}
use Rattle.gql_exec.specs.Group.{pieces_of}
use Rattle.gql_schema_types.specs.Schemas.{field_of}
use Rattle.gql_schema_types.specs.declared.schema.Schema.{Schema}
use Rattle.gql_schema_types.specs.declared.types.ObjectType.{ObjectType}

-- the greatest number of fields on one chain of nested selections, where a spread stands for what its fragment is
abbrev pub nesting_with : (ℕ → ℕ) → Nested → ℕ
nesting_with of nothing = 0
nesting_with of (field_then weight place within rest) = max (suc (nesting_with of within)) (nesting_with of rest)
nesting_with of (spread_then f place rest) = max (of f) (nesting_with of rest)
nesting_with of (inline_then body rest) = max (nesting_with of body) (nesting_with of rest)

-- that of a fragment, at most so many fragments inside one another
abbrev pub fragment_nesting : Fragments → ℕ → ℕ → ℕ
fragment_nesting table zero f = 0
fragment_nesting table (suc n) f = nesting_with (fragment_nesting table n) (body_of table f)

abbrev pub nesting_in : Fragments → Nested → ℕ
nesting_in table t = nesting_with (fragment_nesting table (most table)) t

-- that of several sets
abbrev pub nesting : List Fragment → List (List Selection) → ℕ
nesting fragments [] = 0
nesting fragments (set ∷ sets) = max (nesting_in (fragments_nested fragments) (nested fragments set)) (nesting fragments sets)

-- the first field is defined, and what is selected below goes less deep than n
abbrev pub IsBelow : Schema → ObjectType → List Fragment → ℕ → FieldGroup → Type 0
IsBelow schema U fragments n g =
    (f : Field) → g.first ≡ Some f → (nesting fragments (pieces_of g.fields) < n) × (is_some (field_of schema U.name.text f.name.text) ≡ true)

abbrev pub AllBelow : Schema → ObjectType → List Fragment → ℕ → List FieldGroup → Type 0
AllBelow schema U fragments n [] = Unit {0}
AllBelow schema U fragments n (g ∷ gs) = IsBelow schema U fragments n g × AllBelow schema U fragments n gs
