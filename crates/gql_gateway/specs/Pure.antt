-- What validation gives of an operation without spreads: its sets have none, and of each response key of its root all fields have one
-- of the names `__typename`, `__schema` and `__type`, or none has.
use Rattle.std.specs.Prelude.{◌≡◌, ℕ, zero, suc, Bool, true, false, ◌&&◌, List, [], ◌∷◌}
use Rattle.std.specs.List.{AllByRecursion}
use Rattle.gql_document_types.specs.declared.selection.Field.{Field}
use Rattle.gql_document_types.specs.declared.selection.Selection.{Selection, out-Selection}
use Rattle.gql_document_types.specs.declared.selection.Selection.TheOpen.{Selection-F}
use Rattle.gql_collect.specs.Flat.{Shape, flat}
use Rattle.gql_collect.specs.Groups.{response_key}
use Rattle.gql_collect.specs.Setting.{Setting}
use Rattle.gql_exec.specs.Restricted.{is_meta_name}

-- no spread stands in these selections, inline fragments included
abbrev pub spreadless_at : (List Selection → Type 0) → Shape → Type 0
spreadless_at Inside (Selection-F.Field it) = Unit {0}
spreadless_at Inside (Selection-F.FragmentSpread it) = ⊥
spreadless_at Inside (Selection-F.InlineFragment it) = Inside it.selection_set.selections

abbrev pub SpreadlessTo : ℕ → List Selection → Type 0
SpreadlessTo zero selections = Unit {0}
SpreadlessTo (suc n) selections = AllByRecursion (λ x. spreadless_at (SpreadlessTo n) (out-Selection x)) selections

abbrev pub IsSpreadless : List Selection → Type 0
IsSpreadless selections = (n : ℕ) → SpreadlessTo n selections

-- fields of one response key have names of introspection alike
abbrev pub is_meta_field : Field → Bool
is_meta_field field = is_meta_name field.name.text

abbrev pub IsLike : Field → Field → Type 0
IsLike one other = response_key one ≡ response_key other → is_meta_field one ≡ is_meta_field other

abbrev pub AreLike : List Field → Type 0
AreLike fields = AllByRecursion (λ one. AllByRecursion (IsLike one) fields) fields

abbrev pub IsPure : Setting → List Selection → Type 0
IsPure s selections = AreLike (flat s selections)
