-- What only private clauses and proofs cite, beside `Walk`.
use Rattle.std.specs.Prelude.{◌≡◌, ℕ, Bool, true, false, not, ◌&&◌, if◌then◌else◌, List, [], ◌∷◌, ◌++◌}
use Rattle.std.specs.Prelude.{map, reverse, set, slice_get, position, Option, Some, None}
use Rattle.std.specs.Borrow.{Bor}
use Rattle.std.specs.Option.{unwrap_or}
use Rattle.gql_schema_types.specs.Entries.{is_called}
use Rattle.gql_document_types.specs.RootFields.{fragment_name}
use Rattle.gql_document_types.specs.declared.selection.Field.{Field}
use Rattle.gql_document_types.specs.declared.selection.FragmentSpread.{FragmentSpread}
use Rattle.gql_document_types.specs.declared.selection.InlineFragment.{InlineFragment}
use Rattle.gql_document_types.specs.declared.selection.Selection.{Selection, out-Selection}
use Rattle.gql_document_types.specs.declared.selection.Selection.TheOpen.{Selection-F}
use Rattle.gql_collect.specs.Flat.{Shape, when, contents, body, field_of, opened}
use Rattle.gql_collect.specs.Kept.{is_kept}
use Rattle.gql_collect.specs.Setting.{Setting}
use Rattle.gql_collect.specs.Walk.{fields_of}

-- which fragments are entered, by their numbers; the lists that are left; and the fields so far
pub record Walk : Type 0 where
  pub marks : List Bool
  pub left : List (List Selection)
  pub fields : List Field

-- lists that are laid aside, the last one first
abbrev pub lists_of : List (Bor (List Selection)) → List (List Selection)
lists_of pending = map (λ (selections : Bor (List Selection)). selections.now) (reverse pending)

abbrev pub walk_of : List Bool → List (Bor (List Selection)) → List (Bor Field) → Walk
walk_of marks pending fields = record { marks = marks; left = lists_of pending; fields = fields_of fields }

-- a list in front of those that are left, if it has any selection
abbrev pub put_before : List Selection → List (List Selection) → List (List Selection)
put_before [] left = left
put_before (x ∷ xs) left = (x ∷ xs) ∷ left

abbrev pub with_list : List Selection → Walk → Walk
with_list selections walk = record walk { left = put_before selections walk.left }

-- how many selections are looked at when a list is taken up: its first, if it has one
abbrev pub looks_at : List Selection → ℕ
looks_at [] = 0
looks_at (x ∷ xs) = 1

module _ (s : Setting) where
  abbrev pub number_of : FragmentSpread → Option ℕ
  number_of spread = position (is_called fragment_name spread.fragment_name.text) s.fragments

  -- is this a fragment that was not entered?
  abbrev pub is_new : List Bool → Option ℕ → Bool
  is_new marks None = false
  is_new marks (Some f) = not (unwrap_or (slice_get marks f) true)

  abbrev pub is_followed : FragmentSpread → List Bool → Bool
  is_followed spread marks = is_kept s.variables spread.directives && is_new marks (number_of spread)

  abbrev pub mark : List Bool → Option ℕ → List Bool
  mark marks None = marks
  mark marks (Some f) = set marks f true

  -- which fragments are entered once the selection is looked at
  abbrev pub marked : Shape → List Bool → List Bool
  marked (Selection-F.FragmentSpread it) marks = if is_followed it marks then mark marks (number_of it) else marks
  marked _ marks = marks

  -- the selections that the walk goes on to in its place
  abbrev pub gone_into : Shape → List Bool → List Selection
  gone_into (Selection-F.FragmentSpread it) marks = when (is_followed it marks) (body s it.fragment_name.text)
  gone_into (Selection-F.Field it) marks = []
  gone_into (Selection-F.InlineFragment it) marks = opened s (Selection-F.InlineFragment it)

  abbrev pub with_field : Field → List Field → List Field
  with_field it fields = fields ++ when (is_kept s.variables it.directives) (it ∷ [])

  abbrev pub with_inline : InlineFragment → List (List Selection) → List (List Selection)
  with_inline it left = put_before (opened s (Selection-F.InlineFragment it)) left

  abbrev pub with_contents : ℕ → List (List Selection) → List (List Selection)
  with_contents f left = put_before (contents s (slice_get s.fragments f)) left

  -- what entering the fragment of a number leaves
  abbrev pub IsEntered : ℕ → List Bool → List (List Selection) → List Bool → List (List Selection) → Type 0
  IsEntered f marks left marks' left' =
      (marks' ≡ (if is_new marks (Some f) then set marks f true else marks))
      × (left' ≡ put_before (when (is_new marks (Some f)) (contents s (slice_get s.fragments f))) left)

  -- what looking at a spread leaves
  abbrev pub IsFollowed : FragmentSpread → List Bool → List (List Selection) → List Bool → List (List Selection) → Type 0
  IsFollowed it marks left marks' left' =
      (marks' ≡ marked (Selection-F.FragmentSpread it) marks) × (left' ≡ put_before (gone_into (Selection-F.FragmentSpread it) marks) left)

  abbrev pub met : Shape → Walk → Walk
  met shape walk = record {
    marks = marked shape walk.marks;
    left = put_before (gone_into shape walk.marks) walk.left;
    fields = walk.fields ++ field_of s shape;
  }

  abbrev pub with_selection : Selection → Walk → Walk
  with_selection selection walk = met (out-Selection selection) walk

  abbrev pub with_first : List Selection → Walk → Walk
  with_first [] walk = walk
  with_first (first ∷ others) walk = with_selection first (with_list others walk)

  -- a walk with some fragments entered, through selections to fields and to the fragments entered then
  pub data Walks : List Bool → List Selection → List Field → List Bool → Type 0 where
    walked_all : {m : List Bool} → Walks m [] [] m
    walked_on : {m between n : List Bool} {x : Selection} {rest : List Selection} {inner others : List Field}
        → Walks (marked (out-Selection x) m) (gone_into (out-Selection x) m) inner between
        → Walks between rest others n
        → Walks m (x ∷ rest) (field_of s (out-Selection x) ++ (inner ++ others)) n

  -- the same through several lists
  pub data WalksAll : List Bool → List (List Selection) → List Field → Type 0 where
    no_more : {m : List Bool} → WalksAll m [] []
    list_first : {m between : List Bool} {selections : List Selection} {lists : List (List Selection)} {inner others : List Field}
        → Walks m selections inner between → WalksAll between lists others → WalksAll m (selections ∷ lists) (inner ++ others)
