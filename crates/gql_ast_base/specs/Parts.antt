-- The parts of concrete trees that abstract trees are made of.
use Rattle.std.specs.Prelude.{ℕ, ◌-◌, ◌==◌, is_some, Bool, false, ◌&&◌, ◌||◌, nat_eq, nat_lt, nat_le, if◌then◌else◌}
use Rattle.std.specs.Prelude.{List, [], ◌∷◌, ◌++◌, length, slice_index, slice_range, slice_get, option_to_list, Option, Some, None}
use Rattle.std.specs.Prelude.{option_and_then}
use Rattle.std.specs.Option.{option_map}
use Rattle.std.specs.Str.{bytes_eq}
use Rattle.gql_source.specs.declared.file_id.FileId.{FileId}
use Rattle.gql_source.specs.Span.{Span}
use Rattle.gql_ast_base.specs.Names.{Named, is_name}
use Rattle.gql_cst.specs.Forest.{Forest, Plain, nothing, tree_then}
use Rattle.gql_cst.specs.SyntaxKind.{SyntaxKind}
use Rattle.gql_cst.specs.SyntaxKind.TheVariants.{Token}
use Rattle.gql_ast_base.specs.Kinds.{is_kind}

abbrev pub Text : Type 0
Text = List ℕ

-- ---- rows of trees

-- the first of the two that is there
abbrev pub or_else : {T : Type 0} → Option T → Option T → Option T
or_else (Some x) other = Some x
or_else None other = other

abbrev pub head : {T : Type 0} → List T → Option T
head [] = None
head (x ∷ xs) = Some x

-- what the trees of a row stand for, one after the other, where f says what a tree stands for, if for anything
abbrev pub gather : {T : Type 0} → (Plain → Option T) → Forest → List T
gather f nothing = []
gather f (tree_then kind start end children rest) =
    option_to_list (f (record { kind = kind; start = start; end = end; children = children })) ++ gather f rest

-- what the first of them stands for
abbrev pub first : {T : Type 0} → (Plain → Option T) → Forest → Option T
first f row = head (gather f row)

-- the tree, if it is of the kind
abbrev pub of_kind : SyntaxKind → Plain → Option Plain
of_kind kind tree = if is_kind tree.kind kind then Some tree else None

-- the first tree of the kind
abbrev pub child : SyntaxKind → Forest → Option Plain
child kind row = first (of_kind kind) row

-- the children of a tree, or nothing
abbrev pub children_of : Option Plain → Forest
children_of None = nothing
children_of (Some tree) = tree.children

-- what stands in the first tree of the kind
abbrev pub inside : SyntaxKind → Forest → Forest
inside kind row = children_of (child kind row)

-- ---- places

-- where the first token that is not ignored begins
abbrev pub start_of : Forest → Option ℕ
start_of nothing = None
start_of (tree_then kind start end children rest) =
    or_else (if is_kind kind Token then Some start else start_of children) (start_of rest)

-- where the last token that is not ignored ends
abbrev pub end_of : Forest → Option ℕ
end_of nothing = None
end_of (tree_then kind start end children rest) =
    or_else (end_of rest) (if is_kind kind Token then Some end else end_of children)

-- the same of one tree
abbrev pub tree_start : Plain → Option ℕ
tree_start tree = if is_kind tree.kind Token then Some tree.start else start_of tree.children

abbrev pub tree_end : Plain → Option ℕ
tree_end tree = if is_kind tree.kind Token then Some tree.end else end_of tree.children

abbrev pub span : FileId → Option ℕ → Option ℕ → Option Span
span file (Some start) (Some end) =
    if nat_le start end then Some (record { file_id = file; offset = start; end_offset = end }) else None
span file _ _ = None

-- from a tree's first token to its last, those aside that the grammar ignores
unfoldable pub location : FileId → Plain → Option Span
location file tree = span file (tree_start tree) (tree_end tree)

-- ---- tokens

-- a place between two characters of a text, or at one of its ends
abbrev pub is_boundary : Text → ℕ → Bool
is_boundary text at =
    nat_eq at (length text) || (nat_lt at (length text) && (nat_lt (slice_index text at) 128 || nat_le 192 (slice_index text at)))

-- the part of a text between two such places
unfoldable pub piece : Text → ℕ → ℕ → Option Text
piece text start end =
    if nat_le start end && is_boundary text start && is_boundary text end then Some (slice_range text start end) else None

-- the text of a token
unfoldable pub token_text : Text → Plain → Option Text
token_text text tree = if is_kind tree.kind Token then piece text tree.start tree.end else None

-- the text of a token that is a name
unfoldable pub word : Text → Plain → Option Text
word text tree = option_and_then (λ found. if is_name found then Some found else None) (token_text text tree)

-- the name that a token is
unfoldable pub name_of : Text → FileId → Plain → Option Named
name_of text file tree = option_map (λ found. record { text = found; location = location file tree }) (word text tree)

-- the tree, if it is a name
abbrev pub word_leaf : Text → Plain → Option Plain
word_leaf text tree = option_map (λ _. tree) (word text tree)

-- the nth name among the tokens of a row, counted from 0
abbrev pub nth_word : Text → ℕ → Forest → Option Plain
nth_word text n row = slice_get (gather (word_leaf text) row) n

abbrev pub nth_text : Text → ℕ → Forest → Option Text
nth_text text n row = option_and_then (word text) (nth_word text n row)

unfoldable pub nth_name : Text → FileId → ℕ → Forest → Option Named
nth_name text file n row = option_and_then (name_of text file) (nth_word text n row)

-- a text is the word
abbrev pub is_word : Option Text → Text → Bool
is_word None expected = false
is_word (Some found) expected = bytes_eq found expected

-- the trees after the nth name of a row
abbrev pub after_word : Text → ℕ → Forest → Forest
after_word text n nothing = nothing
after_word text n (tree_then kind start end children rest) =
    if is_some (word text (record { kind = kind; start = start; end = end; children = children }))
    then (if n == 0 then rest else after_word text (n - 1) rest)
    else after_word text n rest
