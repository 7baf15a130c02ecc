-- What the open rows of a maker stand for: these nodes are open, each with the trees in it so far.
use Rattle.std.specs.Prelude.{◌≡◌, ℕ, suc, ◌<◌, List, [], ◌∷◌, length, slice_get, true, Option, Some, None}
use Rattle.gql_source.specs.declared.file_id.FileId.{FileId}
use Rattle.gql_cst.specs.Late.{is_late}
use Rattle.gql_cst.specs.Leaves.{part_of as sort_of}
use Rattle.gql_cst.specs.bridge.Sound.{is_node}
use Rattle.gql_ast_base.specs.Forest.{Plain, nothing, row_of as forest_of}
use Rattle.gql_ast_base.specs.SyntaxKind.{SyntaxKind}
use Rattle.gql_ast_base.specs.SyntaxKind.TheVariants as kind
use Rattle.gql_ast_base.specs.Parts.{Text, or_else, start_of, end_of, tree_start, tree_end, span}
use Rattle.gql_ast_reader.specs.declared.part.Part.{Part}
use Rattle.gql_ast_reader.specs.declared.place.Place.{Place}
use Rattle.gql_ast_reader.specs.declared.open_row.OpenRow.{OpenRow}
use Rattle.gql_ast_reader.specs.declared.open_rows.OpenRows.{OpenRows}
use Rattle.gql_ast_reader.specs.bridge.Fresh.{fresh}
use Rattle.gql_ast_reader.specs.bridge.Kept.{row_of}
use Rattle.gql_ast_reader.specs.bridge.Making.{made}
use Rattle.gql_cst.specs.bridge.Open as rows
use Rattle.gql_cst.specs.bridge.Open.{Open, grown_by}
use Rattle.gql_ast_reader.specs.bridge.Places.{token_part_at}
use Rattle.gql_ast_reader.specs.bridge.Standing.{part_of}
use Rattle.gql_ast_reader.specs.bridge.Taking.{taken_if}

-- What a tree is to the row that it comes in: what it stands for there, if for anything, and where the first and the last of its
-- tokens stand that the grammar does not ignore.
pub record Child : Type 0 where
  pub part : Option Part
  pub start : Option ℕ
  pub end : Option ℕ

-- what a node is by whose row nothing is told before the text ends: the document
abbrev pub kind_of : Option SyntaxKind → SyntaxKind
kind_of None = kind.Document
kind_of (Some k) = k

-- a row with nothing in it
abbrev pub empty : SyntaxKind → OpenRow
empty k = record { kind = k; row = fresh k; start = None; end = None }

-- what a token at the place is to its row
abbrev pub token_child : Text → Place → Child
token_child text place = record { part = token_part_at text place; start = Some place.start; end = Some place.end }

module _ (text : Text) (file : FileId) where
  -- what a tree is to the row that it comes in
  abbrev pub child_of : Plain → Child
  child_of tree = record { part = part_of text file tree; start = tree_start tree; end = tree_end tree }

  -- the row of a node with these trees in it
  abbrev pub row_with : SyntaxKind → List Plain → OpenRow
  row_with k trees = record {
    kind = k;
    row = row_of text file k (forest_of trees);
    start = start_of (forest_of trees);
    end = end_of (forest_of trees);
  }

  abbrev pub row_for : Open → OpenRow
  row_for o = row_with (kind_of o.node.kind) o.trees

  -- one more child comes
  abbrev pub grown : OpenRow → Child → OpenRow
  grown r child = record {
    kind = r.kind;
    row = taken_if text file r.row child.part;
    start = or_else r.start child.start;
    end = or_else child.end r.end;
  }

  -- what a node of the kind is, of what its row holds
  abbrev pub closed : SyntaxKind → OpenRow → Child
  closed k r = record { part = made text file k r.row (span file r.start r.end); start = r.start; end = r.end }

  -- what the row holds becomes one node in it
  abbrev pub wrapped : SyntaxKind → OpenRow → OpenRow
  wrapped k r = grown (empty r.kind) (closed k r)

  -- each of these nodes has its row, those of the outermost first
  abbrev pub AreKept : List OpenRow → List Open → Type 0
  AreKept rows [] = Unit {0}
  AreKept rows (o ∷ os) =
      (is_node (sort_of (kind_of o.node.kind)) ≡ true) × (slice_get rows (length os) ≡ Some (row_for o)) × AreKept rows os

  -- these nodes are open, and no others
  pub record Keeps (rows : OpenRows) (os : List Open) : Type 0 where
    pub depth : rows.depth ≡ length os
    pub kept : AreKept rows.rows.items os

  -- one more child of the innermost node
  abbrev pub Grows : Child → OpenRows → OpenRows → Type 0
  Grows child old new =
      (tree : Plain) (inner : Open) (os : List Open) → child ≡ child_of tree → Keeps old (inner ∷ os)
      → Keeps new (grown_by (tree ∷ []) inner ∷ os)

  -- the trees of the innermost node become one in it
  abbrev pub Wraps : SyntaxKind → OpenRows → OpenRows → Type 0
  Wraps k old new = (inner : Open) (os : List Open) → is_late k ≡ true → Keeps old (inner ∷ os) → Keeps new (rows.wrapped k inner ∷ os)

  -- what the row behind this one holds comes in it as a node of the kind, and those before it stay
  pub record Hands (k : SyntaxKind) (at : ℕ) (old new : List OpenRow) : Type 0 where
    pub grows : (inner outer : OpenRow) → slice_get old (suc at) ≡ Some inner → slice_get old at ≡ Some outer
        → slice_get new at ≡ Some (grown outer (closed k inner))
    pub before : (i : ℕ) → i < at → slice_get new i ≡ slice_get old i

  -- the innermost row, where there is one around it, ends as a node of the kind
  abbrev pub Ends : SyntaxKind → OpenRows → OpenRows → Type 0
  Ends k old new = (at : ℕ) → old.depth ≡ suc (suc at) → (new.depth ≡ suc at) × Hands k at old.rows.items new.rows.items

-- one more row is open, with nothing in it
pub record Begins (k : SyntaxKind) (old new : OpenRows) : Type 0 where
  pub depth : new.depth ≡ suc old.depth
  pub begun : slice_get new.rows.items old.depth ≡ Some (empty k)
  pub before : (i : ℕ) → i < old.depth → slice_get new.rows.items i ≡ slice_get old.rows.items i

-- these are tokens that the grammar ignores
abbrev pub AreIgnored : List Plain → Type 0
AreIgnored [] = Unit {0}
AreIgnored (tree ∷ trees) = (tree.kind ≡ kind.Ignored) × (tree.children ≡ nothing) × AreIgnored trees
