-- What a parse gives.
use Rattle.std.specs.Prelude.{◌≡◌, ℕ, ◌≤◌, List, [], ◌∷◌, length, Option, None}
use Rattle.gql_lexer.specs.declared.error.CstError.{CstError}
use Rattle.gql_grammar.specs.declared.rule.Rule.{Rule}
use Rattle.gql_grammar.specs.Reads.{Sentence, IsBeginning}
use Rattle.gql_grammar.specs.Row as row
use Rattle.gql_grammar.specs.Row.{Row}
use Rattle.gql_cst.specs.declared.limits.Limits.{Limits}
use Rattle.gql_cst.specs.declared.limits.Parsed.{Parsed}
use Rattle.gql_cst.specs.Cut.{IsCutIn}
use Rattle.gql_cst.specs.Forest.{Forest}
use Rattle.gql_cst.specs.Judged.{Judged, Spoken}
use Rattle.gql_cst.specs.Leaves.{Leaf, leaves, Tiles}
use Rattle.gql_cst.specs.Levels.{levels, greatest, AreLevels, NestsTo}
use Rattle.gql_cst.specs.Nesting.{nesting}
use Rattle.gql_cst.specs.Outcome.{IsWithin, Reached, Stops}
use Rattle.gql_cst.specs.Report.{Report, report_of}
use Rattle.gql_cst.specs.Sentences.{root_kind, words, shown}
use Rattle.gql_cst.specs.Spans.{AllSpanIn}

abbrev pub reached_at : List ℕ → Forest → ℕ → Report → Reached
reached_at text children place parsed = record {
  text = text;
  tokens = length (leaves children);
  place = place;
  read = parsed.tokens_reached;
}

abbrev pub spoken_of : Rule → List ℕ → Limits → Forest → Spoken
spoken_of start text limits children = record {
  start = start;
  text = text;
  words = words text (leaves children);
  row = row.node (root_kind start) (shown text children) row.nothing;
  recursion = limits.recursion;
}

-- The tree is a tree of the text up to the place: its tokens follow each other from the text's beginning to there. The
-- counts are those of the tree, and of the token that was refused. The words of the tree begin a sentence of the start,
-- and stand in as many levels as in each sentence that they begin. The error, or that there is none, tells where the
-- reading stopped, how far the words are nested there, and what that says of sentences.
pub record Parses (start : Rule) (text : List ℕ) (limits : Limits) (parsed : Report) (place : ℕ) (children : Forest) : Type 0 where
  pub tree_kind : parsed.tree.kind ≡ root_kind start
  pub tree_children : parsed.tree.children ≡ children
  pub tiles : Tiles text 0 (leaves children) place
  pub recursion_reached : parsed.recursion_reached ≡ nesting children
  pub stops : Stops limits (reached_at text children place parsed) parsed.error
  pub levels_reached : parsed.recursion_reached ≡ greatest (levels (shown text children))
  pub around : AreLevels start (words text (leaves children)) (levels (shown text children))
  pub nests : NestsTo limits.recursion (levels (shown text children)) parsed.error
  pub begins : IsBeginning start (words text (leaves children))
  pub judged : Judged (spoken_of start text limits children) parsed.error

abbrev pub IsReport : Rule → List ℕ → Limits → Report → Type 0
IsReport start text limits report = (place : ℕ) × (children : Forest) × Parses start text limits report place children

-- A text whose tokens are the words of a sentence, within both limits, has no error.
abbrev pub Admits : Rule → List ℕ → Limits → Option CstError → Type 0
Admits start text limits error =
    (tokens : List Leaf) (tree : Row) → Tiles text 0 tokens (length text) → Sentence start (words text tokens) tree
    → row.nesting tree ≤ limits.recursion → IsWithin limits.tokens (length tokens) → error ≡ None

-- all that a parse tells
pub record Reports (start : Rule) (text : List ℕ) (limits : Limits) (report : Report) : Type 0 where
  pub parse : IsReport start text limits report
  pub accepts : Admits start text limits report.error
  pub cut : IsCutIn start text report.tree
  pub spans : AllSpanIn (report.tree ∷ [])

-- ---- of a parse whose tree is held

abbrev pub IsParse : Rule → List ℕ → Limits → Parsed → Type 0
IsParse start text limits parsed = IsReport start text limits (report_of parsed)
