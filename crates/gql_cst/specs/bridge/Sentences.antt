-- What only private clauses and proofs cite, beside `Sentences`.
use Rattle.std.specs.Prelude.{◌≡◌, ℕ, Bool, true, false, List, [], map}
use Rattle.gql_grammar.specs.declared.word.Word.{Word}
use Rattle.gql_grammar.specs.declared.rule.Rule.{Rule}
use Rattle.gql_grammar.specs.Row as row
use Rattle.gql_grammar.specs.Row.{Row}
use Rattle.gql_grammar.specs.bridge.Stands.{BetweenIn}
use Rattle.gql_cst.specs.Forest.{Plain, row_of}
use Rattle.gql_cst.specs.bridge.Machine.{State}
use Rattle.gql_cst.specs.Sentences.{shown, root_kind}

abbrev pub shown_of : List ℕ → List Plain → Row
shown_of text trees = shown text (row_of trees)

abbrev pub empty : State
empty = record { stack = []; row = []; rows = []; level = 0; deepest = 0 }

-- the reading of a sentence stands behind these words
abbrev pub Stood : Rule → List ℕ → Bool → State → List Word → Type 0
Stood start text true s before = BetweenIn start (root_kind start) before s.stack (shown_of text s.row) (map (shown_of text) s.rows)
Stood start text false s before = (s ≡ empty) × (before ≡ [])
