-- How deep the words are nested that a parser took.
use Rattle.std.specs.Prelude.{◌≡◌, ℕ, List, length, Option}
use Rattle.gql_lexer.specs.declared.error.CstError.{CstError}
use Rattle.gql_grammar.specs.Row.{level}
use Rattle.gql_cst.specs.bridge.Standing.{Standing}
use Rattle.gql_cst.specs.bridge.Judged.{words_of}
use Rattle.gql_cst.specs.Levels.{levels, greatest, AreLevels, PassesNoneBeforeLast, NestsTo}
use Rattle.gql_cst.specs.bridge.Progress.{trees}
use Rattle.gql_cst.specs.Sentences.{root_kind}
use Rattle.gql_cst.specs.bridge.Sentences.{shown_of}

-- the levels around the words that were taken
abbrev pub levels_of : Standing → List ℕ
levels_of p = levels (shown_of p.text (trees p))

-- the reading may go on
pub record IsNested (p : Standing) : Type 0 where
  pub root : level (root_kind p.start) ≡ 0
  pub deepest : p.state.deepest ≡ greatest (levels_of p)
  pub within : PassesNoneBeforeLast p.limits.recursion (levels_of p)
  pub each : length (levels_of p) ≡ length (words_of p)

-- the reading ended
pub record EndsNested (p : Standing) (error : Option CstError) : Type 0 where
  pub deepest : p.state.deepest ≡ greatest (levels_of p)
  pub nests : NestsTo p.limits.recursion (levels_of p) error
  pub around : AreLevels p.start (words_of p) (levels_of p)
