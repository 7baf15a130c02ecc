-- What only private clauses and proofs cite, beside `Judged`.
use Rattle.std.specs.Prelude.{◌≡◌, ℕ, Bool, true, false, List, Option, is_some}
use Rattle.gql_lexer.specs.declared.error.CstError.{CstError}
use Rattle.gql_grammar.specs.declared.word.Word.{Word}
use Rattle.gql_grammar.specs.Reads.{IsBeginning}
use Rattle.gql_grammar.specs.Row as row
use Rattle.gql_grammar.specs.Rule.{kind_of}
use Rattle.gql_cst.specs.bridge.Standing.{Standing}
use Rattle.gql_cst.specs.Cut.{is_filled, IsCut}
use Rattle.gql_cst.specs.bridge.Machine.{State}
use Rattle.gql_cst.specs.bridge.Progress.{trees, tokens_of}
use Rattle.gql_cst.specs.Sentences.{words, root_kind}
use Rattle.gql_cst.specs.bridge.Sentences.{shown_of, Stood}
use Rattle.gql_cst.specs.Judged.{Spoken, Judged}

-- ---- the same of a parser

abbrev pub words_of : Standing → List Word
words_of p = words p.text (tokens_of p)

abbrev pub spoken : Standing → Spoken
spoken p = record {
  start = p.start;
  text = p.text;
  words = words_of p;
  row = row.node (root_kind p.start) (shown_of p.text (trees p)) row.nothing;
  recursion = p.limits.recursion;
}

-- once the rule of the whole text has begun, the innermost open node holds something
abbrev pub IsFilled : Bool → List ℕ → State → Type 0
IsFilled true text s = is_filled (shown_of text s.row) ≡ true
IsFilled false text s = Unit {0}

pub record IsStood (p : Standing) : Type 0 where
  pub starts : is_some (kind_of p.start) ≡ true
  pub hidden : shown_of p.text p.ignored ≡ row.nothing
  pub stood : Stood p.start p.text p.begun p.state (words_of p)
  pub filled : IsFilled p.begun p.text p.state

pub record IsJudged (p : Standing) (error : Option CstError) : Type 0 where
  pub begins : IsBeginning p.start (words_of p)
  pub cut : IsCut p.start (words_of p) (shown_of p.text (trees p))
  pub judged : Judged (spoken p) error
