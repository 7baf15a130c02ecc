-- How far a parser has read its text, and how it ended.
use Rattle.std.specs.Prelude.{◌≡◌, ℕ, List, [], ◌∷◌, ◌++◌, Option}
use Rattle.gql_lexer.specs.declared.error.CstError.{CstError}
use Rattle.gql_grammar.specs.declared.rule.Rule.{Rule}
use Rattle.gql_cst.specs.declared.limits.Limits.{Limits}
use Rattle.gql_cst.specs.declared.made.Made.{Made}
use Rattle.gql_cst.specs.declared.parser.Parser.{Parser}
use Rattle.gql_cst.specs.Forest.{Plain}
use Rattle.gql_cst.specs.bridge.Held.{Holds}
use Rattle.gql_cst.specs.bridge.Judged.{IsStood, IsJudged}
use Rattle.gql_cst.specs.bridge.Machine.{State, node_of}
use Rattle.gql_cst.specs.bridge.Nested.{IsNested, EndsNested}
use Rattle.gql_cst.specs.bridge.Open.{Open, whole_text}
use Rattle.gql_cst.specs.Parses.{Reports}
use Rattle.gql_cst.specs.bridge.Progress.{IsRead, IsUnderway, HasStopped}
use Rattle.gql_cst.specs.Report.{Report}
use Rattle.gql_cst.specs.Sentences.{root_kind}
use Rattle.gql_cst.specs.bridge.Standing.{Standing}

-- the parser, where its machine holds the state and these ignored tokens wait
abbrev pub standing : {O : Type 0} → Parser O → State → List Plain → Standing
standing p state waiting = record {
  start = p.start;
  text = p.text.now;
  limits = p.limits;
  begun = p.begun;
  state = state;
  ignored = waiting;
  tokens = p.tokens;
}

-- the text is read up to the place
pub record IsGoing {O : Type 0} (Stands : O → ℕ → List Open → List Plain → Type 0) (p : Parser O) (place : ℕ) : Type 0 where
  pub state : State
  pub waiting : List Plain
  pub holds : (at : ℕ) → Holds Stands p.machine at waiting state
  pub read : IsRead (standing p state waiting) place
  pub stood : IsStood (standing p state waiting)
  pub nested : IsNested (standing p state waiting)

-- the text is read up to the place, and the token behind it is counted
pub record IsCounted {O : Type 0} (Stands : O → ℕ → List Open → List Plain → Type 0) (p : Parser O) (place : ℕ) : Type 0 where
  pub state : State
  pub waiting : List Plain
  pub holds : (at : ℕ) → Holds Stands p.machine at waiting state
  pub read : IsUnderway (standing p state waiting) place
  pub stood : IsStood (standing p state waiting)
  pub nested : IsNested (standing p state waiting)

-- the reading ended, by the error or with the text
pub record HasEnded {O : Type 0} (Stands : O → ℕ → List Open → List Plain → Type 0) (p : Parser O) (error : Option CstError) : Type 0 where
  pub state : State
  pub waiting : List Plain
  pub at : ℕ
  pub place : ℕ
  pub holds : Holds Stands p.machine at waiting state
  pub stopped : HasStopped (standing p state waiting) place error
  pub judged : IsJudged (standing p state waiting) error
  pub nests : EndsNested (standing p state waiting) error

-- what stays as it was
pub record SameText {O : Type 0} (old new : Parser O) : Type 0 where
  pub text : new.text ≡ old.text
  pub limits : new.limits ≡ old.limits
  pub start : new.start ≡ old.start

-- what is told where these trees were read, and these ignored tokens behind them
abbrev pub told_of : {O : Type 0} → Rule → Made O → List Plain → List Plain → Report
told_of start made trees waiting = record {
  tree = node_of (root_kind start) (trees ++ waiting);
  error = made.error;
  recursion_reached = made.recursion_reached;
  tokens_reached = made.tokens_reached;
}

-- The output stands for trees of the text, and for ignored tokens behind them, and this is what a parse tells of the text.
pub record IsMade {O : Type 0} (Stands : O → ℕ → List Open → List Plain → Type 0) (start : Rule) (text : List ℕ) (limits : Limits) (made : Made O)
    : Type 0 where
  pub trees : List Plain
  pub waiting : List Plain
  pub at : ℕ
  pub stands : Stands made.out at (whole_text trees ∷ []) waiting
  pub reports : Reports start text limits (told_of start made trees waiting)
