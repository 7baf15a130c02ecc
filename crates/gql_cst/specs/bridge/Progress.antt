-- What was read of a text, and where the parser stands in it.
use Rattle.std.specs.Prelude.{◌≡◌, ℕ, ◌+◌, List, ◌++◌, length, Option}
use Rattle.gql_lexer.specs.declared.error.CstError.{CstError}
use Rattle.gql_lexer.specs.declared.token.Token.{Token}
use Rattle.gql_cst.specs.bridge.Standing.{Standing}
use Rattle.gql_cst.specs.Forest.{Plain}
use Rattle.std.specs.declared.ops.Range.{Range}
use Rattle.gql_cst.specs.Leaves.{word, Leaf, Tiles, part_of_token}
use Rattle.gql_cst.specs.bridge.Leaves.{leaves_of}
use Rattle.gql_cst.specs.bridge.Nesting.{nesting_of}
use Rattle.gql_cst.specs.bridge.Machine.{all_ended}
use Rattle.gql_cst.specs.Spans.{AllSpanIn}
use Rattle.gql_cst.specs.bridge.Sound.{IsSound}
use Rattle.gql_cst.specs.Outcome.{IsWithin, Reached, Stops}

-- the trees that are there, once the nodes that are open have ended, and the tokens that are ignored behind them
abbrev pub trees : Standing → List Plain
trees p = all_ended p.state ++ p.ignored

abbrev pub tokens_of : Standing → List Leaf
tokens_of p = leaves_of (trees p)

-- the text is read up to the place
pub record IsRead (p : Standing) (place : ℕ) : Type 0 where
  pub tiles : Tiles p.text 0 (tokens_of p) place
  pub counted : p.tokens ≡ length (tokens_of p)
  pub within : IsWithin p.limits.tokens p.tokens
  pub sound : IsSound p.state
  pub flat : nesting_of p.ignored ≡ 0
  pub spans : AllSpanIn p.ignored

abbrev pub reached : Standing → ℕ → Reached
reached p place = record {
  text = p.text;
  tokens = length (tokens_of p);
  place = place;
  read = p.tokens;
}

-- the reading ended at the place
pub record HasStopped (p : Standing) (place : ℕ) (error : Option CstError) : Type 0 where
  pub tiles : Tiles p.text 0 (tokens_of p) place
  pub sound : IsSound p.state
  pub flat : nesting_of p.ignored ≡ 0
  pub spans : AllSpanIn p.ignored
  pub stops : Stops p.limits (reached p place) error

abbrev pub leaf_of : Token → Leaf
leaf_of t = record { part = part_of_token t.kind; start = t.range.start; end = t.range.end }

-- the text is read up to the place, and the token behind it is counted
pub record IsUnderway (p : Standing) (place : ℕ) : Type 0 where
  pub tiles : Tiles p.text 0 (tokens_of p) place
  pub counted : p.tokens ≡ length (tokens_of p) + 1
  pub within : IsWithin p.limits.tokens p.tokens
  pub sound : IsSound p.state
  pub flat : nesting_of p.ignored ≡ 0
  pub spans : AllSpanIn p.ignored

abbrev pub word_leaf : Range ℕ → Leaf
word_leaf range = record { part = word; start = range.start; end = range.end }
