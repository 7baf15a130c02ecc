-- What only private clauses and proofs cite, beside `Value`.
use Rattle.std.specs.Prelude.{ℕ, ◌-◌, ◌<◌, ◌≤◌, ◌≡◌}
use Rattle.std.specs.Prelude.{length, slice_index, encode_utf8}
use Rattle.gql_lexer.specs.Class.{Text}
use Rattle.gql_lexer.specs.Lex.{string_len}
use Rattle.gql_lexer.specs.Value.{item_value}

-- the text begins with an escape of that length, for that character
pub record IsEscape (at : Text) (character len : ℕ) : Type 0 where
  pub is : string_len at ≡ len
  pub some : 0 < len
  pub within : len ≤ length at
  pub value : item_value at ≡ encode_utf8 character
  pub ascii : slice_index at (len - 1) < 128
