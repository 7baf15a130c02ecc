-- What only private clauses and proofs cite, beside `Lexical`.
use Rattle.std.specs.Prelude.{Ok, Err}
use Rattle.gql_lexer.specs.Class.{Text}
use Rattle.gql_lexer.specs.bridge.Lex.{Lexed}
use Rattle.gql_lexer.specs.Lexical.{IsToken, IsFault}

-- what was read stands there
abbrev pub Stands : Text → Lexed → Type 0
Stands at (Ok found) = IsToken found.0 at found.1
Stands at (Err found) = IsFault found.fault at found.start found.end
