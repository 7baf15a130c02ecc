-- What only private clauses and proofs cite, beside `Lex`.
use Rattle.std.specs.Prelude.{ℕ, ◌+◌, ◌<◌, ◌≤◌, Bool, not, ◌&&◌, ◌==◌, nat_lt}
use Rattle.std.specs.Prelude.{if◌then◌else◌, length, drop, slice_index, Result, Ok, Err}
use Rattle.gql_lexer.specs.Class.{Text, is_source}
use Rattle.gql_lexer.specs.Class.{class_of}
use Rattle.gql_lexer.specs.declared.class.ByteClass.{ByteClass}
use Rattle.gql_lexer.specs.declared.class.ByteClass.TheVariants as class
use Rattle.gql_lexer.specs.declared.error.SyntaxFault.{SyntaxFault}
use Rattle.gql_lexer.specs.declared.error.SyntaxFault.TheVariants.{BadCharacter, OpenString, BadEscape, BadNumber}
use Rattle.gql_lexer.specs.declared.run.ByteRun.TheVariants as bytes
use Rattle.gql_lexer.specs.declared.run.ItemRun.{ItemRun}
use Rattle.gql_lexer.specs.declared.run.ItemRun.TheVariants as items
use Rattle.gql_lexer.specs.declared.token.FaultAt.{FaultAt}
use Rattle.gql_lexer.specs.declared.token.TokenKind.{TokenKind}
use Rattle.gql_lexer.specs.declared.token.TokenKind.TheVariants.{Punctuator, Name, IntValue, FloatValue, StringValue, Ignored}
use Rattle.gql_lexer.specs.Lex.{past, run_len, is_mark, blank_len, is_block_quote, string_len}
use Rattle.gql_lexer.specs.Lex.{block_len, sign_end, whole_end, fraction_end, exponent_start, exponent_end, goes_on}

abbrev pub item_len : ItemRun → Text → ℕ
item_len items.Blank = blank_len
item_len items.String = string_len
item_len items.Block = block_len

abbrev pub Lexed : Type 0
Lexed = Result (TokenKind × ℕ) FaultAt

abbrev pub token : TokenKind → ℕ → Lexed
token kind len = Ok (kind, len)

abbrev pub fault : SyntaxFault → ℕ → ℕ → Lexed
fault what start end = Err (record { fault = what; start = start; end = end })

-- a number that lacks digits where `digits` and `end` are one, or that goes on at its end
unfoldable pub number : Text → Lexed
number at =
    let whole = whole_end at in
    let fraction = fraction_end at whole in
    let end = exponent_end at fraction in
    if whole == sign_end at then fault BadNumber 0 whole
    else if fraction == whole + 1 then fault BadNumber 0 fraction
    else if not (end == fraction) && end == exponent_start at fraction then fault BadNumber 0 end
    else if goes_on (slice_index at end) then fault BadNumber 0 end
    else token (if end == whole then IntValue else FloatValue) end

-- ---- the other tokens

-- a byte, and those that go on with its character
abbrev pub character_end : Text → ℕ
character_end at = past bytes.Continuation at 1

abbrev pub unexpected : Text → Lexed
unexpected at = fault BadCharacter 0 (character_end at)

-- no control but tab, LF and CR
abbrev pub is_control_at : Text → ℕ → Bool
is_control_at at from = nat_lt from (length at) && not (is_source (slice_index at from))

unfoldable pub comment : Text → Lexed
comment at =
    let end = past bytes.Line at 1 in
    if is_control_at at end then fault BadCharacter end (end + 1) else token Ignored end

unfoldable pub dots : Text → Lexed
dots at = if slice_index at 1 == 0x2E && slice_index at 2 == 0x2E then token Punctuator 3 else unexpected at

unfoldable pub mark : Text → Lexed
mark at = if is_mark at then token Ignored (run_len blank_len at) else unexpected at

unfoldable pub block_string : Text → Lexed
block_string at =
    let end = 3 + run_len block_len (drop 3 at) in
    if is_block_quote at end then token StringValue (end + 3)
    else if nat_lt end (length at) then fault BadCharacter end (end + 1)
    else fault OpenString 0 end

unfoldable pub string : Text → Lexed
string at =
    let end = 1 + run_len string_len (drop 1 at) in
    if slice_index at end == 0x22 then token StringValue (end + 1)
    else if slice_index at end == 0x5C then fault BadEscape end (end + 1)
    else if is_control_at at end then fault BadCharacter end (end + 1)
    else fault OpenString 0 end

unfoldable pub quoted : Text → Lexed
quoted at = if is_block_quote at 0 then block_string at else string at

abbrev pub lex_as : ByteClass → Text → Lexed
lex_as class.Name at = token Name (past bytes.Name at 0)
lex_as class.Number at = number at
lex_as class.Blank at = token Ignored (run_len blank_len at)
lex_as class.Punctuator at = token Punctuator 1
lex_as class.Dot at = dots at
lex_as class.Quote at = quoted at
lex_as class.Comment at = comment at
lex_as class.Comma at = token Ignored 1
lex_as class.Mark at = mark at
lex_as class.Other at = unexpected at

unfoldable pub lex : Text → Lexed
lex at = lex_as (class_of (slice_index at 0)) at

-- the token, or the fault, lies in the text
abbrev pub IsWithin : Text → Lexed → Type 0
IsWithin at (Ok found) = (0 < found.1) × (found.1 ≤ length at)
IsWithin at (Err found) = (found.start ≤ found.end) × (found.end ≤ length at)
