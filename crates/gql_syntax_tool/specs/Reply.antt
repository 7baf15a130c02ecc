-- What is told of a text.
use Rattle.std.specs.Prelude.{◌≡◌, ℕ, List, ◌++◌, Some, None, codes}
use Rattle.std.specs.Fmt.{decimal}
use Rattle.std.specs.Str.{IsUtf8}
use Rattle.std.specs.declared.ops.Range.{Range}
use Rattle.jb_io.specs.Reply.{line}
use Rattle.gql_lexer.specs.Message.{message_of}
use Rattle.gql_lexer.specs.declared.error.CstError.{CstError}
use Rattle.gql_lexer.specs.declared.error.CstError.TheVariants.{Syntax, RecursionLimit, TokenLimit}
use Rattle.gql_cst.specs.declared.limits.Limits.{Limits}
use Rattle.gql_cst.specs.declared.limits.Checked.{Checked}
use Rattle.gql_cst.specs.Checked.{IsChecked}
use Rattle.gql_syntax_tool.specs.declared.start.Start.{Start}
use Rattle.gql_syntax_tool.specs.Start.{rule_of}

-- what is written where the words are no command
abbrev pub usage : List ℕ
usage = line (codes "usage: gql_syntax_program document | selection_set | type")

-- nesting up to 500, and any number of tokens
abbrev pub limits : Limits
limits = record { recursion = 500; tokens = None }

abbrev pub range_of : CstError → Range ℕ
range_of (Syntax fault range) = range
range_of (RecursionLimit range) = range
range_of (TokenLimit range) = range

abbrev pub counts : Checked → List ℕ
counts checked = codes "tokens " ++ (decimal checked.tokens_reached ++ (codes ", nesting " ++ decimal checked.recursion_reached))

abbrev pub fault_text : CstError → List ℕ
fault_text error = message_of error ++ (codes " at byte " ++ decimal (range_of error).start)

-- the bytes are a sentence of the start, and the text tells its tokens and its nesting
pub record Accepts (start : Start) (bytes text : List ℕ) : Type 0 where
  pub checked : Checked
  pub checks : IsChecked (rule_of start) bytes limits checked
  pub whole : checked.error ≡ None
  pub tells : text ≡ counts checked

-- why the bytes are refused: they are no text, or the parse ends in a fault
pub data Refuses (start : Start) (bytes : List ℕ) : List ℕ → Type 0 where
  no_text : (IsUtf8 bytes → ⊥) → Refuses start bytes (codes "no UTF-8")
  broken : (checked : Checked) (error : CstError) → IsChecked (rule_of start) bytes limits checked → checked.error ≡ Some error
      → Refuses start bytes (fault_text error)
