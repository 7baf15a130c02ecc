-- The words that tokens are, by their bytes.
use Rattle.std.specs.Prelude.{ℕ, Bool, ◌||◌, ◌==◌, if◌then◌else◌, List, slice_index}
use Rattle.std.specs.List.{list_any}
use Rattle.gql_lexer.specs.Class.{is_name_start, is_digit}
use Rattle.gql_grammar.specs.declared.word.Word.{Word}
use Rattle.gql_grammar.specs.declared.word.Word.TheVariants.{IntLiteral, FloatLiteral, StringLiteral}
use Rattle.gql_grammar.specs.Spelling.{word_of_name, word_of_punctuator}

abbrev pub has_byte : ℕ → List ℕ → Bool
has_byte byte token = list_any (λ b. b == byte) token

-- a number with a fraction, `.`, or an exponent, `e` or `E`, is a FloatValue, and any other an IntValue
abbrev pub number_word : List ℕ → Word
number_word number =
    if has_byte 0x2E number || has_byte 0x65 number || has_byte 0x45 number then FloatLiteral else IntLiteral

-- the word that a token is
abbrev pub word_of : List ℕ → Word
word_of token =
    if is_name_start (slice_index token 0) then word_of_name token
    else if slice_index token 0 == 0x22 then StringLiteral
    else if is_digit (slice_index token 0) || slice_index token 0 == 0x2D then number_word token
    else word_of_punctuator (slice_index token 0)
