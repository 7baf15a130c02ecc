-- What the token of a number or a string stands for.
use Rattle.std.specs.Prelude.{ℕ, Bool, ◌||◌, ◌==◌, if◌then◌else◌, slice_index, Option, Some, None, option_and_then}
use Rattle.gql_cst.specs.Class.{is_digit}
use Rattle.gql_cst.specs.BlockString.{is_block_string, block_string_value}
use Rattle.gql_cst.specs.Value.{string_value}
use Rattle.gql_cst.specs.Forest.{Forest, Plain}
use Rattle.gql_cst.specs.SyntaxKind.TheVariants.{Description}
use Rattle.gql_ast_base.specs.Parts.{Text, token_text, first, inside}

-- the token is a string
abbrev pub opens_string : Text → Bool
opens_string token = slice_index token 0 == 0x22

-- the characters that a string stands for
unfoldable pub string_text : Text → Text
string_text token = if is_block_string token then block_string_value token else string_value token

-- a number begins with a digit or `-`
abbrev pub opens_number : Text → Bool
opens_number token = is_digit (slice_index token 0) || slice_index token 0 == 0x2D

-- of numbers, only those with a fraction or an exponent have one of `.`, `e` and `E`
abbrev pub has_part : ℕ → Bool
has_part byte = byte == 0x2E || byte == 0x65 || byte == 0x45

-- the characters of a token that is a string
abbrev pub string_of : Text → Plain → Option Text
string_of text tree =
    option_and_then (λ token. if opens_string token then Some (string_text token) else None) (token_text text tree)

-- the description among the parts of a definition
unfoldable pub description : Text → Forest → Option Text
description text row = first (string_of text) (inside Description row)
