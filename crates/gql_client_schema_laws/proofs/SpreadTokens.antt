-- The tokens of a text of ASCII characters without strings, where spreads are among them.
use Rattle.std.proofs.Common.{◌≡◌, ℕ, zero, suc, ◌+◌, inr, true, false, ◌==◌, nat_lt, nat_le, Option, Some, None, [], ◌∷◌, length, drop, refl, ◌∙◌, ap, subst}
use Rattle.std.specs.List.{prefix_len}
use Rattle.std.specs.Str.{IsAscii}
use Rattle.std.proofs.lemmas.Bool.{eqb-true, ltb-true, leb-true}
use Rattle.std.proofs.lemmas.List.{drop-drop}
use Rattle.gql_ast_laws.proofs.Found.{and_then, holds, choose}
use Rattle.gql_ast_laws.proofs.Tokens.{TokenOf, TilesFrom, byte, is_number, name_token, blank_token, mark_token, laid}
use Rattle.gql_cst.specs.Leaves.{part_of_token}
use Rattle.gql_lexer.specs.Class.{Text, is_name_start, is_name_continue, is_blank, is_punctuator}
use Rattle.gql_lexer.specs.Lex.{run_len, blank_len}
use Rattle.gql_lexer.specs.Lexical.{IsToken, is_spread}
use Rattle.gql_lexer.specs.declared.token.TokenKind.TheVariants.{Punctuator, Name, Ignored}

pub dots_token : (at : Text) → is_name_start (byte at) ≡ false → is_number (byte at) ≡ false → is_blank (byte at) ≡ false → is_punctuator (byte at) ≡ false
    → (byte at == 0x2E) ≡ true → is_spread at ≡ true → IsToken Punctuator at 3
dots_token at name number blank mark dot spread = inr (rw (name, number, blank, mark, dot) refl, spread, refl)

abbrev pub token_of : (at : Text) → Option (TokenOf at)
token_of at =
    choose (is_name_start (byte at)) (λ name. Some (Name, prefix_len is_name_continue at, name_token at name)) (λ name.
    choose (is_number (byte at)) (λ number. None) (λ number.
    choose (is_blank (byte at)) (λ blank. Some (Ignored, run_len blank_len at, blank_token at name number blank)) (λ blank.
    choose (is_punctuator (byte at)) (λ mark. Some (Punctuator, 1, mark_token at name number blank mark)) (λ mark.
    choose (byte at == 0x2E)
    (λ dot. and_then (holds (is_spread at)) (λ spread. Some (Punctuator, 3, dots_token at name number blank mark dot spread))) (λ dot. None)))))

-- ---- one after the other

abbrev pub tokens : ℕ → (text : Text) → IsAscii text → (place : ℕ) (at : Text) → at ≡ drop place text → Option (TilesFrom text place)
tokens zero text ascii place at is = None
tokens (suc k) text ascii place [] is =
    and_then (holds (place == length text)) (λ end. Some ([], eqb-true place (length text) end))
tokens (suc k) text ascii place (b ∷ bs) is =
    and_then (token_of (b ∷ bs)) (λ found.
    and_then (holds (nat_lt 0 found.1)) (λ some.
    and_then (holds (nat_le (place + found.1) (length text))) (λ within.
    and_then (tokens k text ascii (place + found.1) (drop found.1 (b ∷ bs)) (ap (drop found.1) is ∙ drop-drop found.1 place text)) (λ rest.
    Some (
      record { part = part_of_token found.0; start = place; end = place + found.1 } ∷ rest.0,
      (laid text place found.0 found.1 ascii (ltb-true 0 found.1 some) (leb-true (place + found.1) (length text) within) (subst (λ t. IsToken found.0 t found.1) is found.2), rest.1),
    )))))
