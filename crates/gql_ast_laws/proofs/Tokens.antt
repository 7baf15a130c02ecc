-- The tokens of a text of ASCII characters: names, punctuators of one character, blanks and strings on one line.
use Rattle.std.proofs.Common.{◌≡◌, ℕ, zero, suc, ◌+◌, ◌-◌, ◌<◌, ◌≤◌, inl, Bool, true, false, ◌==◌, ◌||◌, nat_lt, nat_le, Option, Some, None, List, [], ◌∷◌, length, drop, refl, ◌∙◌, ap, subst, arith}
use Rattle.std.specs.Prelude.{slice_index}
use Rattle.std.specs.List.{prefix_len}
use Rattle.std.specs.Str.{IsAscii}
use Rattle.std.proofs.lemmas.List.{drop-drop}
use Rattle.std.proofs.lemmas.Bool.{eqb-true, ltb-true, leb-true}
use Rattle.std.proofs.lemmas.Str.{IsCharBoundary-from_ascii}
use Rattle.gql_lexer.specs.Class.{Text, is_name_start, is_name_continue, is_digit, is_blank, is_punctuator}
use Rattle.gql_lexer.specs.Lex.{run_len, blank_len, is_block_quote}
use Rattle.gql_lexer.specs.Lexical.{IsToken, string_end}
use Rattle.gql_lexer.specs.declared.token.TokenKind.{TokenKind}
use Rattle.gql_lexer.specs.declared.token.TokenKind.TheVariants.{Punctuator, Name, StringValue, Ignored}
use Rattle.gql_cst.specs.Leaves.{Leaf, IsLeaf, Tiles, part_of_token}
use Rattle.gql_ast_laws.proofs.Found.{and_then, holds, fails, choose}

abbrev pub TokenOf : Text → Type 0
TokenOf at = (kind : TokenKind) × (n : ℕ) × IsToken kind at n

abbrev pub byte : Text → ℕ
byte at = slice_index at 0

abbrev pub is_number : ℕ → Bool
is_number b = is_digit b || b == 0x2D

pub name_token : (at : Text) → is_name_start (byte at) ≡ true → IsToken Name at (prefix_len is_name_continue at)
name_token at name = (rw name refl, refl)

pub blank_token : (at : Text) → is_name_start (byte at) ≡ false → is_number (byte at) ≡ false → is_blank (byte at) ≡ true
    → IsToken Ignored at (run_len blank_len at)
blank_token at name number blank = inl (inl (rw (name, number, blank) refl), refl)

pub mark_token : (at : Text) → is_name_start (byte at) ≡ false → is_number (byte at) ≡ false → is_blank (byte at) ≡ false → is_punctuator (byte at) ≡ true
    → IsToken Punctuator at 1
mark_token at name number blank mark = inl (rw (name, number, blank, mark) refl, refl)

pub string_token : (at : Text) → is_name_start (byte at) ≡ false → is_number (byte at) ≡ false → is_blank (byte at) ≡ false → is_punctuator (byte at) ≡ false
    → (byte at == 0x2E) ≡ false → (byte at == 0x22) ≡ true → is_block_quote at 0 ≡ false → (slice_index at (string_end at) == 0x22) ≡ true
    → IsToken StringValue at (string_end at + 1)
string_token at name number blank mark dot quote single closed =
    inl ((rw (name, number, blank, mark, dot, quote) refl, single), eqb-true (slice_index at (string_end at)) 0x22 closed, refl)

abbrev pub token_of : (at : Text) → Option (TokenOf at)
token_of at =
    choose (is_name_start (byte at)) (λ name. Some (Name, prefix_len is_name_continue at, name_token at name)) (λ name.
    choose (is_number (byte at)) (λ number. None) (λ number.
    choose (is_blank (byte at)) (λ blank. Some (Ignored, run_len blank_len at, blank_token at name number blank)) (λ blank.
    choose (is_punctuator (byte at)) (λ mark. Some (Punctuator, 1, mark_token at name number blank mark)) (λ mark.
    choose (byte at == 0x2E) (λ dot. None) (λ dot.
    choose (byte at == 0x22) (λ quote.
    and_then (fails (is_block_quote at 0)) (λ single.
    and_then (holds (slice_index at (string_end at) == 0x22)) (λ closed.
    Some (StringValue, string_end at + 1, string_token at name number blank mark dot quote single closed)))) (λ quote. None))))))

-- ---- one after the other

abbrev pub TilesFrom : Text → ℕ → Type 0
TilesFrom text place = (leaves : List Leaf) × Tiles text place leaves (length text)

pub laid : (text : Text) (place : ℕ) (kind : TokenKind) (n : ℕ) → IsAscii text → 0 < n → place + n ≤ length text → IsToken kind (drop place text) n
    → IsLeaf text place (record { part = part_of_token kind; start = place; end = place + n })
laid text place kind n ascii some within token = record {
  starts = refl;
  further = omega (arith, some);
  kind = kind;
  part = refl;
  token = subst (λ m. IsToken kind (drop place text) m) (let e : n ≡ place + n - place = omega arith in e) token;
  starts_character = IsCharBoundary-from_ascii text place ascii (omega (arith, within));
  ends_character = IsCharBoundary-from_ascii text (place + n) ascii within;
}

abbrev pub tokens : ℕ → (text : Text) → IsAscii text → (place : ℕ) (at : Text) → at ≡ drop place text → Option (TilesFrom text place)
tokens zero text ascii place at is = None
tokens (suc k) text ascii place [] is =
    and_then (holds (place == length text)) (λ end. Some ([], eqb-true place (length text) end))
tokens (suc k) text ascii place (b ∷ bs) is =
    and_then (token_of (b ∷ bs)) (λ found.
    and_then (holds (nat_lt 0 found.1)) (λ some.
    and_then (holds (nat_le (place + found.1) (length text))) (λ within.
    and_then (tokens k text ascii (place + found.1) (drop found.1 (b ∷ bs)) (ap (drop found.1) is ∙ drop-drop found.1 place text)) (λ rest.
    Some (
      record { part = part_of_token found.0; start = place; end = place + found.1 } ∷ rest.0,
      (laid text place found.0 found.1 ascii (ltb-true 0 found.1 some) (leb-true (place + found.1) (length text) within) (subst (λ t. IsToken found.0 t found.1) is found.2), rest.1),
    )))))
