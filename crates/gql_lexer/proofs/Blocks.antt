-- The token of a string is a block string exactly where three quotes open it.
use Rattle.std.proofs.Common.{◌≡◌, ℕ, ◌+◌, ◌-◌, ◌≤◌, ◌⊎◌, inl, inr, Bool, true, false, ◌&&◌, length, take, refl, sym, ◌∙◌, ap, arith}
use Rattle.std.specs.Prelude.{nat_le}
use Rattle.std.proofs.lemmas.Bool.{leb-true, le-leb}
use Rattle.std.proofs.lemmas.List.{get_or-take, length-take-le, length-take}
use Rattle.gql_lexer.specs.BlockString.{is_block_string}
use Rattle.gql_lexer.specs.Class.{Text}
use Rattle.gql_lexer.specs.Lex.{is_block_quote}
use Rattle.gql_lexer.specs.Lexical.{IsToken, OpensString, OpensBlock, block_end}
use Rattle.gql_lexer.specs.declared.token.TokenKind.TheVariants.{StringValue}
use Rattle.gql_lexer.proofs.Lengths.{quote_within}

quote_kept : (at : Text) (n from : ℕ) → from + 3 ≤ n → is_block_quote (take n at) from ≡ is_block_quote at from
quote_kept at n from h =
    let a = get_or-take n at from 0 (omega arith) in
    let b = get_or-take n at (from + 1) 0 (omega arith) in
    let c = get_or-take n at (from + 2) 0 (omega arith) in
    rw (a, b, c) refl

all_three : (a b c : Bool) → a ≡ true → b ≡ true → c ≡ true → (a && b && c) ≡ true
all_three true true true p q r = refl
all_three true true false p q r = cc
all_three true false c p q r = cc
all_three false b c p q r = cc

not_first : (a b c : Bool) → a ≡ false → (a && b && c) ≡ false
not_first false b c p = refl
not_first true b c p = cc

not_second : (a b c : Bool) → b ≡ false → (a && b && c) ≡ false
not_second true false c p = refl
not_second false false c p = refl
not_second true true c p = cc
not_second false true c p = cc

pub block_told : (at : Text) (n : ℕ) → IsToken StringValue at n → OpensBlock at → is_block_string (take n at) ≡ true
block_told at n (inl h) opens = let no : true ≡ false = sym opens.1 ∙ h.0.1 in absurd cc
block_told at n (inr h) opens =
    let token = take n at in
    let inside : block_end at + 3 ≤ length at = quote_within at (block_end at) h.1 in
    let long : length token ≡ n = length-take-le n at (omega (arith, h.2, inside)) in
    let place : length token - 3 ≡ block_end at = omega (arith, long, h.2) in
    let first : is_block_quote token 0 ≡ true = quote_kept at n 0 (omega (arith, h.2)) ∙ opens.1 in
    let last : is_block_quote token (length token - 3) ≡ true = ap (is_block_quote token) place ∙ quote_kept at n (block_end at) (omega (arith, h.2)) ∙ h.1 in
    all_three (nat_le 6 (length token)) (is_block_quote token 0) (is_block_quote token (length token - 3)) (le-leb 6 (length token) (omega (arith, long, h.2))) first last

pub line_told : (at : Text) (n : ℕ) → IsToken StringValue at n → OpensString at → is_block_string (take n at) ≡ false
line_told at n token opens = by_length (nat_le 6 (length (take n at))) refl
  where
    by_length : (b : Bool) → nat_le 6 (length (take n at)) ≡ b → is_block_string (take n at) ≡ false
    by_length false e = not_first (nat_le 6 (length (take n at))) (is_block_quote (take n at) 0) (is_block_quote (take n at) (length (take n at) - 3)) e
    by_length true e =
        let long : 3 ≤ n = omega (arith, leb-true 6 (length (take n at)) e, length-take n at) in
        not_second (nat_le 6 (length (take n at))) (is_block_quote (take n at) 0) (is_block_quote (take n at) (length (take n at) - 3)) (quote_kept at n 0 long ∙ opens.1)
