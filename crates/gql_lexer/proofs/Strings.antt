-- A byte that stands for itself in a string or a block string is an item of its own.
use Rattle.std.proofs.Common.{◌≡◌, ℕ, ◌+◌, true, not, ◌&&◌, ◌∷◌, drop, refl, arith}
use Rattle.std.specs.Prelude.{◌==◌}
use Rattle.std.specs.List.{prefix_len}
use Rattle.std.proofs.lemmas.List.{drop-drop}
use Rattle.gql_lexer.specs.Class.{Text, is_block_plain, is_line, is_plain, is_source}
use Rattle.gql_lexer.specs.Lex.{block_len, string_len, run_len}
use Rattle.gql_lexer.proofs.Choices.{both, not_true}
use Rattle.gql_lexer.proofs.Runs.{run_len-bytes}

one_plain : (b : ℕ) (at : Text) → is_plain b ≡ true → string_len (b ∷ at) ≡ 1
unfolding string_len
one_plain b at h =
    let backslash = both (is_line b && not (b == 0x22)) (not (b == 0x5C)) h in
    rw (not_true (b == 0x5C) backslash.1, backslash.0) refl

-- where the bytes end that stand for themselves behind the quote
abbrev pub plain_end : Text → ℕ
plain_end at = 1 + prefix_len is_plain (drop 1 at)

pub string-row : (at : Text) → 1 + run_len string_len (drop 1 at) ≡ plain_end at + run_len string_len (drop (plain_end at) at)
string-row at =
    let n = prefix_len is_plain (drop 1 at) in
    let e : drop n (drop 1 at) ≡ drop (1 + n) at = drop-drop n 1 at in
    omega (arith, rw e at (run_len-bytes string_len is_plain one_plain (drop 1 at)))

one_block_plain : (b : ℕ) (at : Text) → is_block_plain b ≡ true → block_len (b ∷ at) ≡ 1
unfolding block_len
one_block_plain b at h =
    let backslash = both (is_source b && not (b == 0x22)) (not (b == 0x5C)) h in
    let quote = both (is_source b) (not (b == 0x22)) backslash.0 in
    rw (not_true (b == 0x22) quote.1, not_true (b == 0x5C) backslash.1, quote.0) refl

-- where the bytes end that stand for themselves behind the three quotes
abbrev pub block_plain_end : Text → ℕ
block_plain_end at = 3 + prefix_len is_block_plain (drop 3 at)

pub block-row : (at : Text) → 3 + run_len block_len (drop 3 at) ≡ block_plain_end at + run_len block_len (drop (block_plain_end at) at)
block-row at =
    let n = prefix_len is_block_plain (drop 3 at) in
    let e : drop n (drop 3 at) ≡ drop (3 + n) at = drop-drop n 3 at in
    omega (arith, rw e at (run_len-bytes block_len is_block_plain one_block_plain (drop 3 at)))
