-- The line and the column one byte further on.
use Rattle.std.proofs.Common.{◌≡◌, ℕ, ◌+◌, ◌-◌, ◌<◌, ◌≤◌, true, false, List, [], ◌∷◌, length, get_or, take, drop, refl, ◌∙◌, ap, arith, length-append}
use Rattle.std.proofs.lemmas.List.{get_or-append_right, get_or-drop, length-drop, length-map, length-take}
use Rattle.std.proofs.lemmas.List.FromFn.{length-range_with_len}
use Rattle.std.proofs.lemmas.List.Sums.{count_by-le-length, count_by_more_no, count_by_more_yes, length-filter}
use Rattle.std.specs.List.{count_by, filter, range_with_len}
use Rattle.gql_source.specs.declared.line_column.LineColumn.{LineColumn}
use Rattle.gql_source.specs.Lines.{ends_line, begins_character, line_starts, line_start, line_column}
use Rattle.gql_source.proofs.LineStarts.{line_starts-ends, line_starts-goes_on, start-up_to}

pub line_column-start : (text : List ℕ) → line_column text 0 ≡ record { line = 1; column = 1 }
unfolding line_column line_starts
line_column-start text = refl

-- a line starts behind the byte that ends one
pub line_column-ends : (text : List ℕ) (n : ℕ) → ends_line text n ≡ true → line_column text (n + 1) ≡ record { line = (line_column text n).line + 1; column = 1 }
unfolding line_column
line_column-ends text n ends =
    let starts = line_starts-ends text n ends in
    let lines : length (line_starts text (n + 1)) ≡ length (line_starts text n) + 1 = ap length starts ∙ length-append (line_starts text n) ((n + 1) ∷ []) in
    let last : line_start text (n + 1) ≡ n + 1 =
    rw (lines, starts) (let e : length (line_starts text n) + 1 - 1 ≡ length (line_starts text n) = omega arith in
    rw e (get_or-append_right (line_starts text n) ((n + 1) ∷ []) (length (line_starts text n)) (length (line_starts text n)) 0 refl (omega arith)
    ∙ ap (λ k. get_or ((n + 1) ∷ []) k 0) (let z : length (line_starts text n) - length (line_starts text n) ≡ 0 = omega arith in z))) in
    let none : (n + 1) - line_start text (n + 1) ≡ 0 = omega (arith, last) in
    let count : count_by begins_character (take ((n + 1) - line_start text (n + 1)) (drop (line_start text (n + 1)) text)) + 1 ≡ 1 = rw none refl in
    rw (count, lines) refl

-- the line goes on behind any other, with one more column where the byte begins a character
module _ (text : List ℕ) (n : ℕ) (within : n < length text) (goes_on : ends_line text n ≡ false) where
  one_more : (n + 1) - line_start text n ≡ (n - line_start text n) + 1
  one_more = omega (arith, start-up_to text n)

  in_line : n - line_start text n < length (drop (line_start text n) text)
  in_line = omega (arith, start-up_to text n, length-drop (line_start text n) text)

  this_byte : get_or (drop (line_start text n) text) (n - line_start text n) 0 ≡ get_or text n 0
  this_byte = get_or-drop (line_start text n) text (n - line_start text n) 0 ∙ ap (λ k. get_or text k 0) (let e : line_start text n + (n - line_start text n) ≡ n = omega (arith, start-up_to text n) in e)

  pub line_column-begins : begins_character (get_or text n 0) ≡ true → line_column text (n + 1) ≡ record { line = (line_column text n).line; column = (line_column text n).column + 1 }
  unfolding line_column
  line_column-begins begins =
      let count = count_by_more_yes begins_character (drop (line_start text n) text) (n - line_start text n) 0 in_line (ap begins_character this_byte ∙ begins) in
      rw (line_starts-goes_on text n goes_on, one_more, count) refl

  pub line_column-continues : begins_character (get_or text n 0) ≡ false → line_column text (n + 1) ≡ line_column text n
  unfolding line_column
  line_column-continues continues =
      let count = count_by_more_no begins_character (drop (line_start text n) text) (n - line_start text n) 0 in_line (ap begins_character this_byte ∙ continues) in
      rw (line_starts-goes_on text n goes_on, one_more, count) refl

-- both counts are small
line-small : (text : List ℕ) (n : ℕ) → (line_column text n).line ≤ n + 1
unfolding line_column line_starts
line-small text n =
    let ends = filter (ends_line text) (range_with_len 0 n) in
    omega (
      arith,
      length-map ends (λ at. at + 1),
      length-filter (ends_line text) (range_with_len 0 n),
      count_by-le-length (ends_line text) (range_with_len 0 n),
      length-range_with_len 0 n,
    )

column-small : (text : List ℕ) (n : ℕ) → (line_column text n).column ≤ n + 1
unfolding line_column
column-small text n =
    let part = take (n - line_start text n) (drop (line_start text n) text) in
    omega (arith, count_by-le-length begins_character part, length-take (n - line_start text n) (drop (line_start text n) text))

pub line-within : (text : List ℕ) (n : ℕ) (place : LineColumn) → place ≡ line_column text n → place.line ≤ n + 1
line-within text n place is = rw is (line-small text n)

pub column-within : (text : List ℕ) (n : ℕ) (place : LineColumn) → place ≡ line_column text n → place.column ≤ n + 1
column-within text n place is = rw is (column-small text n)
