-- What is read at the front of a text is what stands there, and the other way round.
use Rattle.std.proofs.Common.{◌≡◌, ℕ, suc, ◌+◌, ◌⊎◌, inl, inr, Bool, true, false, not, ◌&&◌, length, drop, get_or, refl, ◌∙◌, ap, arith, add-zero, zero-add}
use Rattle.std.specs.Prelude.{if◌then◌else◌, ◌==◌, slice_index, nat_lt}
use Rattle.std.specs.List.{prefix_len}
use Rattle.gql_lexer.specs.Class.{Text, class_of, is_name_continue, is_line, is_source}
use Rattle.gql_lexer.specs.Lex.{string_len, block_len, is_block_quote, is_mark, goes_on, whole_end}
use Rattle.gql_lexer.specs.bridge.Lex.{Lexed, token, lex, lex_as, number, comment, dots, mark, block_string, string, quoted, is_control_at}
use Rattle.gql_lexer.specs.Lexical.{Begins, IsNumber, IsControl, EndsLine, is_spread, lacks_whole, lacks_fraction, lacks_exponent, number_end, comment_end, string_end, block_end}
use Rattle.gql_lexer.specs.bridge.Lexical.{Stands}
use Rattle.std.proofs.lemmas.Bool.{eqb-true, ltb-true, ltb-false, lt-ltb}
use Rattle.std.proofs.lemmas.Bool.Decides.{nat_tests, leb_tells}
use Rattle.std.proofs.lemmas.List.{drop-drop, get_or-drop}
use Rattle.gql_lexer.proofs.Choices.{both, chose_zero, not_true, not_false, and_true}
use Rattle.gql_lexer.proofs.Lengths.{string_len-le, block_len-le}
use Rattle.gql_lexer.proofs.Runs.{run_len-stops}
use Rattle.gql_lexer.specs.declared.token.TokenKind.TheVariants.{IntValue, FloatValue}
use Rattle.gql_lexer.specs.declared.class.ByteClass.{ByteClass}
use Rattle.gql_lexer.specs.declared.class.ByteClass.TheVariants as class

choose : (at : Text) (b : Bool) (x y : Lexed) → (b ≡ true → Stands at x) → (b ≡ false → Stands at y) → Stands at (if b then x else y)
choose at true x y p q = p refl
choose at false x y p q = q refl

dots-stands : (at : Text) → Begins class.Dot at → Stands at (dots at)
unfolding dots
dots-stands at b = choose at (is_spread at) _ _ (λ s. inr (b, s, refl)) (λ s. inl (inr (inr (b, s)), refl, refl))

mark-stands : (at : Text) → Begins class.Mark at → Stands at (mark at)
unfolding mark
mark-stands at b = choose at (is_mark at) _ _ (λ s. inl (inr (b, s), refl)) (λ s. inl (inr (inl (b, s)), refl, refl))

number_of : (at : Text) → IsNumber at (number_end at) → (b : Bool) → (number_end at == whole_end at) ≡ b → Stands at (token (if b then IntValue else FloatValue) (number_end at))
number_of at h true e = (h, eqb-true (number_end at) (whole_end at) e)
number_of at h false e = (h, e)

number_kind : (at : Text) → IsNumber at (number_end at) → Stands at (token (if number_end at == whole_end at then IntValue else FloatValue) (number_end at))
number_kind at h = number_of at h (number_end at == whole_end at) refl

control : (at : Text) (place : ℕ) → is_control_at at place ≡ true → IsControl at place
control at place h =
    let p = both (nat_lt place (length at)) (not (is_source (slice_index at place))) h in
    (ltb-true place (length at) p.0, not_true (is_source (slice_index at place)) p.1)

no_control : (at : Text) (place : ℕ) → is_control_at at place ≡ false → IsControl at place → ⊥
no_control at place h c =
    let e : is_control_at at place ≡ true = rw (lt-ltb place (length at) c.0, c.1) refl in cc

number-stands : (at : Text) → Begins class.Number at → Stands at (number at)
unfolding number
number-stands at b =
    choose at (lacks_whole at) _ _ (λ w. (b, refl, inl (w, refl))) (λ w.
    choose at (lacks_fraction at) _ _ (λ f. (b, refl, inr (inl (w, f, refl)))) (λ f.
    choose at (lacks_exponent at) _ _ (λ e. (b, refl, inr (inr (inl (w, f, e, refl))))) (λ e.
    choose at (goes_on (slice_index at (number_end at))) _ _ (λ g. (b, refl, inr (inr (inr (w, f, e, g, refl))))) (λ g.
    number_kind at (record { begins = b; whole = w; fraction = f; exponent = e; ends = refl; alone = g })))))

comment-stands : (at : Text) → Begins class.Comment at → Stands at (comment at)
unfolding comment
comment-stands at b =
    choose at (is_control_at at (comment_end at)) _ _
    (λ c. inr (inl (b, refl), control at (comment_end at) c, refl))
    (λ c. inr (inr (b, no_control at (comment_end at) c, refl)))

-- a character or an escape goes on unless the text or the line ends
plain_stops : (s : Text) → string_len s ≡ 0 → (get_or s 0 0 == 0x22) ≡ false → (get_or s 0 0 == 0x5C) ≡ false → is_line (get_or s 0 0) ≡ false
unfolding string_len
plain_stops s h quote backslash =
    let g : (if is_line (get_or s 0 0) && not (get_or s 0 0 == 0x22) then 1 else 0) ≡ 0 = rw backslash at h in
    and_true (is_line (get_or s 0 0)) (rw quote at (chose_zero (is_line (get_or s 0 0) && not (get_or s 0 0 == 0x22)) 0 0 g).0)

block_plain : (s : Text) → block_len s ≡ 0 → is_block_quote s 0 ≡ false → is_source (get_or s 0 0) ≡ false
unfolding block_len
block_plain s h quote =
    let escape : Bool = get_or s 0 0 == 0x5C && is_block_quote s 1 in
    let g : (if escape then 4 else if is_source (get_or s 0 0) then 1 else 0) ≡ 0 = rw quote at h in
    (chose_zero (is_source (get_or s 0 0)) 0 0 (chose_zero escape 3 (if is_source (get_or s 0 0) then 1 else 0) g).1).0

first-drop : (at : Text) (n : ℕ) → get_or (drop n at) 0 0 ≡ get_or at n 0
first-drop at n = get_or-drop n at 0 0 ∙ ap (λ i. get_or at i 0) (add-zero n)

not_control : (at : Text) (place : ℕ) → nat_lt place (length at) ≡ true → is_control_at at place ≡ false → is_source (slice_index at place) ≡ true
not_control at place h c = not_false (is_source (slice_index at place)) (rw h at c)

line_ends : (b : ℕ) → is_line b ≡ false → is_source b ≡ true → (b ≡ 0x0A) ⊎ (b ≡ 0x0D)
line_ends b h g = grind (arith, nat_tests)

string_stops : (at : Text) → string_len (drop (string_end at) at) ≡ 0
string_stops at = rw drop-drop at (run_len-stops string_len string_len-le (drop 1 at))

block_stops : (at : Text) → block_len (drop (block_end at) at) ≡ 0
block_stops at = rw drop-drop at (run_len-stops block_len block_len-le (drop 3 at))

string-ends : (at : Text) → (slice_index at (string_end at) == 0x22) ≡ false → (slice_index at (string_end at) == 0x5C) ≡ false
    → is_control_at at (string_end at) ≡ false → EndsLine at (string_end at)
string-ends at k s c =
    let end = string_end at in
    let e : get_or (drop end at) 0 0 ≡ get_or at end 0 = first-drop at end in
    let line : is_line (get_or at end 0) ≡ false =
    rw e at (plain_stops (drop end at) (string_stops at) (rw e k) (rw e s)) in
    elim (leb_tells (suc end) (length at)) [
      | inl w ↦ inr (line_ends (get_or at end 0) line (not_control at end w.0 c))
      | inr w ↦ inl (omega arith)
    ]

string-stands : (at : Text) → Begins class.Quote at → is_block_quote at 0 ≡ false → Stands at (string at)
unfolding string
string-stands at b q =
    let end = string_end at in
    choose at (slice_index at end == 0x22) _ _ (λ k. inl ((b, q), eqb-true _ _ k, refl)) (λ k.
    choose at (slice_index at end == 0x5C) _ _ (λ s. ((b, q), refl, eqb-true _ _ s, refl)) (λ s.
    choose at (is_control_at at end) _ _ (λ c. inr (inr (inl ((b, q), refl)), control at end c, refl)) (λ c.
    inl ((b, q), string-ends at k s c, refl, refl))))

block-ends : (at : Text) → is_block_quote at (block_end at) ≡ false → is_source (slice_index at (block_end at)) ≡ false
block-ends at k =
    let end = block_end at in
    let e : get_or (drop end at) 0 0 ≡ get_or at end 0 = first-drop at end in
    let f : get_or (drop end at) 1 0 ≡ get_or at (end + 1) 0 = get_or-drop end at 1 0 in
    let g : get_or (drop end at) 2 0 ≡ get_or at (end + 2) 0 = get_or-drop end at 2 0 in
    let quote : is_block_quote (drop end at) 0 ≡ false = rw (e, f, g) k in
    rw e at (block_plain (drop end at) (block_stops at) quote)

block_string-stands : (at : Text) → Begins class.Quote at → is_block_quote at 0 ≡ true → Stands at (block_string at)
unfolding block_string
block_string-stands at b q =
    let end = block_end at in
    choose at (is_block_quote at end) _ _ (λ k. inr ((b, q), k, refl)) (λ k.
    choose at (nat_lt end (length at)) _ _
    (λ l. inr (inr (inr ((b, q), refl)), (ltb-true end (length at) l, block-ends at k), refl))
    (λ l. inr ((b, q), ltb-false end (length at) l, refl, refl)))

quoted-stands : (at : Text) → Begins class.Quote at → Stands at (quoted at)
unfolding quoted
quoted-stands at b = choose at (is_block_quote at 0) _ _ (block_string-stands at b) (string-stands at b)

class-stands : (at : Text) (c : ByteClass) → Begins c at → Stands at (lex_as c at)
class-stands at class.Name b = (b, zero-add (prefix_len is_name_continue at))
class-stands at class.Number b = number-stands at b
class-stands at class.Blank b = inl (inl b, refl)
class-stands at class.Punctuator b = inl (b, refl)
class-stands at class.Dot b = dots-stands at b
class-stands at class.Quote b = quoted-stands at b
class-stands at class.Comment b = comment-stands at b
class-stands at class.Comma b = inr (inl (b, refl))
class-stands at class.Mark b = mark-stands at b
class-stands at class.Other b = inl (inl b, refl, refl)

pub lex-stands : (at : Text) → Stands at (lex at)
unfolding lex
lex-stands at = class-stands at (class_of (slice_index at 0)) refl
