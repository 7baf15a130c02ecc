-- A text in quotes is one token, which stands for that text.
use Rattle.std.proofs.Common.{◌≡◌, ℕ, suc, ◌+◌, ◌-◌, ◌/◌, ◌%◌, ◌<◌, ◌≤◌, Bool, true, false, cond, ◌⊎◌, inl, inr, List, [], ◌∷◌, ◌++◌, length, Option, None, refl, sym, ap, subst, ◌∙◌, append_assoc, length-append, arith}
use Rattle.std.specs.Prelude.{◌==◌, ◌&&◌, nat_le, slice_index, encode_utf8, unwrap_or}
use Rattle.std.specs.List.{flat_map}
use Rattle.std.specs.Char.{digit_char}
use Rattle.std.proofs.lemmas.Bool.{eqb-true, lt-ltb}
use Rattle.std.proofs.lemmas.Bool.Decides.{nat_tests}
use Rattle.std.proofs.lemmas.Str.{encode_ascii}
use Rattle.gql_lexer.specs.Class.{is_line, class_of}
use Rattle.gql_lexer.specs.Lex.{run_len, run_from, string_len, is_block_quote, is_unit, unit, hex_value, unicode_escape_len, is_high_surrogate, is_low_surrogate}
use Rattle.gql_lexer.specs.Lexical.{string_end}
use Rattle.gql_lexer.specs.BlockString.{is_block_string}
use Rattle.gql_lexer.specs.Value.{item_value, escaped_character, values, values_from}
use Rattle.gql_lexer.specs.declared.token.TokenKind.TheVariants as kinds
use Rattle.gql_cst.specs.Leaves.{word}
use Rattle.gql_ast_base.specs.Literals.{string_text}
use Rattle.jb_print.specs.Quoted.{short_escape, long_escape, escaped, quoted}
use Rattle.gql_print_laws.specs.bridge.Said.{Text, IsPiece}
use Rattle.gql_print_laws.specs.bridge.Written.{Ends}

-- what is written for a byte is one item of a string, which stands for the byte; and it does not begin with a quote
pub record Item (b : ℕ) : Type 0 where
  pub len : (rest : Text) → string_len (escaped b ++ rest) ≡ length (escaped b)
  pub value : (rest : Text) → item_value (escaped b ++ rest) ≡ b ∷ []
  pub some : 0 < length (escaped b)
  pub first : (rest : Text) → (slice_index (escaped b ++ rest) 0 == 0x22) ≡ false

quote_item : Item 34
unfolding escaped string_len lib.Utf8.encode
quote_item = record { len = λ rest. refl; value = λ rest. refl; some = omega arith; first = λ rest. refl }

backslash_item : Item 92
unfolding escaped string_len lib.Utf8.encode
backslash_item = record { len = λ rest. refl; value = λ rest. refl; some = omega arith; first = λ rest. refl }

backspace_item : Item 8
unfolding escaped string_len lib.Utf8.encode
backspace_item = record { len = λ rest. refl; value = λ rest. refl; some = omega arith; first = λ rest. refl }

form_feed_item : Item 12
unfolding escaped string_len lib.Utf8.encode
form_feed_item = record { len = λ rest. refl; value = λ rest. refl; some = omega arith; first = λ rest. refl }

line_feed_item : Item 10
unfolding escaped string_len lib.Utf8.encode
line_feed_item = record { len = λ rest. refl; value = λ rest. refl; some = omega arith; first = λ rest. refl }

return_item : Item 13
unfolding escaped string_len lib.Utf8.encode
return_item = record { len = λ rest. refl; value = λ rest. refl; some = omega arith; first = λ rest. refl }

tab_item : Item 9
unfolding escaped string_len lib.Utf8.encode
tab_item = record { len = λ rest. refl; value = λ rest. refl; some = omega arith; first = λ rest. refl }

-- ---- control bytes

hex_of_digit : (d : ℕ) → d < 16 → hex_value (digit_char d) ≡ d
hex_of_digit d small = grind (arith, nat_tests)

abbrev control : ℕ → Text → Text
control b rest = 92 ∷ 117 ∷ 48 ∷ 48 ∷ digit_char (b / 16) ∷ digit_char (b % 16) ∷ rest

control_is : (b : ℕ) → b < 32 → short_escape b ≡ None → (rest : Text) → escaped b ++ rest ≡ control b rest
unfolding escaped
control_is b small none rest =
    ap (λ (o : Option (List ℕ)). unwrap_or o (long_escape b) ++ rest) none
    ∙ ap (λ (t : Bool). cond t (control b []) (b ∷ []) ++ rest) (lt-ltb b 32 small)

control_whole : (b : ℕ) → b < 32 → short_escape b ≡ None → escaped b ≡ control b []
unfolding escaped
control_whole b small none = ap (λ (o : Option (List ℕ)). unwrap_or o (long_escape b)) none ∙ ap (λ (t : Bool). cond t (control b []) (b ∷ [])) (lt-ltb b 32 small)

control_value : (b : ℕ) → b < 32 → (rest : Text) → unit (control b rest) 2 ≡ b
unfolding unit
control_value b small rest =
    let high : hex_value (digit_char (b / 16)) ≡ b / 16 = hex_of_digit (b / 16) (omega arith) in
    let low : hex_value (digit_char (b % 16)) ≡ b % 16 = hex_of_digit (b % 16) (omega arith) in
    omega (arith, high, low)

control_unit : (b : ℕ) → b < 32 → (rest : Text) → is_unit (control b rest) 2 ≡ true
unfolding is_unit
control_unit b small rest =
    let high : hex_value (digit_char (b / 16)) ≡ b / 16 = hex_of_digit (b / 16) (omega arith) in
    let low : hex_value (digit_char (b % 16)) ≡ b % 16 = hex_of_digit (b % 16) (omega arith) in
    rw (high, low, lt-ltb (b / 16) 16 (omega arith), lt-ltb (b % 16) 16 (omega arith)) refl

not_high : (b : ℕ) → b < 32 → is_high_surrogate b ≡ false
not_high b small = grind (arith, nat_tests)

not_low : (b : ℕ) → b < 32 → is_low_surrogate b ≡ false
not_low b small = grind (arith, nat_tests)

control_len : (b : ℕ) → b < 32 → (rest : Text) → string_len (control b rest) ≡ 6
unfolding string_len unicode_escape_len
control_len b small rest =
    let v = control_value b small rest in
    rw (control_unit b small rest, v, not_low b small, not_high b small) refl

control_stands : (b : ℕ) → b < 32 → (rest : Text) → item_value (control b rest) ≡ b ∷ []
unfolding escaped_character
control_stands b small rest =
    let v = control_value b small rest in
    rw (v, not_high b small) (encode_ascii b (omega arith))

control_item : (b : ℕ) → b < 32 → short_escape b ≡ None → Item b
control_item b small none = record {
  len = λ rest. subst (λ l. string_len l ≡ length (escaped b)) (sym (control_is b small none rest)) (control_len b small rest ∙ sym (ap length (control_whole b small none)));
  value = λ rest. subst (λ l. item_value l ≡ b ∷ []) (sym (control_is b small none rest)) (control_stands b small rest);
  some = let n : length (escaped b) ≡ 6 = ap length (control_whole b small none) in omega (arith, n);
  first = λ rest. ap (λ l. slice_index l 0 == 0x22) (control_is b small none rest);
}

-- ---- bytes that stand for themselves

plain_is : (b : ℕ) → (b == 34) ≡ false → (b == 92) ≡ false → 32 ≤ b → escaped b ≡ b ∷ []
unfolding escaped
plain_is b quote backslash large = grind (arith, nat_tests, quote, backslash)

plain_len : (b : ℕ) (rest : Text) → (b == 34) ≡ false → (b == 92) ≡ false → 32 ≤ b → string_len (b ∷ rest) ≡ 1
unfolding string_len
plain_len b rest quote backslash large =
    let line : is_line b ≡ true = grind (arith, nat_tests) in
    rw (backslash, line, quote) refl

plain_item : (b : ℕ) → (b == 34) ≡ false → (b == 92) ≡ false → 32 ≤ b → Item b
plain_item b quote backslash large =
    let e = plain_is b quote backslash large in
    record {
      len = λ rest. subst (λ l. string_len (l ++ rest) ≡ length l) (sym e) (plain_len b rest quote backslash large);
      value = λ rest. subst (λ l. item_value (l ++ rest) ≡ b ∷ []) (sym e) (rw backslash refl);
      some = subst (λ l. 0 < length l) (sym e) (omega arith);
      first = λ rest. subst (λ l. (slice_index (l ++ rest) 0 == 0x22) ≡ false) (sym e) quote;
    }

-- ---- every byte

same_or : (a b : ℕ) → (a ≡ b) ⊎ ((a == b) ≡ false)
same_or a b = by_test (a == b) refl where
  by_test : (t : Bool) → (a == b) ≡ t → (a ≡ b) ⊎ ((a == b) ≡ false)
  by_test true e = inl (eqb-true a b e)
  by_test false e = inr e

no_short : (c : ℕ) → (c == 34) ≡ false → (c == 92) ≡ false → (c == 8) ≡ false → (c == 12) ≡ false → (c == 10) ≡ false → (c == 13) ≡ false → (c == 9) ≡ false → short_escape c ≡ None
no_short c quote backslash backspace form_feed line_feed return tab = rw (quote, backslash, backspace, form_feed, line_feed, return, tab) refl

small_or : (b : ℕ) → (b < 32) ⊎ (32 ≤ b)
small_or b = by_test (nat_le 32 b) refl where
  by_test : (t : Bool) → nat_le 32 b ≡ t → (b < 32) ⊎ (32 ≤ b)
  by_test true e = inr (grind (arith, nat_tests, e))
  by_test false e = inl (grind (arith, nat_tests, e))

pub each_item : (b : ℕ) → Item b
each_item b =
    elim (same_or b 34) [
      | inl e ↦ subst Item (sym e) quote_item
      | inr quote ↦ (
          elim (same_or b 92) [
            | inl e ↦ subst Item (sym e) backslash_item
            | inr backslash ↦ (
                elim (small_or b) [
                  | inr large ↦ plain_item b quote backslash large
                  | inl small ↦ (
                      elim (same_or b 8) [
                        | inl e ↦ subst Item (sym e) backspace_item
                        | inr backspace ↦ (
                            elim (same_or b 12) [
                              | inl e ↦ subst Item (sym e) form_feed_item
                              | inr form_feed ↦ (
                                  elim (same_or b 10) [
                                    | inl e ↦ subst Item (sym e) line_feed_item
                                    | inr line_feed ↦ (
                                        elim (same_or b 13) [
                                          | inl e ↦ subst Item (sym e) return_item
                                          | inr return ↦ (
                                              elim (same_or b 9) [
                                                | inl e ↦ subst Item (sym e) tab_item
                                                | inr tab ↦ control_item b small (no_short b quote backslash backspace form_feed line_feed return tab)
                                              ]
                                              )
                                        ]
                                        )
                                  ]
                                  )
                            ]
                            )
                      ]
                      )
                ]
                )
          ]
          )
    ]

-- ---- rows of items

skip_run : (item : Text → ℕ) (ps more : Text) → run_from item (length ps) (ps ++ more) ≡ length ps + run_from item 0 more
skip_run item [] more = omega arith
skip_run item (p ∷ ps) more = let e = skip_run item ps more in omega (arith, e)

item_run : (item : Text → ℕ) (ps more : Text) → 0 < length ps → item (ps ++ more) ≡ length ps → run_from item 0 (ps ++ more) ≡ length ps + run_from item 0 more
item_run item [] more some e = absurd (omega arith)
item_run item (p ∷ ps) more some e =
    let n : length (p ∷ ps) - 1 ≡ length ps = omega arith in
    let z : (length (p ∷ ps) == 0) ≡ false = grind (arith, nat_tests) in
    rw (e, z, n) (let k = skip_run item ps more in omega (arith, k))

abbrev inside : Text → Text
inside t = flat_map escaped t

run_over : (t rest : Text) → run_from string_len 0 (inside t ++ 34 ∷ rest) ≡ length (inside t)
unfolding string_len
run_over [] rest = refl
run_over (b ∷ t) rest =
    let i = each_item b in
    let j : (escaped b ++ inside t) ++ 34 ∷ rest ≡ escaped b ++ (inside t ++ 34 ∷ rest) = append_assoc (escaped b) (inside t) (34 ∷ rest) in
    let a = item_run string_len (escaped b) (inside t ++ 34 ∷ rest) i.some (i.len (inside t ++ 34 ∷ rest)) in
    let n = length-append (escaped b) (inside t) in
    let k = run_over t rest in
    ap (λ l. run_from string_len 0 l) j ∙ a ∙ (omega (arith, n, k))

skip_values : (ps more : Text) → values_from (length ps) (ps ++ more) ≡ values_from 0 more
skip_values [] more = refl
skip_values (p ∷ ps) more = skip_values ps more

item_values : (ps more : Text) → 0 < length ps → string_len (ps ++ more) ≡ length ps → values_from 0 (ps ++ more) ≡ item_value (ps ++ more) ++ values_from 0 more
item_values [] more some e = absurd (omega arith)
item_values (p ∷ ps) more some e =
    let n : length (p ∷ ps) - 1 ≡ length ps = omega arith in
    let z : (length (p ∷ ps) == 0) ≡ false = grind (arith, nat_tests) in
    rw (e, z, n) (ap (λ l. item_value (p ∷ (ps ++ more)) ++ l) (skip_values ps more))

values_over : (t : Text) → values_from 0 (inside t ++ 34 ∷ []) ≡ t
unfolding string_len
values_over [] = refl
values_over (b ∷ t) =
    let i = each_item b in
    let j : (escaped b ++ inside t) ++ 34 ∷ [] ≡ escaped b ++ (inside t ++ 34 ∷ []) = append_assoc (escaped b) (inside t) (34 ∷ []) in
    ap (λ l. values_from 0 l) j ∙ item_values (escaped b) (inside t ++ 34 ∷ []) i.some (i.len (inside t ++ 34 ∷ []))
    ∙ ap (λ l. l ++ values_from 0 (inside t ++ 34 ∷ [])) (i.value (inside t ++ 34 ∷ [])) ∙ ap (λ l. b ∷ l) (values_over t)

-- ---- the token

-- no third quote stands at its front
single : (t rest : Text) → (slice_index rest 0 == 0x22) ≡ false → is_block_quote (34 ∷ (inside t ++ 34 ∷ rest)) 0 ≡ false
single [] rest other = rw other refl
single (b ∷ t) rest other =
    let f = (each_item b).first (inside t ++ 34 ∷ rest) in
    let j : (escaped b ++ inside t) ++ 34 ∷ rest ≡ escaped b ++ (inside t ++ 34 ∷ rest) = append_assoc (escaped b) (inside t) (34 ∷ rest) in
    rw (ap (λ l. slice_index l 0 == 0x22) j ∙ f) refl

closes_at : (y : ℕ) (xs rest : Text) → slice_index (y ∷ (xs ++ 34 ∷ rest)) (1 + length xs) ≡ 0x22
closes_at y [] rest = refl
closes_at y (x ∷ xs) rest =
    let n : 1 + length (x ∷ xs) ≡ suc (1 + length xs) = omega arith in
    ap (λ k. slice_index (y ∷ x ∷ (xs ++ 34 ∷ rest)) k) n ∙ closes_at x xs rest

joined : (t rest : Text) → quoted t ++ rest ≡ 34 ∷ (inside t ++ 34 ∷ rest)
joined t rest = ap (λ l. 34 ∷ l) (append_assoc (inside t) (34 ∷ []) rest)

quoted_long : (t : Text) → length (quoted t) ≡ length (inside t) + 2
quoted_long t = let n = length-append (inside t) (34 ∷ []) in omega (arith, n)

end_is : (t rest : Text) → string_end (34 ∷ (inside t ++ 34 ∷ rest)) ≡ 1 + length (inside t)
unfolding run_len
end_is t rest = ap (λ k. 1 + k) (run_over t rest)

not_quote : (b : ℕ) → (b ≡ 0x22 → ⊥) → (b == 0x22) ≡ false
not_quote b other = by_test (b == 0x22) refl where
  by_test : (t : Bool) → (b == 0x22) ≡ t → (b == 0x22) ≡ false
  by_test true e = absurd (other (eqb-true b 0x22 e))
  by_test false e = e

pub string_piece : (t rest : Text) → Ends rest → IsPiece word (quoted t) rest
string_piece t rest e =
    let end = end_is t rest in
    let n = quoted_long t in
    let at = 34 ∷ (inside t ++ 34 ∷ rest) in
    record {
      kind = kinds.StringValue;
      is = refl;
      token = inl (
        (ap (λ l. class_of (slice_index l 0)) (joined t rest), ap (λ l. is_block_quote l 0) (joined t rest) ∙ single t rest (not_quote (slice_index rest 0) e.no_quote)),
        subst (λ l. slice_index l (string_end l) ≡ 0x22) (sym (joined t rest)) (ap (λ k. slice_index at k) end ∙ closes_at 34 (inside t) rest),
        subst (λ l. length (quoted t) ≡ string_end l + 1) (sym (joined t rest)) (omega (arith, end, n)),
      );
      some = omega (arith, n);
      low = omega arith;
      next = e.low;
    }

block_not : (t : Text) → is_block_string (quoted t) ≡ false
block_not [] = refl
block_not (b ∷ t) =
    let f = (each_item b).first (inside t ++ 34 ∷ []) in
    let j : (escaped b ++ inside t) ++ 34 ∷ [] ≡ escaped b ++ (inside t ++ 34 ∷ []) = append_assoc (escaped b) (inside t) (34 ∷ []) in
    let s : (slice_index ((escaped b ++ inside t) ++ 34 ∷ []) 0 == 0x22) ≡ false = ap (λ l. slice_index l 0 == 0x22) j ∙ f in
    let k : is_block_quote (quoted (b ∷ t)) 0 ≡ false = rw s refl in
    and_false (nat_le 6 (length (quoted (b ∷ t)))) (is_block_quote (quoted (b ∷ t)) 0) (is_block_quote (quoted (b ∷ t)) (length (quoted (b ∷ t)) - 3)) k where
      and_false : (x y z : Bool) → y ≡ false → ((x && y) && z) ≡ false
      and_false true y z h = rw h refl
      and_false false y z h = refl

pub string_stands : (t : Text) → string_text (quoted t) ≡ t
unfolding string_text values
string_stands t = rw (block_not t) (values_over t)
