-- A text in quotes spells that text, character by character.
use Rattle.std.proofs.Common.{◌≡◌, ℕ, suc, ◌/◌, ◌%◌, ◌<◌, Bool, true, false, cond, ◌⊎◌, inl, inr, List, [], ◌∷◌, ◌++◌, length, get_or, Option, None, Some, refl, sym, ap, subst, ◌∙◌, append_assoc, arith}
use Rattle.std.specs.Prelude.{◌==◌, encode_utf8, unwrap_or}
use Rattle.std.specs.List.{flat_map}
use Rattle.std.specs.Char.{IsScalar, digit_char}
use Rattle.std.specs.Str.{IsUtf8, encode_utf8_all, all_scalars}
use Rattle.std.proofs.lemmas.Bool.{eqb-true, lt-ltb, and_parts, true≢false, false_from_ne_true}
use Rattle.std.proofs.lemmas.Bool.Decides.{nat_tests}
use Rattle.std.proofs.lemmas.List.{append-nil}
use Rattle.std.proofs.lemmas.List.Concat.{flat_map-append}
use Rattle.std.proofs.lemmas.Str.{inside_one, encode_ascii}
use Rattle.jb_text.specs.Plain.{is_plain}
use Rattle.jb_print.specs.Quoted.{short_escape, long_escape, escaped, quoted}
use Rattle.jb_print.proofs.Escapes.{escaped-plain}
use Rattle.jb_read.specs.Strings.{is_special, hex_value, is_high, is_low}
use Rattle.jb_read.specs.Spelling.{SpellsUnit, SpellsCharacter, plain, short, unit, SpellsCharacters, SpellsString}

-- ---- characters that stand for themselves

plain_byte : (b : ℕ) → is_special b ≡ false → is_plain b ≡ true
plain_byte b e = grind (arith, nat_tests)

special_small : (b : ℕ) → is_special b ≡ true → b < 128
special_small b e = grind (arith, nat_tests)

plain_bytes : (bytes : List ℕ) → ((k : ℕ) → k < length bytes → is_special (get_or bytes k 0) ≡ false) → flat_map escaped bytes ≡ bytes
plain_bytes [] h = refl
plain_bytes (b ∷ bytes) h =
    ap (λ (l : List ℕ). l ++ flat_map escaped bytes) (escaped-plain b (plain_byte b (h 0 (omega arith))))
    ∙ ap (λ (l : List ℕ). b ∷ l) (plain_bytes bytes (λ k lt. h (suc k) (omega arith)))

-- no byte of a character that isn't special is
plain_character : (c : ℕ) → is_special c ≡ false → flat_map escaped (encode_utf8 c) ≡ encode_utf8 c
plain_character c e = plain_bytes (encode_utf8 c) (λ k lt. false_from_ne_true (is_special (get_or (encode_utf8 c) k 0)) (λ s.
    both (get_or (encode_utf8 c) k 0) s (inside_one c [] (encode_utf8 c) k (sym (append-nil (encode_utf8 c))) lt (special_small (get_or (encode_utf8 c) k 0) s))))
  where
    both : (b : ℕ) → is_special b ≡ true → c ≡ b → ⊥
    both b s same = true≢false (sym s ∙ ap is_special (sym same) ∙ e)

-- ---- escapes

record Escaped (c : ℕ) : Type 0 where
  spelled : (behind : List ℕ) → SpellsCharacter c (escaped c ++ behind) behind

quote_escaped : Escaped 34
unfolding escaped
quote_escaped = record { spelled = λ behind. short 34 refl refl }

backslash_escaped : Escaped 92
unfolding escaped
backslash_escaped = record { spelled = λ behind. short 92 refl refl }

backspace_escaped : Escaped 8
unfolding escaped
backspace_escaped = record { spelled = λ behind. short 98 refl refl }

form_feed_escaped : Escaped 12
unfolding escaped
form_feed_escaped = record { spelled = λ behind. short 102 refl refl }

line_feed_escaped : Escaped 10
unfolding escaped
line_feed_escaped = record { spelled = λ behind. short 110 refl refl }

return_escaped : Escaped 13
unfolding escaped
return_escaped = record { spelled = λ behind. short 114 refl refl }

tab_escaped : Escaped 9
unfolding escaped
tab_escaped = record { spelled = λ behind. short 116 refl refl }

hex_of_digit : (d : ℕ) → d < 16 → hex_value (digit_char d) ≡ Some d
hex_of_digit d small = grind (arith, nat_tests)

control_unit : (byte : ℕ) (behind : List ℕ) → byte < 32 → SpellsUnit byte (92 ∷ 117 ∷ 48 ∷ 48 ∷ digit_char (byte / 16) ∷ digit_char (byte % 16) ∷ behind) behind
control_unit byte behind small = record {
  first = 48;
  second = 48;
  third = digit_char (byte / 16);
  fourth = digit_char (byte % 16);
  spelled = refl;
  a = 0;
  b = 0;
  c = byte / 16;
  d = byte % 16;
  first_is = refl;
  second_is = refl;
  third_is = hex_of_digit (byte / 16) (omega arith);
  fourth_is = hex_of_digit (byte % 16) (omega arith);
  unit_is = omega arith;
}

control_escaped : (byte : ℕ) → byte < 32 → short_escape byte ≡ None → Escaped byte
unfolding escaped
control_escaped byte small none = record {
  spelled = λ behind.
      let at : escaped byte ++ behind ≡ 92 ∷ 117 ∷ 48 ∷ 48 ∷ digit_char (byte / 16) ∷ digit_char (byte % 16) ∷ behind =
      ap (λ (o : Option (List ℕ)). unwrap_or o (long_escape byte) ++ behind) none
      ∙ ap (λ (t : Bool). cond t (92 ∷ 117 ∷ 48 ∷ 48 ∷ digit_char (byte / 16) ∷ digit_char (byte % 16) ∷ []) (byte ∷ []) ++ behind) (lt-ltb byte 32 small) in
      let high : is_high byte ≡ false = grind (arith, nat_tests) in
      let low : is_low byte ≡ false = grind (arith, nat_tests) in
      unit (subst (λ (l : List ℕ). SpellsUnit byte l behind) (sym at) (control_unit byte behind small)) high low;
}

same_or : (a b : ℕ) → (a ≡ b) ⊎ ((a == b) ≡ false)
same_or a b = by_test (a == b) refl
  where
    by_test : (t : Bool) → (a == b) ≡ t → (a ≡ b) ⊎ ((a == b) ≡ false)
    by_test true e = inl (eqb-true a b e)
    by_test false e = inr e

no_short : (c : ℕ) → (c == 34) ≡ false → (c == 92) ≡ false → (c == 8) ≡ false → (c == 12) ≡ false → (c == 10) ≡ false → (c == 13) ≡ false → (c == 9) ≡ false → short_escape c ≡ None
no_short c quote backslash backspace form_feed line_feed return tab = rw (quote, backslash, backspace, form_feed, line_feed, return, tab) refl

special_control : (c : ℕ) → is_special c ≡ true → (c == 34) ≡ false → (c == 92) ≡ false → c < 32
special_control c special quote backslash = grind (arith, nat_tests)

special_escaped : (c : ℕ) → is_special c ≡ true → Escaped c
special_escaped c special =
    elim (same_or c 34) [
      | inl e ↦ subst Escaped (sym e) quote_escaped
      | inr quote ↦ (
          elim (same_or c 92) [
            | inl e ↦ subst Escaped (sym e) backslash_escaped
            | inr backslash ↦ (
                elim (same_or c 8) [
                  | inl e ↦ subst Escaped (sym e) backspace_escaped
                  | inr backspace ↦ (
                      elim (same_or c 12) [
                        | inl e ↦ subst Escaped (sym e) form_feed_escaped
                        | inr form_feed ↦ (
                            elim (same_or c 10) [
                              | inl e ↦ subst Escaped (sym e) line_feed_escaped
                              | inr line_feed ↦ (
                                  elim (same_or c 13) [
                                    | inl e ↦ subst Escaped (sym e) return_escaped
                                    | inr return ↦ (
                                        elim (same_or c 9) [
                                          | inl e ↦ subst Escaped (sym e) tab_escaped
                                          | inr tab ↦
                                              control_escaped c (special_control c special quote backslash) (no_short c quote backslash backspace form_feed line_feed return tab)
                                        ])
                                  ])
                            ])
                      ])
                ])
          ])
    ]

-- ---- characters and strings

character_spelled : (c : ℕ) (behind : List ℕ) → IsScalar c → SpellsCharacter c (flat_map escaped (encode_utf8 c) ++ behind) behind
character_spelled c behind scalar = by_test (is_special c) refl
  where
    by_test : (t : Bool) → is_special c ≡ t → SpellsCharacter c (flat_map escaped (encode_utf8 c) ++ behind) behind
    by_test true e =
        let alone : flat_map escaped (encode_utf8 c) ≡ escaped c = ap (flat_map escaped) (encode_ascii c (special_small c e)) ∙ append-nil (escaped c) in
        subst (λ (l : List ℕ). SpellsCharacter c (l ++ behind) behind) (sym alone) ((special_escaped c e).spelled behind)
    by_test false e = plain scalar e (ap (λ (l : List ℕ). l ++ behind) (plain_character c e))

characters_spelled : (cs rest : List ℕ) → all_scalars cs ≡ true → SpellsCharacters cs (flat_map escaped (encode_utf8_all cs) ++ 34 ∷ rest) rest
characters_spelled [] rest s = refl
characters_spelled (c ∷ cs) rest s =
    let scalars = and_parts _ (all_scalars cs) s in
    let behind : List ℕ = flat_map escaped (encode_utf8_all cs) ++ 34 ∷ rest in
    let parts : flat_map escaped (encode_utf8 c ++ encode_utf8_all cs) ++ 34 ∷ rest ≡ flat_map escaped (encode_utf8 c) ++ behind =
    ap (λ (l : List ℕ). l ++ 34 ∷ rest) (flat_map-append escaped (encode_utf8 c) (encode_utf8_all cs))
    ∙ append_assoc (flat_map escaped (encode_utf8 c)) (flat_map escaped (encode_utf8_all cs)) (34 ∷ rest) in
    (behind, subst (λ (l : List ℕ). SpellsCharacter c l behind) (sym parts) (character_spelled c behind scalars.0), characters_spelled cs rest scalars.1)

pub string_spelled : (text rest : List ℕ) → IsUtf8 text → SpellsString text (quoted text ++ rest) rest
string_spelled text rest utf8 = record {
  inside = flat_map escaped text ++ 34 ∷ rest;
  characters = utf8.0;
  opened = ap (λ (l : List ℕ). 34 ∷ l) (append_assoc (flat_map escaped text) (34 ∷ []) rest);
  spelled = subst (λ (bytes : List ℕ). SpellsCharacters utf8.0 (flat_map escaped bytes ++ 34 ∷ rest) rest) utf8.1.1 (characters_spelled utf8.0 rest utf8.1.0);
  bytes_are = utf8.1.1;
}
