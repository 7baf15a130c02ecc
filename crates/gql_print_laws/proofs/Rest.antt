-- What is left of a text from a place on, and the tokens at its front.
use Rattle.std.proofs.Common.{◌≡◌, ℕ, suc, ◌+◌, ◌-◌, ◌<◌, ◌≤◌, Bool, true, false, nat_eq, nat_lt, [], ◌∷◌, ◌++◌, length, take, drop, refl, sym, ap, ◌∙◌, arith, length-append, length-drop, drop-drop, get_or-drop, inl}
use Rattle.std.proofs.Math.Seq.{drop-append_seam, take-append_seam}
use Rattle.std.specs.Prelude.{◌&&◌, ◌||◌, nat_le, slice_index, slice_range}
use Rattle.std.specs.List.{list_all, prefix_len}
use Rattle.std.specs.Str.{IsCharBoundary}
use Rattle.gql_lexer.specs.Class.{is_name_start, is_name_continue, class_of}
use Rattle.gql_lexer.specs.declared.token.TokenKind.TheVariants as token
use Rattle.gql_cst.specs.Leaves.{word, Leaf, IsLeaf}
use Rattle.gql_ast_base.specs.Names.{is_name}
use Rattle.gql_ast_base.specs.Parts.{Text, is_boundary}

-- this is left of the text from the place on
pub record Rest (text : Text) (at : ℕ) (rest : Text) : Type 0 where
  pub is : drop at text ≡ rest
  pub within : at ≤ length text

pub after : (text : Text) (at : ℕ) (piece rest : Text) → Rest text at (piece ++ rest) → Rest text (at + length piece) rest
after text at piece rest h =
    let long : length text - at ≡ length piece + length rest = sym (length-drop at text) ∙ ap length h.is ∙ length-append piece rest in
    let within : at ≤ length text = h.within in
    record {
      is = sym (drop-drop (length piece) at text) ∙ ap (λ l. drop (length piece) l) h.is ∙ drop-append_seam piece rest;
      within = omega arith;
    }

pub cut : (text : Text) (at : ℕ) (piece rest : Text) → Rest text at (piece ++ rest) → slice_range text at (at + length piece) ≡ piece
cut text at piece rest h =
    let n : (at + length piece) - at ≡ length piece = omega arith in
    ap (λ k. take k (drop at text)) n ∙ ap (λ l. take (length piece) l) h.is ∙ take-append_seam piece rest

pub first_byte : (text : Text) (at : ℕ) (rest : Text) → Rest text at rest → slice_index text at ≡ slice_index rest 0
first_byte text at rest h =
    let n : at + 0 ≡ at = omega arith in
    sym (get_or-drop at text 0 0 ∙ ap (λ i. slice_index text i) n) ∙ ap (λ l. slice_index l 0) h.is

-- no name goes on with the text, and a character begins there or the text ends
pub record Follows (rest : Text) : Type 0 where
  pub low : slice_index rest 0 < 128
  pub stops : is_name_continue (slice_index rest 0) ≡ false

pub char_boundary : (text : Text) (at : ℕ) (rest : Text) → Rest text at rest → slice_index rest 0 < 128 → IsCharBoundary text at
char_boundary text at rest h low =
    let b = first_byte text at rest h in
    (h.within, λ inside high. absurd (omega (arith, b, low, high)))

boundary_told : (at size b : ℕ) → at ≤ size → (at < size → 128 ≤ b → 192 ≤ b) → (nat_eq at size || (nat_lt at size && (nat_lt b 128 || nat_le 192 b))) ≡ true
boundary_told at size b h k = grind (arith, h, k)

pub boundary : (text : Text) (at : ℕ) → IsCharBoundary text at → is_boundary text at ≡ true
boundary text at h = boundary_told at (length text) (slice_index text at) h.0 h.1

-- ---- names

pub both_left : (a b : Bool) → (a && b) ≡ true → a ≡ true
both_left true b h = refl
both_left false b h = absurd (cc)

pub both_right : (a b : Bool) → (a && b) ≡ true → b ≡ true
both_right true b h = h
both_right false b h = absurd (cc)

goes_on : (x : ℕ) → is_name_start x ≡ true → is_name_continue x ≡ true
goes_on x h = rw h refl

pub run_len : (p : ℕ → Bool) (xs rest : Text) → list_all p xs ≡ true → p (slice_index rest 0) ≡ false → prefix_len p (xs ++ rest) ≡ length xs
run_len p [] [] h s = refl
run_len p [] (y ∷ ys) h s = let q : p y ≡ false = s in rw q refl
run_len p (x ∷ xs) rest h s =
    let n : 1 + length xs ≡ suc (length xs) = omega arith in
    rw (both_left (p x) (list_all p xs) h) (ap (λ k. 1 + k) (run_len p xs rest (both_right (p x) (list_all p xs) h) s) ∙ n)

-- a byte that a name may begin with is of the class of `a`
pub name_class : (x : ℕ) → is_name_start x ≡ true → class_of x ≡ class_of 97
name_class x h = rw h refl

pub name_len : (name rest : Text) → is_name name ≡ true → Follows rest → prefix_len is_name_continue (name ++ rest) ≡ length name
name_len [] rest h f = absurd (cc)
name_len (x ∷ xs) rest h f =
    let n : 1 + length xs ≡ suc (length xs) = omega arith in
    rw (goes_on x (both_left (is_name_start x) (list_all is_name_continue xs) h))
    (ap (λ k. 1 + k) (run_len is_name_continue xs rest (both_right (is_name_start x) (list_all is_name_continue xs) h) f.stops) ∙ n)

pub name_begins : (name rest : Text) → is_name name ≡ true → is_name_start (slice_index (name ++ rest) 0) ≡ true
name_begins [] rest h = absurd (cc)
name_begins (x ∷ xs) rest h = both_left (is_name_start x) (list_all is_name_continue xs) h

pub name_some : (name : Text) → is_name name ≡ true → 0 < length name
name_some [] h = absurd (cc)
name_some (x ∷ xs) h = omega arith

pub low_start : (b : ℕ) → is_name_start b ≡ true → b < 128
low_start b h = grind (arith, h)

pub name_low : (name rest : Text) → is_name name ≡ true → slice_index (name ++ rest) 0 < 128
name_low name rest h = low_start _ (name_begins name rest h)

abbrev pub word_at : ℕ → ℕ → Leaf
word_at start end = record { part = word; start = start; end = end }

-- a name is a token where no name goes on behind it
pub name_leaf : (text : Text) (at : ℕ) (name rest : Text) → Rest text at (name ++ rest) → is_name name ≡ true → Follows rest
    → IsLeaf text at (word_at at (at + length name))
name_leaf text at name rest h named f =
    let some : 0 < length name = name_some name named in
    let n : (at + length name) - at ≡ length name = omega arith in
    record {
      starts = refl;
      further = omega arith;
      kind = token.Name;
      part = refl;
      token = (
        ap (λ l. class_of (slice_index l 0)) h.is ∙ name_class (slice_index (name ++ rest) 0) (name_begins name rest named),
        n ∙ sym (name_len name rest named f) ∙ ap (λ l. prefix_len is_name_continue l) (sym h.is),
      );
      starts_character = char_boundary text at (name ++ rest) h (name_low name rest named);
      ends_character = char_boundary text (at + length name) rest (after text at name rest h) f.low;
    }

-- a punctuator of one character, of the class of `!`, is a token wherever a character follows it
pub mark_leaf : (text : Text) (at b : ℕ) (rest : Text) → Rest text at (b ∷ rest) → class_of b ≡ class_of 33 → b < 128 → slice_index rest 0 < 128
    → IsLeaf text at (word_at at (at + 1))
mark_leaf text at b rest h c low next =
    let n : (at + 1) - at ≡ 1 = omega arith in
    record {
      starts = refl;
      further = omega arith;
      kind = token.Punctuator;
      part = refl;
      token = inl (ap (λ l. class_of (slice_index l 0)) h.is ∙ c, n);
      starts_character = char_boundary text at (b ∷ rest) h low;
      ends_character = char_boundary text (at + 1) rest (after text at (b ∷ []) rest h) next;
    }
