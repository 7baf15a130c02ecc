-- What stands at the front of a text is what is read there, so exactly one thing does.
use Rattle.std.proofs.Common.{◌≡◌, ℕ, suc, ◌+◌, ◌<◌, ◌≤◌, ◌⊎◌, inl, inr, Bool, true, false, length, Ok, Err, refl, sym, ◌∙◌, ap, arith, zero-add}
use Rattle.std.specs.Prelude.{if◌then◌else◌, ◌==◌, slice_index, nat_lt}
use Rattle.std.specs.List.{prefix_len}
use Rattle.std.proofs.lemmas.List.{get_or_past}
use Rattle.std.proofs.lemmas.Bool.{eq-eqb, lt-ltb}
use Rattle.std.proofs.lemmas.Bool.Decides.{nat_tests, leb_tells}
use Rattle.gql_lexer.specs.Class.{Text, is_name_continue, is_source}
use Rattle.gql_lexer.specs.Lex.{run_len, blank_len, is_block_quote, is_mark, goes_on, whole_end}
use Rattle.gql_lexer.specs.bridge.Lex.{Lexed, token, fault, lex, lex_as, number, comment, dots, mark, block_string, string, quoted, unexpected, is_control_at}
use Rattle.gql_lexer.specs.Lexical.{Begins, BeginsNone, BeginsBlank, OpensString, OpensBlock, Reaches, BreaksAt, IsToken, IsFault, IsNumber, IsControl, EndsLine, StandsOne, is_spread, number_end, comment_end, string_end, block_end}
use Rattle.gql_lexer.specs.bridge.Lexical.{Stands}
use Rattle.gql_lexer.proofs.Fronts.{lex-stands}
use Rattle.gql_lexer.specs.declared.class.ByteClass.{ByteClass}
use Rattle.gql_lexer.specs.declared.class.ByteClass.TheVariants as class
use Rattle.gql_lexer.specs.declared.error.SyntaxFault.{SyntaxFault}
use Rattle.gql_lexer.specs.declared.error.SyntaxFault.TheVariants.{EndOfText, BadCharacter, OpenString, BadEscape, BadNumber, BadToken}
use Rattle.gql_lexer.specs.declared.token.FaultAt.{FaultAt}
use Rattle.gql_lexer.specs.declared.token.TokenKind.{TokenKind}
use Rattle.gql_lexer.specs.declared.token.TokenKind.TheVariants.{Punctuator, Name, IntValue, FloatValue, StringValue, Ignored}

reads-as : (at : Text) (c : ByteClass) → Begins c at → lex at ≡ lex_as c at
unfolding lex
reads-as at c b = ap (λ c. lex_as c at) b

spread-read : (at : Text) → is_spread at ≡ true → dots at ≡ token Punctuator 3
unfolding dots
spread-read at s = rw s refl

dot-read : (at : Text) → is_spread at ≡ false → dots at ≡ unexpected at
unfolding dots
dot-read at s = rw s refl

mark-read : (at : Text) → is_mark at ≡ true → mark at ≡ token Ignored (run_len blank_len at)
unfolding mark
mark-read at s = rw s refl

no_mark-read : (at : Text) → is_mark at ≡ false → mark at ≡ unexpected at
unfolding mark
no_mark-read at s = rw s refl

number-read : (at : Text) (n : ℕ) → IsNumber at n → number at ≡ token (if number_end at == whole_end at then IntValue else FloatValue) (number_end at)
unfolding number
number-read at n h =
    let alone : goes_on (slice_index at (number_end at)) ≡ false = rw h.ends at h.alone in
    rw (h.whole, h.fraction, h.exponent, alone) refl

comment-read : (at : Text) → is_control_at at (comment_end at) ≡ false → comment at ≡ token Ignored (comment_end at)
unfolding comment
comment-read at c = rw c refl

comment-broken : (at : Text) → is_control_at at (comment_end at) ≡ true → comment at ≡ fault BadCharacter (comment_end at) (comment_end at + 1)
unfolding comment
comment-broken at c = rw c refl

-- ---- strings

string-read : (at : Text) → (slice_index at (string_end at) == 0x22) ≡ true → string at ≡ token StringValue (string_end at + 1)
unfolding string
string-read at k = rw k refl

string-escape : (at : Text) → (slice_index at (string_end at) == 0x22) ≡ false → (slice_index at (string_end at) == 0x5C) ≡ true
    → string at ≡ fault BadEscape (string_end at) (string_end at + 1)
unfolding string
string-escape at k s = rw (k, s) refl

string-control : (at : Text) → (slice_index at (string_end at) == 0x22) ≡ false → (slice_index at (string_end at) == 0x5C) ≡ false
    → is_control_at at (string_end at) ≡ true → string at ≡ fault BadCharacter (string_end at) (string_end at + 1)
unfolding string
string-control at k s c = rw (k, s, c) refl

string-open : (at : Text) → (slice_index at (string_end at) == 0x22) ≡ false → (slice_index at (string_end at) == 0x5C) ≡ false
    → is_control_at at (string_end at) ≡ false → string at ≡ fault OpenString 0 (string_end at)
unfolding string
string-open at k s c = rw (k, s, c) refl

block-read : (at : Text) → is_block_quote at (block_end at) ≡ true → block_string at ≡ token StringValue (block_end at + 3)
unfolding block_string
block-read at k = rw k refl

block-control : (at : Text) → is_block_quote at (block_end at) ≡ false → nat_lt (block_end at) (length at) ≡ true
    → block_string at ≡ fault BadCharacter (block_end at) (block_end at + 1)
unfolding block_string
block-control at k l = rw (k, l) refl

block-open : (at : Text) → is_block_quote at (block_end at) ≡ false → nat_lt (block_end at) (length at) ≡ false
    → block_string at ≡ fault OpenString 0 (block_end at)
unfolding block_string
block-open at k l = rw (k, l) refl

opens-string : (at : Text) → OpensString at → lex at ≡ string at
unfolding quoted
opens-string at o = reads-as at class.Quote o.0 ∙ (rw o.1 refl)

opens-block : (at : Text) → OpensBlock at → lex at ≡ block_string at
unfolding quoted
opens-block at o = reads-as at class.Quote o.0 ∙ (rw o.1 refl)

-- a control is no quote and no backslash, and what stands past the end is neither
control_tests : (b : ℕ) → is_source b ≡ false → ((b == 0x22) ≡ false) × ((b == 0x5C) ≡ false)
control_tests b h = grind (arith, nat_tests)

control_at : (at : Text) (place : ℕ) → IsControl at place → is_control_at at place ≡ true
control_at at place c = rw (lt-ltb place (length at) c.0, c.1) refl

no_quote : (at : Text) (place : ℕ) → (slice_index at place == 0x22) ≡ false → is_block_quote at place ≡ false
no_quote at place h = rw h refl

no_control_within : (at : Text) (place : ℕ) → place < length at → (b : Bool) → is_source (slice_index at place) ≡ b → (IsControl at place → ⊥) → is_control_at at place ≡ false
no_control_within at place h true e none = rw (lt-ltb place (length at) h, e) refl
no_control_within at place h false e none = absurd (none (h, e))

no_control_at : (at : Text) (place : ℕ) → (IsControl at place → ⊥) → is_control_at at place ≡ false
no_control_at at place none =
    elim (leb_tells (suc place) (length at)) [
      | inl w ↦ no_control_within at place w.1 (is_source (slice_index at place)) refl none
      | inr w ↦ rw w.0 refl
    ]

-- ---- tokens

blank-read : (at : Text) → BeginsBlank at → lex at ≡ token Ignored (run_len blank_len at)
blank-read at (inl b) = reads-as at class.Blank b
blank-read at (inr b) = reads-as at class.Mark b.0 ∙ mark-read at b.1

token-read : (kind : TokenKind) (at : Text) (n : ℕ) → IsToken kind at n → lex at ≡ token kind n
token-read Punctuator at n (inl h) = reads-as at class.Punctuator h.0 ∙ ap (token Punctuator) (sym h.1)
token-read Punctuator at n (inr h) = reads-as at class.Dot h.0 ∙ spread-read at h.1 ∙ ap (token Punctuator) (sym h.2)
token-read Name at n h = reads-as at class.Name h.0 ∙ ap (token Name) (zero-add (prefix_len is_name_continue at) ∙ sym h.1)
token-read IntValue at n h =
    let same : (number_end at == whole_end at) ≡ true = eq-eqb (number_end at) (whole_end at) (sym h.0.ends ∙ h.1) in
    reads-as at class.Number h.0.begins ∙ number-read at n h.0 ∙ (rw same (ap (token IntValue) (sym h.0.ends)))
token-read FloatValue at n h =
    let other : (number_end at == whole_end at) ≡ false = rw h.0.ends at h.1 in
    reads-as at class.Number h.0.begins ∙ number-read at n h.0 ∙ (rw other (ap (token FloatValue) (sym h.0.ends)))
token-read StringValue at n (inl h) =
    opens-string at h.0 ∙ string-read at (eq-eqb (slice_index at (string_end at)) 0x22 h.1) ∙ ap (token StringValue) (sym h.2)
token-read StringValue at n (inr h) =
    opens-block at h.0 ∙ block-read at h.1 ∙ ap (token StringValue) (sym h.2)
token-read Ignored at n (inl h) = blank-read at h.0 ∙ ap (token Ignored) (sym h.1)
token-read Ignored at n (inr (inl h)) = reads-as at class.Comma h.0 ∙ ap (token Ignored) (sym h.1)
token-read Ignored at n (inr (inr h)) =
    let c : is_control_at at (comment_end at) ≡ false = no_control_at at (comment_end at) (rw h.2 at h.1) in
    reads-as at class.Comment h.0 ∙ comment-read at c ∙ ap (token Ignored) (sym h.2)

-- ---- faults

none-read : (at : Text) → BeginsNone at → lex at ≡ unexpected at
none-read at (inl b) = reads-as at class.Other b
none-read at (inr (inl b)) = reads-as at class.Mark b.0 ∙ no_mark-read at b.1
none-read at (inr (inr b)) = reads-as at class.Dot b.0 ∙ dot-read at b.1

control-read : (at : Text) (place : ℕ) → Reaches at place → IsControl at place → lex at ≡ fault BadCharacter place (place + 1)
control-read at place (inl r) c =
    rw r.1 (reads-as at class.Comment r.0 ∙ comment-broken at (control_at at (comment_end at) (rw r.1 at c)))
control-read at place (inr (inl r)) c =
    let d : IsControl at (string_end at) = rw r.1 at c in
    let t = control_tests (slice_index at (string_end at)) d.1 in
    rw r.1 (opens-string at r.0 ∙ string-control at t.0 t.1 (control_at at (string_end at) d))
control-read at place (inr (inr r)) c =
    let d : IsControl at (block_end at) = rw r.1 at c in
    let t = control_tests (slice_index at (block_end at)) d.1 in
    rw r.1 (opens-block at r.0 ∙ block-control at (no_quote at (block_end at) t.0) (lt-ltb (block_end at) (length at) d.0))

ends-tests : (at : Text) (place : ℕ) → EndsLine at place
    → ((slice_index at place == 0x22) ≡ false) × ((slice_index at place == 0x5C) ≡ false) × (is_control_at at place ≡ false)
ends-tests at place (inl h) =
    let z : slice_index at place ≡ 0 = get_or_past at place 0 h in
    (rw z refl, rw z refl, no_control_at at place (λ c. omega (arith, c.0)))
ends-tests at place (inr (inl h)) = (rw h refl, rw h refl, no_control_at at place (λ c. let f : true ≡ false = rw h at c.1 in cc))
ends-tests at place (inr (inr h)) = (rw h refl, rw h refl, no_control_at at place (λ c. let f : true ≡ false = rw h at c.1 in cc))

breaks-read : (at : Text) (end : ℕ) → BreaksAt at end → number at ≡ fault BadNumber 0 end
unfolding number
breaks-read at end (inl h) = rw (h.0, h.1) refl
breaks-read at end (inr (inl h)) = rw (h.0, h.1, h.2) refl
breaks-read at end (inr (inr (inl h))) = rw (h.0, h.1, h.2, h.3) refl
breaks-read at end (inr (inr (inr h))) = rw (h.0, h.1, h.2, h.3, h.4) refl

not_lt : (a b : ℕ) → b ≤ a → nat_lt a b ≡ false
not_lt a b h = elim (leb_tells (suc a) b) [ inl w ↦ absurd (omega arith) | inr w ↦ w.0 ]

fault-read : (what : SyntaxFault) (at : Text) (start end : ℕ) → IsFault what at start end → lex at ≡ fault what start end
fault-read BadCharacter at start end (inl h) = none-read at h.0 ∙ rw (h.1, h.2) refl
fault-read BadCharacter at start end (inr h) = control-read at start h.0 h.1 ∙ ap (fault BadCharacter start) (sym h.2)
fault-read OpenString at start end (inl h) =
    let t = ends-tests at (string_end at) h.1 in
    opens-string at h.0 ∙ string-open at t.0 t.1 t.2 ∙ rw (h.2, h.3) refl
fault-read OpenString at start end (inr h) =
    let t = ends-tests at (block_end at) (inl h.1) in
    opens-block at h.0 ∙ block-open at (no_quote at (block_end at) t.0) (not_lt (block_end at) (length at) h.1) ∙ rw (h.2, h.3) refl
fault-read BadEscape at start end h =
    let b : slice_index at (string_end at) ≡ 0x5C = rw h.1 at h.2 in
    opens-string at h.0 ∙ string-escape at (rw b refl) (rw b refl) ∙ rw (h.3, h.1) refl
fault-read BadNumber at start end h = reads-as at class.Number h.0 ∙ breaks-read at end h.2 ∙ ap (λ s. fault BadNumber s end) (sym h.1)
fault-read EndOfText at start end h = elim h [ ]
fault-read BadToken at start end h = elim h [ ]

-- ---- exactly one

some-of : (at : Text) (r : Lexed) → Stands at r → ((kind : TokenKind) × (n : ℕ) × IsToken kind at n) ⊎ ((what : SyntaxFault) × (start : ℕ) × (end : ℕ) × IsFault what at start end)
some-of at (Ok found) h = inl (found.0, found.1, h)
some-of at (Err found) h = inr (found.fault, found.start, found.end, h)

same_token : (kind other : TokenKind) (n m : ℕ) → token kind n ≡ token other m → (kind ≡ other) × (n ≡ m)
same_token kind other n m h =
    let one : TokenKind × ℕ = (kind, n) in
    let two : TokenKind × ℕ = (other, m) in
    let e : one ≡ two = cc in (ap (λ p. p.0) e, ap (λ p. p.1) e)

same_fault : (what other : SyntaxFault) (start end from to : ℕ) → fault what start end ≡ fault other from to → (what ≡ other) × (start ≡ from) × (end ≡ to)
same_fault what other start end from to h =
    let found : FaultAt = record { fault = what; start = start; end = end } in
    let found_too : FaultAt = record { fault = other; start = from; end = to } in
    let e : found ≡ found_too = cc in (ap (λ f. f.fault) e, ap (λ f. f.start) e, ap (λ f. f.end) e)

differ : (kind : TokenKind) (what : SyntaxFault) (n start end : ℕ) → token kind n ≡ fault what start end → ⊥
differ kind what n start end h = cc

pub stands_one : (at : Text) → StandsOne at
stands_one at = record {
  some = some-of at (lex at) (lex-stands at);
  one_token = λ kind other n m h g. same_token kind other n m (sym (token-read kind at n h) ∙ token-read other at m g);
  one_fault = λ what other start end from to h g. same_fault what other start end from to (sym (fault-read what at start end h) ∙ fault-read other at from to g);
  not_both = λ kind what n start end h g. differ kind what n start end (sym (token-read kind at n h) ∙ fault-read what at start end g);
}
