-- What reading leaves is no more than was there, and a fault stands within that.
use Rattle.std.proofs.Common.{◌≡◌, ℕ, zero, suc, ◌+◌, ◌-◌, ◌*◌, ◌≤◌, Bool, true, false, cond, List, [], ◌∷◌, ◌++◌, length, drop, Option, Some, None, Result, Ok, Err, arith}
use Rattle.std.specs.Prelude.{◌==◌, ◌&&◌, ◌||◌, is_none, codes, encode_utf8}
use Rattle.std.specs.Str.{is_utf8, bytes_eq}
use Rattle.std.specs.Str.Lossy.{utf8_valid_len, utf8_error_len}
use Rattle.std.proofs.lemmas.List.{length-drop}
use Rattle.indexmap.specs.IndexMap.{insert_entry}
use Rattle.jb_text.specs.declared.refused.Refused.{Refused}
use Rattle.jb_text.specs.declared.refused.Refused.TheVariants as refused
use Rattle.jb_tree.specs.declared.value.Value.{Value}
use Rattle.jb_tree.specs.declared.value.Value.TheVariants as value
use Rattle.jb_read.specs.declared.fault.Broken.{Broken}
use Rattle.jb_read.specs.declared.fault.FaultKind.TheVariants.{Syntax, Float, NumberRange, Depth}
use Rattle.jb_read.specs.Bytes.{is_white, is_digit, begins, skip_white}
use Rattle.jb_read.specs.Reading.{◌>>=◌, broken, fails, byte_at, word_at, turns}
use Rattle.jb_read.specs.bridge.Reading.{Fails}
use Rattle.jb_read.specs.Numbers.{digits_from, whole_part_at, number_of, is_minus, is_mark, checked_number, number_at}
use Rattle.jb_read.specs.Strings.{plain_length, plain_front, behind_plain, ill_formed_at, run_at, hex_value, hex_digit_at, hex_at, is_high, is_low, pair_char, low_at, pair_at, unicode_at, short_escape, escape_at, piece_end, piece_at, text_at}
use Rattle.jb_read.specs.Values.{begins_with, next_at, item_at, key_at, member_at, within_brackets, array_at, object_at, scalar_at, value_at, first_value, ended, whole_value}
use Rattle.jb_read.specs.Texts.{front_value}
use Rattle.jb_read.specs.bridge.Texts.{IsWithin}

abbrev pub Tame : {A : Type 0} → ℕ → Result (A × List ℕ) Broken → Type 0
Tame n (Ok x) = length x.1 ≤ n
Tame n (Err e) = e.left ≤ n

pub bind_tame : {A B : Type 0} (n : ℕ) (r : Result (A × List ℕ) Broken) (f : A × List ℕ → Result (B × List ℕ) Broken) → Tame n r → ((x : A × List ℕ) → length x.1 ≤ n → Tame n (f x)) → Tame n (r >>= f)
bind_tame n (Ok x) f t h = h x t
bind_tame n (Err e) f t h = t

pub cond_tame : {A : Type 0} (n : ℕ) (b : Bool) (x y : Result (A × List ℕ) Broken) → Tame n x → Tame n y → Tame n (cond b x y)
cond_tame n true x y s t = s
cond_tame n false x y s t = t

option_tame : {A D : Type 0} (n : ℕ) (o : Option D) (x : Result (A × List ℕ) Broken) (f : D → Result (A × List ℕ) Broken) → Tame n x → ((d : D) → Tame n (f d)) → Tame n (elim o as (λ _. Result (A × List ℕ) Broken) [ None ↦ x | Some d ↦ f d ])
option_tame n None x f s t = s
option_tame n (Some d) x f s t = t d

cond_le : (n : ℕ) (b : Bool) (x y : List ℕ) → length x ≤ n → length y ≤ n → length (cond b x y) ≤ n
cond_le n true x y s t = s
cond_le n false x y s t = t

drop_le : (n k : ℕ) (at : List ℕ) → length at ≤ n → length (drop k at) ≤ n
drop_le n k at le = omega (arith, length-drop k at)

pub white_le : (n : ℕ) (at : List ℕ) → length at ≤ n → length (skip_white at) ≤ n
white_le n [] le = le
white_le n (b ∷ at) le = cond_le n (is_white b) (skip_white at) (b ∷ at) (white_le n at (omega arith)) le

byte_tame : (n b : ℕ) (at : List ℕ) → length at ≤ n → Tame n (byte_at b at)
byte_tame n b [] le = omega arith
byte_tame n b (c ∷ at) le = cond_tame n (c == b) (Ok (tt, at)) (fails Syntax (c ∷ at)) (omega arith) le

word_tame : (n : ℕ) (word at : List ℕ) → length at ≤ n → Tame n (word_at word at)
word_tame n [] at le = le
word_tame n (b ∷ word) at le = bind_tame n (byte_at b at) (λ r. word_at word r.1) (byte_tame n b at le) (λ r rest. word_tame n word r.1 rest)

cond_rest_le : (n : ℕ) (b : Bool) (x y : ℕ × List ℕ) → length x.1 ≤ n → length y.1 ≤ n → length (cond b x y).1 ≤ n
cond_rest_le n true x y s t = s
cond_rest_le n false x y s t = t

digits_le : (n m : ℕ) (at : List ℕ) → length at ≤ n → length (digits_from m at).1 ≤ n
digits_le n m [] le = le
digits_le n m (b ∷ at) le = cond_rest_le n (is_digit b) (digits_from (10 * m + (b - 48)) at) (m, b ∷ at) (digits_le n (10 * m + (b - 48)) at (omega arith)) le

whole_part_tame : (n : ℕ) (at : List ℕ) → length at ≤ n → Tame n (whole_part_at at)
unfolding whole_part_at
whole_part_tame n [] le = omega arith
whole_part_tame n (b ∷ at) le = cond_tame n (b == 48) (cond (begins is_digit at) (fails Syntax at) (Ok (0, at))) (cond (is_digit b) (Ok (digits_from 0 (b ∷ at))) (fails Syntax (b ∷ at)))
    (cond_tame n (begins is_digit at) (fails Syntax at) (Ok (0, at)) (omega arith) (omega arith))
    (cond_tame n (is_digit b) (Ok (digits_from 0 (b ∷ at))) (fails Syntax (b ∷ at)) (digits_le n 0 (b ∷ at) le) le)

checked_tame : (n : ℕ) (start : List ℕ) (minus : Bool) (read : ℕ × List ℕ) → length start ≤ n → length read.1 ≤ n → Tame n (checked_number start minus read)
checked_tame n start minus read le rest = cond_tame n (begins is_mark read.1 || (minus && (read.0 == 0))) (fails Float start) _ le
    (option_tame n (number_of minus read.0) (fails NumberRange start) (λ z. Ok (z, read.1)) le (λ z. rest))

number_tame : (n : ℕ) (at : List ℕ) → length at ≤ n → Tame n (number_at at)
unfolding number_at
number_tame n at le = cond_tame n (begins is_minus at) (whole_part_at (drop 1 at) >>= checked_number at true) (whole_part_at at >>= checked_number at false)
    (bind_tame n (whole_part_at (drop 1 at)) (checked_number at true) (whole_part_tame n (drop 1 at) (drop_le n 1 at le)) (λ read rest. checked_tame n at true read le rest))
    (bind_tame n (whole_part_at at) (checked_number at false) (whole_part_tame n at le) (λ read rest. checked_tame n at false read le rest))

hex_digit_tame : (n : ℕ) (at : List ℕ) → length at ≤ n → Tame n (hex_digit_at at)
unfolding hex_digit_at
hex_digit_tame n [] le = omega arith
hex_digit_tame n (b ∷ at) le = option_tame n (hex_value b) (fails Syntax (b ∷ at)) (λ d. Ok (d, at)) le (λ d. omega arith)

hex_tame : (n : ℕ) (at : List ℕ) → length at ≤ n → Tame n (hex_at at)
unfolding hex_at
hex_tame n at le = bind_tame n (hex_digit_at at) _ (hex_digit_tame n at le)
    (λ a ra. bind_tame n (hex_digit_at a.1) _ (hex_digit_tame n a.1 ra)
    (λ b rb. bind_tame n (hex_digit_at b.1) _ (hex_digit_tame n b.1 rb)
    (λ c rc. bind_tame n (hex_digit_at c.1) (λ d. Ok (((a.0 * 16 + b.0) * 16 + c.0) * 16 + d.0, d.1)) (hex_digit_tame n c.1 rc) (λ d rd. rd))))

low_tame : (n : ℕ) (at : List ℕ) → length at ≤ n → Tame n (low_at at)
unfolding low_at
low_tame n at le = bind_tame n (byte_at 92 at) _ (byte_tame n 92 at le)
    (λ backslash r. bind_tame n (byte_at 117 backslash.1) _ (byte_tame n 117 backslash.1 r)
    (λ letter s. bind_tame n (hex_at letter.1) (λ unit. cond (is_low unit.0) (Ok unit) (fails Syntax at)) (hex_tame n letter.1 s)
    (λ unit t. cond_tame n (is_low unit.0) (Ok unit) (fails Syntax at) t le)))

pair_of_tame : (n : ℕ) (own : Broken) (high : ℕ) (r : Result (ℕ × List ℕ) Broken) → own.left ≤ n → Tame n r
    → Tame n (elim r as (λ _. Result (ℕ × List ℕ) Broken) [ Ok low ↦ Ok (pair_char high low.0, low.1) | Err e ↦ cond (e.left == 0) (Err e) (Err own) ])
pair_of_tame n own high (Ok low) le t = t
pair_of_tame n own high (Err e) le t = cond_tame {A = ℕ} n (e.left == 0) (Err e) (Err own) t le

pair_tame : (n : ℕ) (own : Broken) (high : ℕ) (at : List ℕ) → own.left ≤ n → length at ≤ n → Tame n (pair_at own high at)
unfolding pair_at
pair_tame n own high at own-le le = pair_of_tame n own high (low_at at) own-le (low_tame n at le)

unicode_tame : (n : ℕ) (own : Broken) (at : List ℕ) → own.left ≤ n → length at ≤ n → Tame n (unicode_at own at)
unfolding unicode_at
unicode_tame n own at own-le le = bind_tame n (hex_at at) (λ unit. cond (is_high unit.0) (pair_at own unit.0 unit.1) (cond (is_low unit.0) (Err own) (Ok unit))) (hex_tame n at le)
    (λ unit rest. cond_tame n (is_high unit.0) (pair_at own unit.0 unit.1) (cond (is_low unit.0) (Err own) (Ok unit)) (pair_tame n own unit.0 unit.1 own-le rest)
    (cond_tame n (is_low unit.0) (Err own) (Ok unit) own-le rest))

pub escape_tame : (n : ℕ) (own : Broken) (at : List ℕ) → own.left ≤ n → length at ≤ n → Tame n (escape_at own at)
unfolding escape_at
escape_tame n own [] own-le le = omega arith
escape_tame n own (b ∷ at) own-le le = cond_tame n (b == 117) (unicode_at own at) _ (unicode_tame n own at own-le (omega arith))
    (option_tame n (short_escape b) (fails Syntax (b ∷ at)) (λ c. Ok (c, at)) le (λ c. omega arith))

run_tame : (n : ℕ) (at : List ℕ) → length at ≤ n → Tame n (run_at at)
unfolding run_at
run_tame n at le = cond_tame n (is_utf8 (plain_front at)) (Ok (plain_front at, behind_plain at)) (fails Syntax (ill_formed_at at)) (drop_le n (plain_length at) at le)
    (cond_le n ((length (behind_plain at) == 0) && is_none (utf8_error_len (drop (utf8_valid_len (plain_front at)) (plain_front at)))) [] (drop (utf8_valid_len (plain_front at)) at) (omega arith) (drop_le n (utf8_valid_len (plain_front at)) at le))

piece_end_tame : (n : ℕ) (made at : List ℕ) → length at ≤ n → Tame n (piece_end made at)
unfolding piece_end
piece_end_tame n made [] le = omega arith
piece_end_tame n made (b ∷ at) le = cond_tame n (b == 34) (Ok ((false, made), at)) _ (omega arith)
    (cond_tame n (b == 92) (escape_at (broken Syntax (b ∷ at)) at >>= λ escape. Ok ((true, made ++ encode_utf8 escape.0), escape.1)) (fails Syntax (b ∷ at))
    (bind_tame n (escape_at (broken Syntax (b ∷ at)) at) (λ escape. Ok ((true, made ++ encode_utf8 escape.0), escape.1)) (escape_tame n (broken Syntax (b ∷ at)) at le (omega arith)) (λ escape rest. rest))
    le)

piece_tame : (n : ℕ) (made at : List ℕ) → length at ≤ n → Tame n (piece_at made at)
unfolding piece_at
piece_tame n made at le = bind_tame n (run_at at) (λ run. piece_end (made ++ run.0) run.1) (run_tame n at le) (λ run rest. piece_end_tame n (made ++ run.0) run.1 rest)

turns_tame : {A : Type 0} (turn : A → List ℕ → Result ((Bool × A) × List ℕ) Broken) (n : ℕ) → ((made : A) (at : List ℕ) → length at ≤ n → Tame n (turn made at)) → (most : ℕ) (made : A) (at : List ℕ) → length at ≤ n → Tame n (turns turn most made at)
turns_tame turn n h zero made at le = omega arith
turns_tame turn n h (suc most) made at le = bind_tame n (turn made at) (λ t. cond t.0.0 (turns turn most t.0.1 t.1) (Ok (t.0.1, t.1))) (h made at le)
    (λ t rest. cond_tame n t.0.0 (turns turn most t.0.1 t.1) (Ok (t.0.1, t.1)) (turns_tame turn n h most t.0.1 t.1 rest) rest)

text_tame : (n : ℕ) (at : List ℕ) → length at ≤ n → Tame n (text_at at)
unfolding text_at
text_tame n at le = turns_tame piece_at n (piece_tame n) (suc (length at)) [] at le

next_tame : (n close : ℕ) (at : List ℕ) → length at ≤ n → Tame n (next_at close at)
unfolding next_at
next_tame n close at le = cond_tame n (begins_with close (skip_white at)) (Ok (false, drop 1 (skip_white at))) (byte_at 44 (skip_white at) >>= λ comma. Ok (true, skip_white comma.1))
    (drop_le n 1 (skip_white at) (white_le n at le))
    (bind_tame n (byte_at 44 (skip_white at)) (λ comma. Ok (true, skip_white comma.1)) (byte_tame n 44 (skip_white at) (white_le n at le)) (λ comma rest. white_le n comma.1 rest))

abbrev pub AreTame : ℕ → (List ℕ → Result (Value × List ℕ) Broken) → Type 0
AreTame n inner = (at : List ℕ) → length at ≤ n → Tame n (inner at)

item_tame : (n : ℕ) (inner : List ℕ → Result (Value × List ℕ) Broken) → AreTame n inner → (items : List Value) (at : List ℕ) → length at ≤ n → Tame n (item_at inner items at)
unfolding item_at
item_tame n inner tame items at le = bind_tame n (inner at) _ (tame at le)
    (λ item r. bind_tame n (next_at 93 item.1) (λ next. Ok ((next.0, items ++ item.0 ∷ []), next.1)) (next_tame n 93 item.1 r) (λ next s. s))

pub key_tame : (n : ℕ) (at : List ℕ) → length at ≤ n → Tame n (key_at at)
unfolding key_at
key_tame n at le = bind_tame n (byte_at 34 at) _ (byte_tame n 34 at le)
    (λ quote r. bind_tame n (text_at quote.1) _ (text_tame n quote.1 r)
    (λ key s. bind_tame n (byte_at 58 (skip_white key.1)) (λ colon. Ok (key.0, skip_white colon.1)) (byte_tame n 58 (skip_white key.1) (white_le n key.1 s)) (λ colon t. white_le n colon.1 t)))

member_tame : (n : ℕ) (inner : List ℕ → Result (Value × List ℕ) Broken) → AreTame n inner → (members : List (List ℕ × Value)) (at : List ℕ) → length at ≤ n → Tame n (member_at inner members at)
unfolding member_at
member_tame n inner tame members at le = bind_tame n (key_at at) _ (key_tame n at le)
    (λ key r. bind_tame n (inner key.1) _ (tame key.1 r)
    (λ member s. bind_tame n (next_at 125 member.1) (λ next. Ok ((next.0, insert_entry bytes_eq members key.0 member.0), next.1)) (next_tame n 125 member.1 s) (λ next t. t)))

within_tame : {A : Type 0} (n close : ℕ) (none : A) (turn : A → List ℕ → Result ((Bool × A) × List ℕ) Broken) (at : List ℕ) → ((made : A) (at : List ℕ) → length at ≤ n → Tame n (turn made at)) → length at ≤ n → Tame n (within_brackets close none turn at)
within_tame n close none turn at h le = cond_tame n (begins_with close at) (Ok (none, drop 1 at)) (turns turn (suc (length at)) none at) (drop_le n 1 at le) (turns_tame turn n h (suc (length at)) none at le)

array_tame : (n : ℕ) (inner : List ℕ → Result (Value × List ℕ) Broken) → AreTame n inner → (at : List ℕ) → length at ≤ n → Tame n (array_at inner at)
unfolding array_at
array_tame n inner tame at le = within_tame n 93 [] (item_at inner) (skip_white at) (item_tame n inner tame) (white_le n at le)

object_tame : (n : ℕ) (inner : List ℕ → Result (Value × List ℕ) Broken) → AreTame n inner → (at : List ℕ) → length at ≤ n → Tame n (object_at inner at)
unfolding object_at
object_tame n inner tame at le = within_tame n 125 [] (member_at inner) (skip_white at) (member_tame n inner tame) (white_le n at le)

wrap_tame : {A B : Type 0} (n : ℕ) (r : Result (A × List ℕ) Broken) (make : A → B) → Tame n r → Tame n (r >>= λ x. Ok (make x.0, x.1))
wrap_tame n (Ok x) make t = t
wrap_tame n (Err e) make t = t

scalar_tame : (n : ℕ) (at : List ℕ) → length at ≤ n → Tame n (scalar_at at)
unfolding scalar_at
scalar_tame n [] le = omega arith
scalar_tame n (b ∷ at) le = cond_tame n (b == 34) (text_at at >>= λ text. Ok (value.String text.0, text.1)) _ (wrap_tame n (text_at at) (λ text. value.String text) (text_tame n at (omega arith)))
    (cond_tame n (b == 110) (word_at (codes "null") (b ∷ at) >>= λ word. Ok (value.Null, word.1)) _ (wrap_tame n (word_at (codes "null") (b ∷ at)) (λ word. value.Null) (word_tame n (codes "null") (b ∷ at) le))
    (cond_tame n (b == 116) (word_at (codes "true") (b ∷ at) >>= λ word. Ok (value.Bool true, word.1)) _ (wrap_tame n (word_at (codes "true") (b ∷ at)) (λ word. value.Bool true) (word_tame n (codes "true") (b ∷ at) le))
    (cond_tame n (b == 102) (word_at (codes "false") (b ∷ at) >>= λ word. Ok (value.Bool false, word.1)) _ (wrap_tame n (word_at (codes "false") (b ∷ at)) (λ word. value.Bool false) (word_tame n (codes "false") (b ∷ at) le))
    (cond_tame n (is_minus b || is_digit b) (number_at (b ∷ at) >>= λ number. Ok (value.Number number.0, number.1)) (fails Syntax (b ∷ at)) (wrap_tame n (number_at (b ∷ at)) (λ number. value.Number number) (number_tame n (b ∷ at) le)) le))))

pub value_tame : (n depth : ℕ) → AreTame n (value_at depth)
unfolding value_at
value_tame n zero [] le = scalar_tame n [] le
value_tame n zero (b ∷ at) le = cond_tame n ((b == 91) || (b == 123)) (fails Depth (b ∷ at)) (scalar_at (b ∷ at)) le (scalar_tame n (b ∷ at) le)
value_tame n (suc depth) [] le = scalar_tame n [] le
value_tame n (suc depth) (b ∷ at) le = cond_tame n (b == 91) (array_at (value_at depth) at >>= λ array. Ok (value.Array array.0, array.1)) _ (wrap_tame n (array_at (value_at depth) at) (λ array. value.Array array) (array_tame n (value_at depth) (value_tame n depth) at (omega arith)))
    (cond_tame n (b == 123) (object_at (value_at depth) at >>= λ object. Ok (value.Object object.0, object.1)) (scalar_at (b ∷ at)) (wrap_tame n (object_at (value_at depth) at) (λ object. value.Object object) (object_tame n (value_at depth) (value_tame n depth) at (omega arith)))
    (scalar_tame n (b ∷ at) le))

pub first_tame : (n depth : ℕ) (at : List ℕ) → length at ≤ n → Tame n (first_value depth at)
unfolding first_value
first_tame n depth at le = value_tame n depth (skip_white at) (white_le n at le)

-- the fault that a reader gives stands within the text
front_within : (n : ℕ) (r : Result (Value × List ℕ) Broken) (e : Broken) → Tame n r → (r >>= λ read. Ok read.0) ≡ Err e → e.left ≤ n
front_within n (Ok x) e t h = absurd cc
front_within n (Err d) e t h = let same : d ≡ e = cc in rw (← same) t

ended_within : (n : ℕ) (v : Value) (at : List ℕ) (e : Broken) → length at ≤ n → ended v at ≡ Err e → e.left ≤ n
ended_within n v [] e le h = absurd cc
ended_within n v (b ∷ at) e le h = let same : broken Syntax (b ∷ at) ≡ e = cc in rw (← same) le

whole_within : (n : ℕ) (r : Result (Value × List ℕ) Broken) (e : Broken) → Tame n r → (r >>= λ read. ended read.0 (skip_white read.1)) ≡ Err e → e.left ≤ n
whole_within n (Ok x) e t h = ended_within n x.0 (skip_white x.1) e (white_le n x.1 t) h
whole_within n (Err d) e t h = let same : d ≡ e = cc in rw (← same) t

pub front_stops_within : (at : List ℕ) (stop : Refused Broken) → Fails stop (front_value at) → IsWithin (length at) stop
front_stops_within at (refused.Fault e) h = front_within (length at) (first_value 127 at) e (first_tame (length at) 127 at (omega arith)) h
front_stops_within at refused.Memory h = tt

pub whole_stops_within : (at : List ℕ) (stop : Refused Broken) → Fails stop (whole_value 127 at) → IsWithin (length at) stop
unfolding whole_value
whole_stops_within at (refused.Fault e) h = whole_within (length at) (first_value 127 at) e (first_tame (length at) 127 at (omega arith)) h
whole_stops_within at refused.Memory h = tt
