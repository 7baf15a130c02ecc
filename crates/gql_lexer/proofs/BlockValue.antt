-- The value of a block string, line by line, and its raw value, piece by piece.
use Rattle.std.proofs.Common.{◌≡◌, ℕ, zero, suc, ◌+◌, ◌<◌, ◌≤◌, min, Bool, true, false, not, ◌&&◌, cond, List, [], ◌∷◌, ◌++◌, map, length, take, drop, Option, Some, None, refl, sym, ◌∙◌, ap, arith, append_assoc}
use Rattle.std.specs.Prelude.{if◌then◌else◌, ◌==◌, slice_index, unwrap_or}
use Rattle.std.specs.List.{prefix_len, list_all, join_with_byte}
use Rattle.std.proofs.lemmas.List.{append-nil, take_all, drop_all}
use Rattle.std.proofs.lemmas.Bool.{eqb-true}
use Rattle.std.proofs.lemmas.Bool.Decides.{nat_tests}
use Rattle.gql_lexer.specs.Class.{Text}
use Rattle.gql_lexer.specs.Lex.{is_block_quote}
use Rattle.gql_lexer.specs.BlockString.{raw_value, lines, white_len, is_white_line, indent, least, common_indent, unindented, without_white_end, joined}
use Rattle.gql_lexer.specs.bridge.BlockWriting.{without_indent, added, completed, TakesIn, kept_backslash}

-- ---- what more lines add

-- the lines behind one that is written
abbrev joined_behind : List Text → Text
joined_behind [] = []
joined_behind (line ∷ others) = 0x0A ∷ (line ++ joined_behind others)

join-behind : (line : Text) (others : List Text) → join_with_byte 0x0A (line ∷ others) ≡ line ++ joined_behind others
join-behind line [] = sym (append-nil line)
join-behind line (next ∷ others) = ap (λ t. line ++ (0x0A ∷ t)) (join-behind next others)

-- white lines that are met count only where another line follows
added-by : (white line : Text) (others : List Text) (b all : Bool)
    → (added (white ++ (0x0A ∷ line)) others ≡ (if all then [] else (white ++ (0x0A ∷ line)) ++ added [] others))
    → (added (0x0A ∷ line) others ≡ (if all then [] else (0x0A ∷ line) ++ added [] others))
    → (if b then added (white ++ (0x0A ∷ line)) others else white ++ (0x0A ∷ (line ++ added [] others)))
    ≡ (if b && all then [] else white ++ (if b then added (0x0A ∷ line) others else 0x0A ∷ (line ++ added [] others)))
added-by white line others true true p q = p
added-by white line others true false p q = p ∙ append_assoc white (0x0A ∷ line) (added [] others) ∙ ap (λ t. white ++ t) (sym q)
added-by white line others false all p q = refl

added-white : (white : Text) (ls : List Text) → added white ls ≡ (if list_all is_white_line ls then [] else white ++ added [] ls)
added-white white [] = refl
added-white white (line ∷ others) =
    added-by white line others (is_white_line line) (list_all is_white_line others)
    (added-white (white ++ (0x0A ∷ line)) others) (added-white (0x0A ∷ line) others)

behind-by : (line : Text) (others : List Text) (b all : Bool)
    → (added (0x0A ∷ line) others ≡ (if all then [] else (0x0A ∷ line) ++ added [] others))
    → joined_behind (without_white_end others) ≡ added [] others
    → joined_behind (if b && all then [] else line ∷ without_white_end others) ≡ (if b then added (0x0A ∷ line) others else 0x0A ∷ (line ++ added [] others))
behind-by line others true true p q = sym p
behind-by line others true false p q = ap (λ t. 0x0A ∷ (line ++ t)) q ∙ sym p
behind-by line others false all p q = ap (λ t. 0x0A ∷ (line ++ t)) q

behind-added : (ls : List Text) → joined_behind (without_white_end ls) ≡ added [] ls
behind-added [] = refl
behind-added (line ∷ others) =
    behind-by line others (is_white_line line) (list_all is_white_line others) (added-white (0x0A ∷ line) others) (behind-added others)

pub joined-line : (line : Text) (others : List Text) → is_white_line line ≡ false → joined (line ∷ others) ≡ line ++ added [] others
joined-line line others h = rw (h, h) (join-behind line (without_white_end others) ∙ ap (λ t. line ++ t) (behind-added others))

-- ---- a line is taken in

some_line : (line : Text) → is_white_line line ≡ false → 0 < length line
some_line [] h = absurd (let f : true ≡ false = h in cc)
some_line (b ∷ line) h = omega arith

completed-some : (text white : Text) (ls : List Text) → 0 < length text → completed text white ls ≡ text ++ added white ls
completed-some [] white ls h = absurd (omega arith)
completed-some (b ∷ text) white ls h = refl

not_empty : (text white : Text) → 0 < length text → text ≡ [] → white ≡ []
not_empty text white h e = absurd (omega (arith, ap length e))

pub takes-first : (text white line new : Text) → length text ≡ 0 → (text ≡ [] → white ≡ []) → is_white_line line ≡ false → new ≡ text ++ line → TakesIn text white line new white
takes-first [] white line new e empty h is = rw (is, empty refl) record {
  empty = not_empty line [] (some_line line h);
  value = λ ls. completed-some line [] ls (some_line line h) ∙ sym (joined-line line ls h);
}
takes-first (b ∷ text) white line new e empty h is = absurd (omega arith)

-- ---- indents

pub least-none : (a : Option ℕ) → least a None ≡ a
least-none None = refl
least-none (Some a) = refl

min-assoc : (a b c : ℕ) → min (min a b) c ≡ min a (min b c)
min-assoc a b c = omega arith

pub least-assoc : (a b c : Option ℕ) → least (least a b) c ≡ least a (least b c)
least-assoc None b c = refl
least-assoc (Some a) None c = refl
least-assoc (Some a) (Some b) None = refl
least-assoc (Some a) (Some b) (Some c) = ap (λ n. Some n) (min-assoc a b c)

-- all indents of the lines are at least n
abbrev AtLeast : ℕ → Option ℕ → Type 0
AtLeast n None = Unit {0}
AtLeast n (Some m) = n ≤ m

at_least-left : (n : ℕ) (a b : Option ℕ) → AtLeast n (least a b) → AtLeast n a
at_least-left n None b h = tt
at_least-left n (Some a) None h = h
at_least-left n (Some a) (Some b) h = omega arith

at_least-right : (n : ℕ) (a b : Option ℕ) → AtLeast n (least a b) → AtLeast n b
at_least-right n None b h = h
at_least-right n (Some a) None h = tt
at_least-right n (Some a) (Some b) h = omega arith

at_least-common : (common : Option ℕ) → AtLeast (unwrap_or common 0) common
at_least-common None = tt
at_least-common (Some n) = omega arith

drop-past : (n : ℕ) (line : Text) (k : ℕ) → k ≡ length line → drop (min n k) line ≡ drop n line
drop-past zero line k e = let f : min 0 k ≡ 0 = omega arith in rw f refl
drop-past (suc n) [] k e = let f : min (suc n) k ≡ 0 = omega arith in rw f refl
drop-past (suc n) (b ∷ line) zero e = absurd (omega arith)
drop-past (suc n) (b ∷ line) (suc k) e =
    let f : min (suc n) (suc k) ≡ suc (min n k) = omega arith in
    rw f (drop-past n line k (omega arith))

-- up to the indent of a line that is not white, and past the end of one that is, nothing else is taken off
without_indent-by : (n : ℕ) (line : Text) (b : Bool) → (white_len line == length line) ≡ b → AtLeast n (if b then None else Some (white_len line))
    → without_indent n line ≡ drop n line
without_indent-by n line true e h = drop-past n line (white_len line) (eqb-true (white_len line) (length line) e)
without_indent-by n line false e h = let f : min n (white_len line) ≡ n = omega arith in rw f refl

without_indents : (n : ℕ) (ls : List Text) → AtLeast n (common_indent ls) → map (λ line. without_indent n line) ls ≡ map (λ line. drop n line) ls
without_indents n [] h = refl
without_indents n (line ∷ others) h =
    let here = without_indent-by n line (is_white_line line) refl (at_least-left n (indent line) (common_indent others) h) in
    let more = without_indents n others (at_least-right n (indent line) (common_indent others) h) in
    rw (here, more) refl

pub unindented-lines : (raw first : Text) (others : List Text) (n : ℕ) → lines raw ≡ first ∷ others → n ≡ unwrap_or (common_indent others) 0
    → joined (unindented (lines raw)) ≡ completed [] [] (first ∷ map (λ line. without_indent n line) others)
unindented-lines raw first others n split is =
    let e : map (λ line. without_indent n line) others ≡ map (λ line. drop (unwrap_or (common_indent others) 0) line) others =
    rw is (without_indents (unwrap_or (common_indent others) 0) others (at_least-common (common_indent others))) in
    ap (λ ls. joined (unindented ls)) split ∙ ap (λ ls. joined (first ∷ ls)) (sym e)

-- ---- the raw value

abbrev pub is_other : ℕ → Bool
is_other b = not (b == 0x5C)

other-first : (b : ℕ) (at : Text) (v : Bool) → is_other b ≡ v
    → raw_value at ≡ take (prefix_len is_other at) at ++ raw_value (drop (prefix_len is_other at) at)
    → raw_value (b ∷ at) ≡ take (cond v (1 + prefix_len is_other at) 0) (b ∷ at) ++ raw_value (drop (cond v (1 + prefix_len is_other at) 0) (b ∷ at))
other-first b at false e more = refl
other-first b at true e more =
    let f : 1 + prefix_len is_other at ≡ suc (prefix_len is_other at) = omega arith in
    let g : (b == 0x5C) ≡ false = grind (arith, nat_tests) in
    rw (f, g) (ap (λ t. b ∷ t) more)

-- what is no backslash stands for itself
raw-other : (at : Text) → raw_value at ≡ take (prefix_len is_other at) at ++ raw_value (drop (prefix_len is_other at) at)
raw-other [] = refl
raw-other (b ∷ at) = other-first b at (is_other b) refl (raw-other at)

raw-by : (at : Text) (v : Bool) → (if v then raw_value at else 0x5C ∷ raw_value at) ≡ (if v then [] else 0x5C ∷ []) ++ raw_value at
raw-by at true = refl
raw-by at false = refl

raw-backslash : (at : Text) → slice_index at 0 ≡ 0x5C → raw_value at ≡ kept_backslash at ++ raw_value (drop 1 at)
raw-backslash [] h = absurd (omega arith)
raw-backslash (b ∷ at) h = rw h (raw-by at (is_block_quote (0x5C ∷ at) 1))

raw_piece : (out rest plain behind all : Text) → out ++ raw_value rest ≡ all → plain ≡ take (prefix_len is_other rest) rest → behind ≡ drop (prefix_len is_other rest) rest
    → (out ++ plain) ++ raw_value behind ≡ all
raw_piece out rest plain behind all so_far front back =
    let e : raw_value rest ≡ plain ++ raw_value behind = rw (front, back) (raw-other rest) in
    append_assoc out plain (raw_value behind) ∙ ap (λ l. out ++ l) (sym e) ∙ so_far

no_length : (at : Text) → length at ≡ 0 → at ≡ []
no_length [] h = refl
no_length (b ∷ at) h = absurd (omega arith)

pub last_raw_piece : (out rest plain behind all : Text) → out ++ raw_value rest ≡ all → plain ≡ take (prefix_len is_other rest) rest → behind ≡ drop (prefix_len is_other rest) rest
    → length behind ≡ 0 → out ++ plain ≡ all
last_raw_piece out rest plain behind all so_far front back none =
    sym (append-nil (out ++ plain)) ∙ ap (λ l. (out ++ plain) ++ raw_value l) (sym (no_length behind none)) ∙ raw_piece out rest plain behind all so_far front back

pub next_raw_piece : (out rest plain behind all : Text) → out ++ raw_value rest ≡ all → plain ≡ take (prefix_len is_other rest) rest → behind ≡ drop (prefix_len is_other rest) rest
    → slice_index behind 0 ≡ 0x5C → ((out ++ plain) ++ kept_backslash behind) ++ raw_value (drop 1 behind) ≡ all
next_raw_piece out rest plain behind all so_far front back first =
    append_assoc (out ++ plain) (kept_backslash behind) (raw_value (drop 1 behind))
    ∙ ap (λ l. (out ++ plain) ++ l) (sym (raw-backslash behind first))
    ∙ raw_piece out rest plain behind all so_far front back

-- no backslash stands in the text: it is its raw value
pub raw_value-same : (at : Text) → prefix_len is_other at ≡ length at → raw_value at ≡ at
raw_value-same at h =
    raw-other at ∙ rw (h, take_all (length at) at (omega arith), drop_all (length at) at (omega arith)) (append-nil at)
