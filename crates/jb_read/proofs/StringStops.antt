-- What is broken inside a string is refused.
use Rattle.std.proofs.Common.{◌≡◌, ℕ, zero, suc, ◌+◌, ◌<◌, ◌≤◌, Bool, true, false, cond, ◌⊎◌, inl, inr, List, [], ◌∷◌, ◌++◌, length, take, drop, Result, Ok, Err, refl, sym, ap, subst, ◌∙◌, arith, append_assoc, length-append, take_all}
use Rattle.std.specs.Prelude.{◌==◌, ◌&&◌, ◌||◌, nat_lt, is_none, encode_utf8}
use Rattle.std.specs.Char.{IsScalar}
use Rattle.std.specs.Str.{IsUtf8, is_utf8}
use Rattle.std.specs.Str.Lossy.{utf8_valid_len, utf8_error_len}
use Rattle.std.proofs.lemmas.Bool.{ne_eqb, ltb-true, or_right, true≢false}
use Rattle.std.proofs.Math.Seq.{drop-append-add}
use Rattle.std.proofs.lemmas.Str.{IsUtf8-nil, IsUtf8-append, IsUtf8-encode, IsUtf8-past_char, IsUtf8-from_is_utf8, is_utf8-from_IsUtf8}
use Rattle.jb_read.specs.declared.fault.Broken.{Broken}
use Rattle.jb_read.specs.declared.fault.FaultKind.TheVariants.{Syntax}
use Rattle.jb_read.specs.Reading.{◌>>=◌, broken, turns}
use Rattle.jb_read.specs.Strings.{is_special, plain_front, behind_plain, run_at, escape_at, piece_end, piece_at, text_at}
use Rattle.jb_read.specs.StringFaults.{CharactersBefore, BeginsNoCharacter, is_cut, CharacterBreaks, at_end, control, in_escape, ill_formed, cut_off, StringBreaks}
use Rattle.jb_read.proofs.Escapes.{Escape, character_cases}
use Rattle.jb_read.proofs.Characters.{front_append, behind_append, encode_plain, piece_of_run, escape_le}
use Rattle.jb_read.proofs.Utf8Fronts.{longest_front, valid_past_character}
use Rattle.jb_read.proofs.EscapeBreaks.{escape_stops}

-- ---- the next character breaks

-- plain bytes that begin with no character are no text
no_text : (at : List ℕ) → BeginsNoCharacter at → is_utf8 (plain_front at) ≡ false
no_text at n = by_test (is_utf8 (plain_front at)) refl
  where
    by_test : (t : Bool) → is_utf8 (plain_front at) ≡ t → t ≡ false
    by_test false e = refl
    by_test true e =
        let f = plain_front at in
        let whole : take (length f) f ≡ f = take_all (length f) f (omega arith) in
        let most : length f ≤ utf8_valid_len f = longest_front f (length f) (omega arith) (subst IsUtf8 (sym whole) (IsUtf8-from_is_utf8 f e)) in
        absurd (omega (arith, most, n.some, n.none))

abbrev stopped_run : List ℕ → Result (List ℕ × List ℕ) Broken
stopped_run place = Err (broken Syntax place)

-- where a run that is no text breaks, by the length of its longest text
abbrev place_by : ℕ → List ℕ → List ℕ → List ℕ → List ℕ
place_by valid front behind at = cond ((length behind == 0) && is_none (utf8_error_len (drop valid front))) [] (drop valid at)

run_bad : (at : List ℕ) → is_utf8 (plain_front at) ≡ false → run_at at ≡ stopped_run (place_by (utf8_valid_len (plain_front at)) (plain_front at) (behind_plain at) at)
unfolding run_at
run_bad at bad = rw bad refl

run_stops : (at : List ℕ) → BeginsNoCharacter at → run_at at ≡ stopped_run (cond (is_cut at) [] at)
run_stops at n = run_bad at (no_text at n) ∙ ap (λ (v : ℕ). stopped_run (place_by v (plain_front at) (behind_plain at) at)) n.none

control_stops : (made : List ℕ) (b : ℕ) (rest : List ℕ) → nat_lt b 32 ≡ true → piece_at made (b ∷ rest) ≡ Err (broken Syntax (b ∷ rest))
unfolding piece_end
control_stops made b rest small =
    let lt : b < 32 = ltb-true b 32 small in
    let special : is_special b ≡ true = or_right ((b == 34) || (b == 92)) (nat_lt b 32) small in
    let front : plain_front (b ∷ rest) ≡ [] = rw special refl in
    let behind : behind_plain (b ∷ rest) ≡ b ∷ rest = rw special refl in
    let no_quote : (b == 34) ≡ false = ne_eqb b 34 (λ e. omega arith) in
    let no_backslash : (b == 92) ≡ false = ne_eqb b 92 (λ e. omega arith) in
    piece_of_run made (b ∷ rest) (subst IsUtf8 (sym front) IsUtf8-nil) ∙ ap (λ (l : List ℕ). piece_end (made ++ plain_front (b ∷ rest)) l) behind ∙ rw (no_quote, no_backslash) refl

end_stops : (made : List ℕ) → piece_at made [] ≡ Err (broken Syntax [])
unfolding piece_end
end_stops made = piece_of_run made [] IsUtf8-nil

backslash_stops : (made inside : List ℕ) (e : Broken) → escape_at (broken Syntax (92 ∷ inside)) inside ≡ Err e → piece_at made (92 ∷ inside) ≡ Err e
unfolding piece_end
backslash_stops made inside e h = piece_of_run made (92 ∷ inside) IsUtf8-nil ∙ rw h refl

ran : (made at : List ℕ) (e : Broken) → run_at at ≡ Err e → piece_at made at ≡ Err e
unfolding piece_at
ran made at e h = rw h refl

piece_stops : (made at : List ℕ) (e : Broken) → CharacterBreaks e at → piece_at made at ≡ Err e
piece_stops made at e (at_end is f) = rw (is, f) (end_stops made)
piece_stops made at e (control b rest is small f) = rw (f, is) (control_stops made b rest small)
piece_stops made at e (in_escape inside is b) = rw is (backslash_stops made inside e (escape_stops inside e (rw is at b)))
piece_stops made at e (ill_formed n cut f) = rw f (ran made at (broken Syntax at) (run_stops at n ∙ ap (λ (t : Bool). stopped_run (cond t [] at)) cut))
piece_stops made at e (cut_off n cut f) = rw f (ran made at (broken Syntax []) (run_stops at n ∙ ap (λ (t : Bool). stopped_run (cond t [] at)) cut))

-- ---- characters before it

record Stops (at : List ℕ) (e : Broken) : Type 0 where
  turned : (most : ℕ) (made : List ℕ) → length at ≤ most → turns piece_at (suc most) made at ≡ Err e

turn_stops : (most : ℕ) (made at : List ℕ) (e : Broken) → piece_at made at ≡ Err e → turns piece_at (suc most) made at ≡ Err e
turn_stops most made at e h = rw h refl

turn_same : (most : ℕ) (made made' at at' : List ℕ) → piece_at made at ≡ piece_at made' at' → turns piece_at (suc most) made at ≡ turns piece_at (suc most) made' at'
turn_same most made made' at at' e = ap (λ (q : Result ((Bool × List ℕ) × List ℕ) Broken). q >>= λ t. cond t.0.0 (turns piece_at most t.0.1 t.1) (Ok (t.0.1, t.1))) e

-- a plain character before a run that is no text leaves it none, and its fault where it is
bad_run : (c : ℕ) (behind : List ℕ) → IsScalar c → is_special c ≡ false → is_utf8 (plain_front behind) ≡ false → run_at (encode_utf8 c ++ behind) ≡ run_at behind
bad_run c behind scalar special bad =
    let bytes = encode_utf8 c in
    let f = plain_front behind in
    let v = utf8_valid_len f in
    let front : plain_front (bytes ++ behind) ≡ bytes ++ f = front_append bytes behind (encode_plain c special) in
    let left : behind_plain (bytes ++ behind) ≡ behind_plain behind = behind_append bytes behind (encode_plain c special) in
    let valid : utf8_valid_len (bytes ++ f) ≡ length bytes + v = valid_past_character c f scalar in
    let inner : drop (length bytes + v) (bytes ++ f) ≡ drop v f = drop-append-add bytes f v in
    let outer : drop (length bytes + v) (bytes ++ behind) ≡ drop v behind = drop-append-add bytes behind v in
    let invalid : is_utf8 (plain_front (bytes ++ behind)) ≡ false = ap is_utf8 front ∙ still_bad (is_utf8 (bytes ++ f)) refl in
    run_bad (bytes ++ behind) invalid
    ∙ ap (λ (l : List ℕ). stopped_run (place_by (utf8_valid_len l) l (behind_plain (bytes ++ behind)) (bytes ++ behind))) front
    ∙ ap (λ (l : List ℕ). stopped_run (place_by (utf8_valid_len (bytes ++ f)) (bytes ++ f) l (bytes ++ behind))) left
    ∙ ap (λ (n : ℕ). stopped_run (place_by n (bytes ++ f) (behind_plain behind) (bytes ++ behind))) valid
    ∙ ap (λ (l : List ℕ). stopped_run (cond ((length (behind_plain behind) == 0) && is_none (utf8_error_len l)) [] (drop (length bytes + v) (bytes ++ behind)))) inner
    ∙ ap (λ (l : List ℕ). stopped_run (cond ((length (behind_plain behind) == 0) && is_none (utf8_error_len (drop v f))) [] l)) outer
    ∙ sym (run_bad behind bad)
  where
    still_bad : (t : Bool) → is_utf8 (encode_utf8 c ++ plain_front behind) ≡ t → is_utf8 (encode_utf8 c ++ plain_front behind) ≡ false
    still_bad false e = e
    still_bad true e =
        let text = IsUtf8-past_char (encode_utf8 c ++ plain_front behind) (plain_front behind) c (IsUtf8-from_is_utf8 (encode_utf8 c ++ plain_front behind) e) refl in
        let invalid : true ≡ false = sym (is_utf8-from_IsUtf8 (plain_front behind) text) ∙ bad in absurd (true≢false invalid)

run_fails : (at : List ℕ) → is_utf8 (plain_front at) ≡ false → (e : Broken) × (run_at at ≡ Err e)
run_fails at invalid = (broken Syntax (place_by (utf8_valid_len (plain_front at)) (plain_front at) (behind_plain at) at), run_bad at invalid)

piece_same : (c : ℕ) (made behind : List ℕ) → IsScalar c → is_special c ≡ false → piece_at made (encode_utf8 c ++ behind) ≡ piece_at (made ++ encode_utf8 c) behind
piece_same c made behind scalar special = by_test (is_utf8 (plain_front behind)) refl
  where
    good : IsUtf8 (plain_front behind) → piece_at made (encode_utf8 c ++ behind) ≡ piece_at (made ++ encode_utf8 c) behind
    good text =
        let front : plain_front (encode_utf8 c ++ behind) ≡ encode_utf8 c ++ plain_front behind = front_append (encode_utf8 c) behind (encode_plain c special) in
        let left : behind_plain (encode_utf8 c ++ behind) ≡ behind_plain behind = behind_append (encode_utf8 c) behind (encode_plain c special) in
        let whole : IsUtf8 (plain_front (encode_utf8 c ++ behind)) = subst IsUtf8 (sym front) (IsUtf8-append (encode_utf8 c) (plain_front behind) (IsUtf8-encode c scalar) text) in
        piece_of_run made (encode_utf8 c ++ behind) whole ∙ ap (λ (l : List ℕ). piece_end (made ++ l) (behind_plain (encode_utf8 c ++ behind))) front ∙ ap (λ (l : List ℕ). piece_end (made ++ (encode_utf8 c ++ plain_front behind)) l) left
        ∙ ap (λ (l : List ℕ). piece_end l (behind_plain behind)) (sym (append_assoc made (encode_utf8 c) (plain_front behind))) ∙ sym (piece_of_run (made ++ encode_utf8 c) behind text)

    bad : is_utf8 (plain_front behind) ≡ false → piece_at made (encode_utf8 c ++ behind) ≡ piece_at (made ++ encode_utf8 c) behind
    bad invalid =
        let here = run_fails behind invalid in
        ran made (encode_utf8 c ++ behind) here.0 (bad_run c behind scalar special invalid ∙ here.1) ∙ sym (ran (made ++ encode_utf8 c) behind here.0 here.1)

    by_test : (t : Bool) → is_utf8 (plain_front behind) ≡ t → piece_at made (encode_utf8 c ++ behind) ≡ piece_at (made ++ encode_utf8 c) behind
    by_test true e = good (IsUtf8-from_is_utf8 (plain_front behind) e)
    by_test false e = bad e

plain_stops : (c : ℕ) (at behind : List ℕ) (e : Broken) → IsScalar c → is_special c ≡ false → at ≡ encode_utf8 c ++ behind → Stops behind e → Stops at e
plain_stops c at behind e scalar special parts more = record {
  turned = λ most made le.
      let shorter : length behind ≤ most = omega (arith, ap length parts, length-append (encode_utf8 c) behind, le) in
      turn_same most made (made ++ encode_utf8 c) at behind (ap (piece_at made) parts ∙ piece_same c made behind scalar special) ∙ more.turned most (made ++ encode_utf8 c) shorter;
}

escape_before : (c : ℕ) (at behind : List ℕ) (e : Broken) → Escape c at behind → Stops behind e → Stops at e
unfolding piece_end
escape_before c at behind e escape more = subst (λ (l : List ℕ). Stops l e) (sym escape.parts) (record { turned = λ most made le. by_most most made le })
  where
    by_most : (most : ℕ) (made : List ℕ) → length (92 ∷ escape.inside) ≤ most → turns piece_at (suc most) made (92 ∷ escape.inside) ≡ Err e
    by_most zero made le = absurd (omega arith)
    by_most (suc most) made le =
        let read = escape.read (broken Syntax (92 ∷ escape.inside)) in
        let shorter : length behind ≤ most = escape_le most escape.inside c behind (omega arith) (escape.read (broken Syntax [])) in
        let piece : piece_at made (92 ∷ escape.inside) ≡ Ok ((true, (made ++ []) ++ encode_utf8 c), behind) =
        piece_of_run made (92 ∷ escape.inside) IsUtf8-nil ∙ ap (λ (r : Result (ℕ × List ℕ) Broken). r >>= λ escape. Ok ((true, (made ++ []) ++ encode_utf8 escape.0), escape.1)) read in
        ap (λ (q : Result ((Bool × List ℕ) × List ℕ) Broken). q >>= λ t. cond t.0.0 (turns piece_at (suc most) t.0.1 t.1) (Ok (t.0.1, t.1))) piece ∙ more.turned most ((made ++ []) ++ encode_utf8 c) shorter

characters_stop : (cs at start : List ℕ) (e : Broken) → CharactersBefore cs at start → CharacterBreaks e start → Stops at e
characters_stop [] at start e is b = subst (λ (l : List ℕ). Stops l e) (sym is) (record { turned = λ most made le. turn_stops most made start e (piece_stops made start e b) })
characters_stop (c ∷ cs) at start e s b = by_kind (character_cases c at s.0 s.1) (characters_stop cs s.0 start e s.2 b)
  where
    by_kind : (IsScalar c × (is_special c ≡ false) × (at ≡ encode_utf8 c ++ s.0)) ⊎ Escape c at s.0 → Stops s.0 e → Stops at e
    by_kind (inl p) more = plain_stops c at s.0 e p.0 p.1 p.2 more
    by_kind (inr escape) more = escape_before c at s.0 e escape more

pub string_stops : (inside : List ℕ) (e : Broken) → StringBreaks e inside → text_at inside ≡ Err e
unfolding text_at
string_stops inside e b = (characters_stop b.characters inside b.start e b.before b.breaks).turned (length inside) [] (omega arith)
