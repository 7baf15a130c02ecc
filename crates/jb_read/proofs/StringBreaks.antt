-- Where a string breaks: what is refused is broken, and what is broken is refused.
use Rattle.std.proofs.Common.{◌≡◌, ℕ, zero, suc, ◌+◌, ◌<◌, ◌≤◌, Bool, true, false, cond, not, ◌⊎◌, inl, inr, List, [], ◌∷◌, ◌++◌, length, take, drop, Result, Ok, Err, refl, sym, ap, subst, ◌∙◌, arith, append_assoc, length-append, length-drop, length-take-le, take_all, take-append-drop, take-add}
use Rattle.std.specs.Prelude.{◌==◌, ◌&&◌, nat_lt, is_none, encode_utf8}
use Rattle.std.specs.Str.{IsUtf8, is_utf8, encode_utf8_all, all_scalars}
use Rattle.std.specs.Str.Lossy.{utf8_valid_len, utf8_error_len}
use Rattle.std.proofs.lemmas.Bool.{eqb-true, and_parts, and_from, true≢false}
use Rattle.std.proofs.lemmas.List.{drop_at}
use Rattle.std.proofs.lemmas.Str.{IsUtf8-append, is_utf8-from_IsUtf8, utf8_valid_len_le, length-encode, len_utf8_bounds}
use Rattle.jb_read.specs.declared.fault.Broken.{Broken}
use Rattle.jb_read.specs.declared.fault.FaultKind.TheVariants.{Syntax}
use Rattle.jb_read.specs.Reading.{◌>>=◌, broken, fails, turns}
use Rattle.jb_read.specs.Strings.{is_special, plain_length, plain_front, behind_plain, ill_formed_at, run_at, escape_at, piece_end, piece_at, text_at}
use Rattle.jb_read.specs.Spelling.{SpellsUnit, SpellsCharacter, plain, short, unit, pair}
use Rattle.jb_read.specs.StringFaults.{CharactersBefore, BeginsNoCharacter, is_cut, CharacterBreaks, at_end, control, in_escape, ill_formed, cut_off, StringBreaks}
use Rattle.jb_read.proofs.Steps.{bind_ok, chosen}
use Rattle.jb_read.proofs.Characters.{all_plain, front_plain, front_append, behind_append, special_from_bytes, plain_right, run_ok, Escaped, piece_end_sound}
use Rattle.jb_read.proofs.Utf8Fronts.{valid_front, longest_front}
use Rattle.jb_read.proofs.EscapeBreaks.{escape_breaks}
use Rattle.jb_read.proofs.Stopped.{same_stop, bind_err}

abbrev closed : List ℕ → List ℕ → Result ((Bool × List ℕ) × List ℕ) Broken
closed made rest = Ok ((false, made), rest)

abbrev after_escape : List ℕ → ℕ × List ℕ → Result ((Bool × List ℕ) × List ℕ) Broken
after_escape made escape = Ok ((true, made ++ encode_utf8 escape.0), escape.1)

abbrev read_text : List ℕ → List ℕ → Result (List ℕ × List ℕ) Broken
read_text made rest = Ok (made, rest)

-- ---- characters before a fault

joined : (xs ys at mid start : List ℕ) → CharactersBefore xs at mid → CharactersBefore ys mid start → CharactersBefore (xs ++ ys) at start
joined [] ys at mid start p q = subst (λ (l : List ℕ). CharactersBefore ys l start) (sym p) q
joined (x ∷ xs) ys at mid start p q = (p.0, p.1, joined xs ys p.0 mid start p.2 q)

-- characters whose bytes stand for themselves
plain_before : (ps at : List ℕ) → all_scalars ps ≡ true → all_plain (encode_utf8_all ps) ≡ true → CharactersBefore ps (encode_utf8_all ps ++ at) at
plain_before [] at s e = refl
plain_before (p ∷ ps) at s e =
    let scalars = and_parts _ (all_scalars ps) s in
    (encode_utf8_all ps ++ at, plain scalars.0 (special_from_bytes p (encode_utf8_all ps) e) (append_assoc (encode_utf8 p) (encode_utf8_all ps) at), plain_before ps at scalars.1 (plain_right (encode_utf8 p) (encode_utf8_all ps) e))

-- the front of a run that is UTF-8, as characters
text_before : (front at : List ℕ) → IsUtf8 front → all_plain front ≡ true → (ps : List ℕ) × CharactersBefore ps (front ++ at) at
text_before front at text plains = (text.0, subst (λ (l : List ℕ). CharactersBefore text.0 (l ++ at) at) text.1.1 (plain_before text.0 at text.1.0 (ap all_plain text.1.1 ∙ plains)))

-- ---- bytes that are no UTF-8

plain_left : (xs ys : List ℕ) → all_plain (xs ++ ys) ≡ true → all_plain xs ≡ true
plain_left [] ys e = refl
plain_left (x ∷ xs) ys e = let p = and_parts (not (is_special x)) (all_plain (xs ++ ys)) e in and_from (not (is_special x)) (all_plain xs) p.0 (plain_left xs ys p.1)

-- a run that is no UTF-8, at the byte where its longest text ends
record Broken_run (at : List ℕ) (valid : ℕ) : Type 0 where
  front : List ℕ
  text : IsUtf8 front
  plains : all_plain front ≡ true
  parts : at ≡ front ++ drop valid at
  left : plain_front (drop valid at) ≡ drop valid (plain_front at)
  behind : behind_plain (drop valid at) ≡ behind_plain at
  none : BeginsNoCharacter (drop valid at)

less_than : (v n : ℕ) → v ≤ n → (v ≡ n → ⊥) → v < n
less_than v n le differs = omega (arith, le, differs)

-- the longest front of bytes that are no text isn't all of them
short_front : (f : List ℕ) → is_utf8 f ≡ false → utf8_valid_len f < length f
short_front f bad = less_than (utf8_valid_len f) (length f) (utf8_valid_len_le f) (λ same.
    let whole : take (utf8_valid_len f) f ≡ f = take_all (utf8_valid_len f) f (omega (arith, same)) in
    true≢false (sym (is_utf8-from_IsUtf8 f (subst IsUtf8 whole (valid_front f))) ∙ bad))

-- and behind it begins no character
none_behind : (f : List ℕ) → utf8_valid_len (drop (utf8_valid_len f) f) ≡ 0
none_behind f =
    let v = utf8_valid_len f in
    let w = utf8_valid_len (drop v f) in
    let le : v ≤ length f = utf8_valid_len_le f in
    let fits : w ≤ length (drop v f) = utf8_valid_len_le (drop v f) in
    let both : IsUtf8 (take (v + w) f) = subst IsUtf8 (sym (take-add v w f)) (IsUtf8-append (take v f) (take w (drop v f)) (valid_front f) (valid_front (drop v f))) in
    let most : v + w ≤ v = longest_front f (v + w) (omega (arith, fits, length-drop v f, le)) both in
    omega (arith, most)

broken_run : (at : List ℕ) → is_utf8 (plain_front at) ≡ false → Broken_run at (utf8_valid_len (plain_front at))
broken_run at bad =
    let f = plain_front at in
    let v = utf8_valid_len f in
    let le : v ≤ length f = utf8_valid_len_le f in
    let len : length (take v f) ≡ v = length-take-le v f le in
    let f_parts : f ≡ take v f ++ drop v f = sym (take-append-drop v f) in
    let at_parts : at ≡ take v f ++ (drop v f ++ behind_plain at) = sym (take-append-drop (plain_length at) at) ∙ ap (λ (l : List ℕ). l ++ behind_plain at) f_parts ∙ append_assoc (take v f) (drop v f) (behind_plain at) in
    let rest_is : drop v at ≡ drop v f ++ behind_plain at = ap (drop v) at_parts ∙ drop_at (take v f) (drop v f ++ behind_plain at) v len in
    let parts : at ≡ take v f ++ drop v at = at_parts ∙ ap (λ (l : List ℕ). take v f ++ l) (sym rest_is) in
    let plains : all_plain (take v f) ≡ true = plain_left (take v f) (drop v f) (ap all_plain (sym f_parts) ∙ front_plain at) in
    let left : plain_front (drop v at) ≡ drop v f = sym (ap (drop v) (ap plain_front parts ∙ front_append (take v f) (drop v at) plains) ∙ drop_at (take v f) (plain_front (drop v at)) v len) in
    let behind : behind_plain (drop v at) ≡ behind_plain at = sym (ap behind_plain parts ∙ behind_append (take v f) (drop v at) plains) in
    let some : 0 < length (plain_front (drop v at)) = omega (arith, ap length left, length-drop v f, short_front f bad) in
    record { front = take v f; text = valid_front f; plains = plains; parts = parts; left = left; behind = behind; none = record { some = some; none = ap utf8_valid_len left ∙ none_behind f } }

cut_or_not : (at : List ℕ) (e : Broken) → BeginsNoCharacter at → (t : Bool) → is_cut at ≡ t → e ≡ broken Syntax (cond t [] at) → CharacterBreaks e at
cut_or_not at e n true t is = cut_off n t is
cut_or_not at e n false t is = ill_formed n t is

bad_breaks : (at : List ℕ) (e : Broken) (valid : ℕ) → Broken_run at valid
    → e ≡ broken Syntax (cond ((length (behind_plain at) == 0) && is_none (utf8_error_len (drop valid (plain_front at)))) [] (drop valid at)) → StringBreaks e at
bad_breaks at e valid r is =
    let before = text_before r.front (drop valid at) r.text r.plains in
    let cut : is_cut (drop valid at) ≡ ((length (behind_plain at) == 0) && is_none (utf8_error_len (drop valid (plain_front at)))) =
    ap (λ (l : List ℕ). (length (behind_plain (drop valid at)) == 0) && is_none (utf8_error_len l)) r.left ∙ ap (λ (l : List ℕ). (length l == 0) && is_none (utf8_error_len (drop valid (plain_front at)))) r.behind in
    let place : e ≡ broken Syntax (cond (is_cut (drop valid at)) [] (drop valid at)) = is ∙ ap (λ (t : Bool). broken Syntax (cond t [] (drop valid at))) (sym cut) in
    record { characters = before.0; start = drop valid at; before = subst (λ (l : List ℕ). CharactersBefore before.0 l (drop valid at)) (sym r.parts) before.1; breaks = cut_or_not (drop valid at) e r.none (is_cut (drop valid at)) refl place }

run_breaks : (at : List ℕ) (e : Broken) → run_at at ≡ Err e → StringBreaks e at
unfolding run_at
run_breaks at e h = elim (chosen (is_utf8 (plain_front at)) (read_text (plain_front at) (behind_plain at)) (fails Syntax (ill_formed_at at)) (Err e) h) [
  | inl p ↦ absurd cc
  | inr p ↦ bad_breaks at e (utf8_valid_len (plain_front at)) (broken_run at p.0) (same_stop (broken Syntax (ill_formed_at at)) e p.1)
]

-- ---- what is refused is broken

behind_special : (at : List ℕ) (b : ℕ) (rest : List ℕ) → behind_plain at ≡ b ∷ rest → is_special b ≡ true
behind_special [] b rest e = absurd cc
behind_special (x ∷ at) b rest e = by_test (λ h. behind_special at b rest h) (is_special x) refl e
  where
    by_test : (behind_plain at ≡ b ∷ rest → is_special b ≡ true) → (t : Bool) → is_special x ≡ t → drop (cond (not t) (1 + plain_length at) 0) (x ∷ at) ≡ b ∷ rest → is_special b ≡ true
    by_test more true s e = let same : x ≡ b = cc in subst (λ (k : ℕ). is_special k ≡ true) same s
    by_test more false s e = more (ap (λ (n : ℕ). drop n (x ∷ at)) (let one : suc (plain_length at) ≡ 1 + plain_length at = omega arith in one) ∙ e)

piece_end_breaks : (made at : List ℕ) (e : Broken) → ((b : ℕ) (rest : List ℕ) → at ≡ b ∷ rest → is_special b ≡ true) → piece_end made at ≡ Err e → CharacterBreaks e at
unfolding piece_end
piece_end_breaks made [] e special h = at_end refl (same_stop (broken Syntax []) e h)
piece_end_breaks made (b ∷ at) e special h =
    elim (chosen (b == 34) (closed made at) (cond (b == 92) (escape_at (broken Syntax (b ∷ at)) at >>= after_escape made) (fails Syntax (b ∷ at))) (Err e) h) [
      | inl p ↦ absurd cc
      | inr p ↦ (elim (chosen (b == 92) (escape_at (broken Syntax (b ∷ at)) at >>= after_escape made) (fails Syntax (b ∷ at)) (Err e) p.1) [
        | inl q ↦ escaped (eqb-true b 92 q.0) q.1
        | inr q ↦ control b at refl (small p.0 q.0 (special b at refl)) (same_stop (broken Syntax (b ∷ at)) e q.1)
      ])
    ]
  where
    small : (b == 34) ≡ false → (b == 92) ≡ false → is_special b ≡ true → nat_lt b 32 ≡ true
    small q s e = rw (q, s) at e

    refused : (r : Result (ℕ × List ℕ) Broken) → (r >>= after_escape made) ≡ Err e → r ≡ Err e
    refused (Ok x) h = absurd cc
    refused (Err d) h = cc

    escaped : b ≡ 92 → (escape_at (broken Syntax (b ∷ at)) at >>= after_escape made) ≡ Err e → CharacterBreaks e (b ∷ at)
    escaped same h =
        let breaks = escape_breaks at e (ap (λ (k : ℕ). escape_at (broken Syntax (k ∷ at)) at) (sym same) ∙ refused (escape_at (broken Syntax (b ∷ at)) at) h) in
        subst (λ (k : ℕ). CharacterBreaks e (k ∷ at)) (sym same) (in_escape at refl breaks)

unit_shorter : (u : ℕ) (at rest : List ℕ) → SpellsUnit u at rest → length rest < length at
unit_shorter u at rest s = omega (arith, ap length s.spelled)

character_shorter : (c : ℕ) (at rest : List ℕ) → SpellsCharacter c at rest → length rest < length at
character_shorter c at rest (plain scalar special spelled) = omega (arith, ap length spelled, length-append (encode_utf8 c) rest, length-encode c, (len_utf8_bounds c).0)
character_shorter c at rest (short letter e spelled) = omega (arith, ap length spelled)
character_shorter c at rest (unit s high low) = unit_shorter c at rest s
character_shorter c at rest (pair high low between s is t is_one makes) = omega (arith, unit_shorter high at between s, unit_shorter low between rest t)

-- a run, then characters before a fault
run_before : (at : List ℕ) (e : Broken) → IsUtf8 (plain_front at) → StringBreaks e (behind_plain at) → StringBreaks e at
run_before at e text b =
    let whole : plain_front at ++ behind_plain at ≡ at = take-append-drop (plain_length at) at in
    let before = text_before (plain_front at) (behind_plain at) text (front_plain at) in
    record { characters = before.0 ++ b.characters; start = b.start; before = joined before.0 b.characters at (behind_plain at) b.start (subst (λ (l : List ℕ). CharactersBefore before.0 l (behind_plain at)) whole before.1) b.before; breaks = b.breaks }

behind_le : (at : List ℕ) → length (behind_plain at) ≤ length at
behind_le at = omega (arith, length-drop (plain_length at) at)

abbrev after_run : List ℕ → List ℕ × List ℕ → Result ((Bool × List ℕ) × List ℕ) Broken
after_run made run = piece_end (made ++ run.0) run.1

abbrev after_turn : ℕ → (Bool × List ℕ) × List ℕ → Result (List ℕ × List ℕ) Broken
after_turn most t = cond t.0.0 (turns piece_at most t.0.1 t.1) (Ok (t.0.1, t.1))

pieces_break : (most : ℕ) (made at : List ℕ) (e : Broken) → length at < most → turns piece_at most made at ≡ Err e → StringBreaks e at
unfolding piece_at
pieces_break zero made at e lt h = absurd (omega arith)
pieces_break (suc most) made at e lt h = by_turn (λ made' at' le s. pieces_break most made' at' e le s) (bind_err (run_at at >>= after_run made) (after_turn most) e h)
  where
    by_end : IsUtf8 (plain_front at) → piece_end (made ++ plain_front at) (behind_plain at) ≡ Err e → StringBreaks e at
    by_end text h = run_before at e text (record { characters = []; start = behind_plain at; before = refl; breaks = piece_end_breaks (made ++ plain_front at) (behind_plain at) e (λ b rest is. behind_special at b rest is) h })

    by_run : (run_at at ≡ Err e) ⊎ ((run : List ℕ × List ℕ) × (run_at at ≡ Ok run) × (after_run made run ≡ Err e)) → StringBreaks e at
    by_run (inl f) = run_breaks at e f
    by_run (inr r) = let run = run_ok at r.0 r.1 in by_end run.0 (ap (λ (x : List ℕ × List ℕ). after_run made x) run.1 ∙ r.2)

    by_escape : IsUtf8 (plain_front at) → (t : (Bool × List ℕ) × List ℕ) → ((behind_plain at ≡ 34 ∷ t.1) × ((false, made ++ plain_front at) ≡ t.0)) ⊎ Escaped (made ++ plain_front at) (behind_plain at) t → after_turn most t ≡ Err e
        → ((made' at' : List ℕ) → length at' < most → turns piece_at most made' at' ≡ Err e → StringBreaks e at') → StringBreaks e at
    by_escape text t (inl p) h more = absurd (no_fault (ap (λ (x : Bool × List ℕ). cond x.0 (turns piece_at most x.1 t.1) (Ok (x.1, t.1))) p.1 ∙ h))
      where
        no_fault : read_text (made ++ plain_front at) t.1 ≡ Err e → ⊥
        no_fault h = cc
    by_escape text t (inr p) h more =
        let shorter : length t.1 < most = omega (arith, character_shorter p.character (behind_plain at) t.1 p.spelled, behind_le at, lt) in
        let others = more ((made ++ plain_front at) ++ encode_utf8 p.character) t.1 shorter (ap (λ (x : Bool × List ℕ). cond x.0 (turns piece_at most x.1 t.1) (Ok (x.1, t.1))) p.turn_is ∙ h) in
        run_before at e text (record { characters = p.character ∷ others.characters; start = others.start; before = (t.1, p.spelled, others.before); breaks = others.breaks })

    by_turn : ((made' at' : List ℕ) → length at' < most → turns piece_at most made' at' ≡ Err e → StringBreaks e at')
        → ((run_at at >>= after_run made) ≡ Err e) ⊎ ((t : (Bool × List ℕ) × List ℕ) × ((run_at at >>= after_run made) ≡ Ok t) × (after_turn most t ≡ Err e)) → StringBreaks e at
    by_turn more (inl f) = by_run (bind_err (run_at at) (after_run made) e f)
    by_turn more (inr t) =
        let b = bind_ok (run_at at) (after_run made) t.0 t.1 in
        let run = run_ok at b.0 b.1 in
        let ended : piece_end (made ++ plain_front at) (behind_plain at) ≡ Ok t.0 = ap (λ (x : List ℕ × List ℕ). after_run made x) run.1 ∙ b.2 in
        by_escape run.0 t.0 (piece_end_sound (made ++ plain_front at) (behind_plain at) t.0 ended) t.2 more

pub string_breaks : (inside : List ℕ) (e : Broken) → text_at inside ≡ Err e → StringBreaks e inside
unfolding text_at
string_breaks inside e h = pieces_break (suc (length inside)) [] inside e (omega arith) h
