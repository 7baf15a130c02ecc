-- The characters of a string, read and spelled.
use Rattle.std.proofs.Common.{◌≡◌, ℕ, zero, suc, ◌+◌, ◌<◌, ◌≤◌, Bool, true, false, not, cond, ◌⊎◌, inl, inr, List, [], ◌∷◌, ◌++◌, length, take, drop, get_or, Result, Ok, refl, sym, ap, subst, ◌∙◌, append_assoc, arith}
use Rattle.std.specs.Prelude.{◌==◌, ◌&&◌, ◌||◌, nat_lt, encode_utf8}
use Rattle.std.specs.Char.{IsScalar}
use Rattle.std.specs.Str.{IsUtf8, is_utf8, encode_utf8_all, all_scalars}
use Rattle.std.proofs.lemmas.Bool.{eqb-true, ltb-true, and_parts, and_from, or_cases, not-true, not_from_false, true≢false, false_from_ne_true, cases_lt}
use Rattle.std.proofs.lemmas.List.{append-nil, length-append, take-append-drop}
use Rattle.std.proofs.Math.Seq.{take-append-add, drop-append-add}
use Rattle.std.proofs.lemmas.Str.{IsUtf8-from_is_utf8, IsUtf8-append, IsUtf8-nil, IsUtf8-encode, inside_one, encode_ascii, encodes-append}
use Rattle.jb_read.specs.declared.fault.Broken.{Broken}
use Rattle.jb_read.specs.declared.fault.FaultKind.TheVariants.{Syntax}
use Rattle.jb_read.specs.Reading.{◌>>=◌, broken, fails, turns}
use Rattle.jb_read.specs.Strings.{is_special, plain_length, plain_front, behind_plain, ill_formed_at, run_at, escape_at, piece_end, piece_at, text_at}
use Rattle.jb_read.specs.Spelling.{SpellsCharacter, plain, SpellsCharacters, SpellsString}
use Rattle.jb_read.proofs.Steps.{bind_ok, chosen, ok_is, broken_not_ok}
use Rattle.jb_read.proofs.Plain.{run_at_text}
use Rattle.jb_read.proofs.Within.{Tame, escape_tame}
use Rattle.jb_read.proofs.Escapes.{Escape, escape_sound, character_cases}

-- ---- bytes that stand for themselves

abbrev pub all_plain : List ℕ → Bool
all_plain [] = true
all_plain (b ∷ bs) = not (is_special b) && all_plain bs

pub front_plain : (at : List ℕ) → all_plain (plain_front at) ≡ true
front_plain [] = refl
front_plain (b ∷ at) = by_test (not (is_special b)) refl (front_plain at)
  where
    by_test : (t : Bool) → not (is_special b) ≡ t → all_plain (plain_front at) ≡ true → all_plain (take (cond t (1 + plain_length at) 0) (b ∷ at)) ≡ true
    by_test true e more =
        let one : 1 + plain_length at ≡ suc (plain_length at) = omega arith in
        subst (λ (n : ℕ). all_plain (take n (b ∷ at)) ≡ true) (sym one) (and_from (not (is_special b)) (all_plain (plain_front at)) e more)
    by_test false e more = refl

length_front : (xs ys : List ℕ) → all_plain xs ≡ true → plain_length (xs ++ ys) ≡ length xs + plain_length ys
length_front [] ys e = omega arith
length_front (x ∷ xs) ys e =
    let p = and_parts (not (is_special x)) (all_plain xs) e in
    let more = length_front xs ys p.1 in
    let first : plain_length (x ∷ (xs ++ ys)) ≡ 1 + plain_length (xs ++ ys) = rw p.0 refl in
    first ∙ omega (arith, more)

pub front_append : (xs ys : List ℕ) → all_plain xs ≡ true → plain_front (xs ++ ys) ≡ xs ++ plain_front ys
front_append xs ys e = ap (λ (n : ℕ). take n (xs ++ ys)) (length_front xs ys e) ∙ take-append-add xs ys (plain_length ys)

pub behind_append : (xs ys : List ℕ) → all_plain xs ≡ true → behind_plain (xs ++ ys) ≡ behind_plain ys
behind_append xs ys e = ap (λ (n : ℕ). drop n (xs ++ ys)) (length_front xs ys e) ∙ drop-append-add xs ys (plain_length ys)

plain_by_index : (xs : List ℕ) → ((k : ℕ) → k < length xs → is_special (get_or xs k 0) ≡ false) → all_plain xs ≡ true
plain_by_index [] h = refl
plain_by_index (x ∷ xs) h = and_from (not (is_special x)) (all_plain xs) (not_from_false (is_special x) (h 0 (omega arith))) (plain_by_index xs (λ k lt. h (suc k) (omega arith)))

special_small : (b : ℕ) → is_special b ≡ true → b < 128
special_small b e = elim (or_cases ((b == 34) || (b == 92)) (nat_lt b 32) e) [
  | inl p ↦ (elim (or_cases (b == 34) (b == 92) p) [ inl q ↦ omega (arith, eqb-true b 34 q) | inr q ↦ omega (arith, eqb-true b 92 q) ])
  | inr p ↦ omega (arith, ltb-true b 32 p)
]

-- the bytes of a character that isn't special aren't
pub encode_plain : (c : ℕ) → is_special c ≡ false → all_plain (encode_utf8 c) ≡ true
encode_plain c e = plain_by_index (encode_utf8 c) (λ k lt. false_from_ne_true (is_special (get_or (encode_utf8 c) k 0)) (λ s. both c (get_or (encode_utf8 c) k 0) e s (inside_one c [] (encode_utf8 c) k (sym (append-nil (encode_utf8 c))) lt (special_small (get_or (encode_utf8 c) k 0) s))))
  where
    both : (c b : ℕ) → is_special c ≡ false → is_special b ≡ true → c ≡ b → ⊥
    both c b e s same = true≢false (sym s ∙ ap is_special (sym same) ∙ e)

-- and a character is not special whose bytes aren't
pub special_from_bytes : (c : ℕ) (rest : List ℕ) → all_plain (encode_utf8 c ++ rest) ≡ true → is_special c ≡ false
special_from_bytes c rest e = elim (cases_lt c 128) [
  | inl lt ↦ not-true (is_special c) (and_parts (not (is_special c)) (all_plain rest) (ap (λ (l : List ℕ). all_plain (l ++ rest)) (sym (encode_ascii c lt)) ∙ e)).0
  | inr le ↦ false_from_ne_true (is_special c) (λ s. let lt = special_small c s in omega arith)
]

pub plain_right : (xs ys : List ℕ) → all_plain (xs ++ ys) ≡ true → all_plain ys ≡ true
plain_right [] ys e = e
plain_right (x ∷ xs) ys e = plain_right xs ys (and_parts (not (is_special x)) (all_plain (xs ++ ys)) e).1

-- ---- what is read is spelled

-- characters whose bytes stand for themselves, before others
plain_characters : (ps cs at rest : List ℕ) → all_scalars ps ≡ true → all_plain (encode_utf8_all ps) ≡ true → SpellsCharacters cs at rest → SpellsCharacters (ps ++ cs) (encode_utf8_all ps ++ at) rest
plain_characters [] cs at rest s e h = h
plain_characters (p ∷ ps) cs at rest s e h =
    let scalars = and_parts _ (all_scalars ps) s in
    (encode_utf8_all ps ++ at, plain scalars.0 (special_from_bytes p (encode_utf8_all ps) e) (append_assoc (encode_utf8 p) (encode_utf8_all ps) at), plain_characters ps cs at rest scalars.1 (plain_right (encode_utf8 p) (encode_utf8_all ps) e) h)

pub run_ok : (at : List ℕ) (r : List ℕ × List ℕ) → run_at at ≡ Ok r → IsUtf8 (plain_front at) × ((plain_front at, behind_plain at) ≡ r)
unfolding run_at
run_ok at r e = elim (chosen (is_utf8 (plain_front at)) (Ok (plain_front at, behind_plain at)) (fails Syntax (ill_formed_at at)) (Ok r) e) [
  | inl p ↦ (IsUtf8-from_is_utf8 (plain_front at) p.0, ok_is (plain_front at, behind_plain at) r p.1)
  | inr p ↦ absurd (broken_not_ok (broken Syntax (ill_formed_at at)) r p.1)
]

pub record Escaped (made at : List ℕ) (t : (Bool × List ℕ) × List ℕ) : Type 0 where
  pub character : ℕ
  pub spelled : SpellsCharacter character at t.1
  pub turn_is : (true, made ++ encode_utf8 character) ≡ t.0

pub piece_end_sound : (made at : List ℕ) (t : (Bool × List ℕ) × List ℕ) → piece_end made at ≡ Ok t → ((at ≡ 34 ∷ t.1) × ((false, made) ≡ t.0)) ⊎ Escaped made at t
unfolding piece_end
piece_end_sound made [] t e = absurd (broken_not_ok (broken Syntax []) t e)
piece_end_sound made (b ∷ at) t e =
    elim (chosen (b == 34) (Ok ((false, made), at)) (cond (b == 92) (escape_at (broken Syntax (b ∷ at)) at >>= λ escape. Ok ((true, made ++ encode_utf8 escape.0), escape.1)) (fails Syntax (b ∷ at))) (Ok t) e) [
      | inl p ↦ (let same = ok_is ((false, made), at) t p.1 in
          inl (ap (λ (k : ℕ). k ∷ at) (eqb-true b 34 p.0) ∙ ap (λ (x : (Bool × List ℕ) × List ℕ). 34 ∷ x.1) same, ap (λ (x : (Bool × List ℕ) × List ℕ). x.0) same))
      | inr p ↦ (elim (chosen (b == 92) (escape_at (broken Syntax (b ∷ at)) at >>= λ escape. Ok ((true, made ++ encode_utf8 escape.0), escape.1)) (fails Syntax (b ∷ at)) (Ok t) p.1) [
        | inl q ↦ (let a = bind_ok (escape_at (broken Syntax (b ∷ at)) at) (λ escape. Ok ((true, made ++ encode_utf8 escape.0), escape.1)) t q.1 in
            inr (escaped b at t (eqb-true b 92 q.0) a.0 (escape_sound (broken Syntax (b ∷ at)) at a.0 a.1) (ok_is ((true, made ++ encode_utf8 a.0.0), a.0.1) t a.2)))
        | inr q ↦ absurd (broken_not_ok (broken Syntax (b ∷ at)) t q.1)
      ])
    ]
  where
    escaped : (b : ℕ) (at : List ℕ) (t : (Bool × List ℕ) × List ℕ) → b ≡ 92 → (escape : ℕ × List ℕ) → SpellsCharacter escape.0 (92 ∷ at) escape.1 → ((true, made ++ encode_utf8 escape.0), escape.1) ≡ t → Escaped made (b ∷ at) t
    escaped b at t backslash escape s same = record {
      character = escape.0;
      spelled = subst (λ (l : List ℕ). SpellsCharacter escape.0 (b ∷ at) l) (ap (λ (x : (Bool × List ℕ) × List ℕ). x.1) same) (subst (λ (k : ℕ). SpellsCharacter escape.0 (k ∷ at) escape.1) (sym backslash) s);
      turn_is = ap (λ (x : (Bool × List ℕ) × List ℕ). x.0) same;
    }

record ReadCharacters (made at bytes rest : List ℕ) : Type 0 where
  characters : List ℕ
  spelled : SpellsCharacters characters at rest
  bytes_are : made ++ encode_utf8_all characters ≡ bytes

-- the characters of a run, then others
run_then : (made at bytes rest : List ℕ) → IsUtf8 (plain_front at) → ReadCharacters (made ++ plain_front at) (behind_plain at) bytes rest → ReadCharacters made at bytes rest
run_then made at bytes rest text others =
    let ps = text.0 in
    let front : encode_utf8_all ps ≡ plain_front at = text.1.1 in
    let whole : encode_utf8_all ps ++ behind_plain at ≡ at = ap (λ (l : List ℕ). l ++ behind_plain at) front ∙ take-append-drop (plain_length at) at in
    let spelled = plain_characters ps others.characters (behind_plain at) rest text.1.0 (ap all_plain front ∙ front_plain at) others.spelled in
    record {
      characters = ps ++ others.characters;
      spelled = subst (λ (l : List ℕ). SpellsCharacters (ps ++ others.characters) l rest) whole spelled;
      bytes_are = ap (λ (l : List ℕ). made ++ l) (encodes-append ps others.characters ∙ ap (λ (l : List ℕ). l ++ encode_utf8_all others.characters) front) ∙ sym (append_assoc made (plain_front at) (encode_utf8_all others.characters)) ∙ others.bytes_are;
    }

pieces_sound : (most : ℕ) (made at : List ℕ) (r : List ℕ × List ℕ) → turns piece_at most made at ≡ Ok r → ReadCharacters made at r.0 r.1
unfolding piece_at
pieces_sound zero made at r e = absurd (broken_not_ok (broken Syntax []) r e)
pieces_sound (suc most) made at r e =
    let a = bind_ok (run_at at >>= λ run. piece_end (made ++ run.0) run.1) (λ t. cond t.0.0 (turns piece_at most t.0.1 t.1) (Ok (t.0.1, t.1))) r e in
    let b = bind_ok (run_at at) (λ run. piece_end (made ++ run.0) run.1) a.0 a.1 in
    let run = run_ok at b.0 b.1 in
    let ended : piece_end (made ++ plain_front at) (behind_plain at) ≡ Ok a.0 = ap (λ (x : List ℕ × List ℕ). piece_end (made ++ x.0) x.1) run.1 ∙ b.2 in
    run_then made at r.0 r.1 run.0 (by_end a.0 (piece_end_sound (made ++ plain_front at) (behind_plain at) a.0 ended) a.2 (λ made' at' s. pieces_sound most made' at' r s))
  where
    by_end : (t : (Bool × List ℕ) × List ℕ) → ((behind_plain at ≡ 34 ∷ t.1) × ((false, made ++ plain_front at) ≡ t.0)) ⊎ Escaped (made ++ plain_front at) (behind_plain at) t
        → cond t.0.0 (turns piece_at most t.0.1 t.1) (Ok (t.0.1, t.1)) ≡ Ok r → ((made' at' : List ℕ) → turns piece_at most made' at' ≡ Ok r → ReadCharacters made' at' r.0 r.1) → ReadCharacters (made ++ plain_front at) (behind_plain at) r.0 r.1
    by_end t (inl p) s more =
        let last : (made ++ plain_front at, t.1) ≡ r = ok_is (made ++ plain_front at, t.1) r (ap (λ (x : Bool × List ℕ). cond x.0 (turns piece_at most x.1 t.1) (Ok (x.1, t.1))) p.1 ∙ s) in
        record {
          characters = [];
          spelled = p.0 ∙ ap (λ (x : List ℕ × List ℕ). 34 ∷ x.1) last;
          bytes_are = append-nil (made ++ plain_front at) ∙ ap (λ (x : List ℕ × List ℕ). x.0) last;
        }
    by_end t (inr p) s more =
        let others = more ((made ++ plain_front at) ++ encode_utf8 p.character) t.1 (ap (λ (x : Bool × List ℕ). cond x.0 (turns piece_at most x.1 t.1) (Ok (x.1, t.1))) p.turn_is ∙ s) in
        record {
          characters = p.character ∷ others.characters;
          spelled = (t.1, p.spelled, others.spelled);
          bytes_are = sym (append_assoc (made ++ plain_front at) (encode_utf8 p.character) (encode_utf8_all others.characters)) ∙ others.bytes_are;
        }

pub string_sound : (inside : List ℕ) (r : List ℕ × List ℕ) → text_at inside ≡ Ok r → SpellsString r.0 (34 ∷ inside) r.1
unfolding text_at
string_sound inside r e =
    let read = pieces_sound (suc (length inside)) [] inside r e in
    record { inside = inside; characters = read.characters; opened = refl; spelled = read.spelled; bytes_are = read.bytes_are }

-- ---- what is spelled is read

pub piece_of_run : (made at : List ℕ) → IsUtf8 (plain_front at) → piece_at made at ≡ piece_end (made ++ plain_front at) (behind_plain at)
unfolding piece_at
piece_of_run made at text = ap (λ (r : Result (List ℕ × List ℕ) Broken). r >>= λ run. piece_end (made ++ run.0) run.1) (run_at_text at text)

record Completes (cs at rest : List ℕ) : Type 0 where
  text : IsUtf8 (plain_front at)
  read : (most : ℕ) (made : List ℕ) → length at ≤ most → turns piece_at (suc most) made at ≡ Ok (made ++ encode_utf8_all cs, rest)

turn_by : (most : ℕ) (made at : List ℕ) (p : Result ((Bool × List ℕ) × List ℕ) Broken) → piece_at made at ≡ p → turns piece_at (suc most) made at ≡ (p >>= λ t. cond t.0.0 (turns piece_at most t.0.1 t.1) (Ok (t.0.1, t.1)))
turn_by most made at p e = ap (λ (q : Result ((Bool × List ℕ) × List ℕ) Broken). q >>= λ t. cond t.0.0 (turns piece_at most t.0.1 t.1) (Ok (t.0.1, t.1))) e

quote_completes : (rest : List ℕ) → Completes [] (34 ∷ rest) rest
unfolding piece_end
quote_completes rest = record { text = IsUtf8-nil; read = λ most made le. turn_by most made (34 ∷ rest) (Ok ((false, made ++ []), rest)) (piece_of_run made (34 ∷ rest) IsUtf8-nil) }

plain_completes : (c : ℕ) (cs at behind rest : List ℕ) → IsScalar c → is_special c ≡ false → at ≡ encode_utf8 c ++ behind → Completes cs behind rest → Completes (c ∷ cs) at rest
plain_completes c cs at behind rest scalar special parts more =
    let front : plain_front at ≡ encode_utf8 c ++ plain_front behind = ap plain_front parts ∙ front_append (encode_utf8 c) behind (encode_plain c special) in
    let left : behind_plain at ≡ behind_plain behind = ap behind_plain parts ∙ behind_append (encode_utf8 c) behind (encode_plain c special) in
    let text : IsUtf8 (plain_front at) = subst IsUtf8 (sym front) (IsUtf8-append (encode_utf8 c) (plain_front behind) (IsUtf8-encode c scalar) more.text) in
    record {
      text = text;
      read = λ most made le.
          let same : piece_at made at ≡ piece_at (made ++ encode_utf8 c) behind = piece_of_run made at text ∙ ap (λ (l : List ℕ). piece_end (made ++ l) (behind_plain at)) front ∙ ap (λ (l : List ℕ). piece_end (made ++ (encode_utf8 c ++ plain_front behind)) l) left
          ∙ ap (λ (l : List ℕ). piece_end l (behind_plain behind)) (sym (append_assoc made (encode_utf8 c) (plain_front behind))) ∙ sym (piece_of_run (made ++ encode_utf8 c) behind more.text) in
          let shorter : length behind ≤ most = omega (arith, ap length parts, length-append (encode_utf8 c) behind) in
          turn_by most made at (piece_at (made ++ encode_utf8 c) behind) same ∙ more.read most (made ++ encode_utf8 c) shorter ∙ ap (λ (l : List ℕ). Ok (l, rest)) (append_assoc made (encode_utf8 c) (encode_utf8_all cs));
    }

pub escape_le : (n : ℕ) (inside : List ℕ) (c : ℕ) (behind : List ℕ) → length inside ≤ n → escape_at (broken Syntax []) inside ≡ Ok (c, behind) → length behind ≤ n
escape_le n inside c behind le e = let tame = escape_tame n (broken Syntax []) inside (omega arith) le in subst (λ (r : Result (ℕ × List ℕ) Broken). Tame n r) e tame

escape_completes : (c : ℕ) (cs at behind rest : List ℕ) → Escape c at behind → Completes cs behind rest → Completes (c ∷ cs) at rest
unfolding piece_end
escape_completes c cs at behind rest e more =
    subst (λ (l : List ℕ). Completes (c ∷ cs) l rest) (sym e.parts) (record {
      text = IsUtf8-nil;
      read = λ most made le. by_most most made le;
    })
  where
    by_most : (most : ℕ) (made : List ℕ) → length (92 ∷ e.inside) ≤ most → turns piece_at (suc most) made (92 ∷ e.inside) ≡ Ok (made ++ (encode_utf8 c ++ encode_utf8_all cs), rest)
    by_most zero made le = absurd (omega arith)
    by_most (suc most) made le =
        let read = e.read (broken Syntax (92 ∷ e.inside)) in
        let shorter : length behind ≤ most = escape_le most e.inside c behind (omega arith) (e.read (broken Syntax [])) in
        let piece : piece_at made (92 ∷ e.inside) ≡ Ok ((true, (made ++ []) ++ encode_utf8 c), behind) =
        piece_of_run made (92 ∷ e.inside) IsUtf8-nil ∙ ap (λ (r : Result (ℕ × List ℕ) Broken). r >>= λ escape. Ok ((true, (made ++ []) ++ encode_utf8 escape.0), escape.1)) read in
        turn_by (suc most) made (92 ∷ e.inside) (Ok ((true, (made ++ []) ++ encode_utf8 c), behind)) piece ∙ more.read most ((made ++ []) ++ encode_utf8 c) shorter
        ∙ ap (λ (l : List ℕ). Ok (l, rest)) (ap (λ (l : List ℕ). (l ++ encode_utf8 c) ++ encode_utf8_all cs) (append-nil made) ∙ append_assoc made (encode_utf8 c) (encode_utf8_all cs))

characters_complete : (cs at rest : List ℕ) → SpellsCharacters cs at rest → Completes cs at rest
characters_complete [] at rest s = subst (λ (l : List ℕ). Completes [] l rest) (sym s) (quote_completes rest)
characters_complete (c ∷ cs) at rest s = by_kind (character_cases c at s.0 s.1) (characters_complete cs s.0 rest s.2)
  where
    by_kind : (IsScalar c × (is_special c ≡ false) × (at ≡ encode_utf8 c ++ s.0)) ⊎ Escape c at s.0 → Completes cs s.0 rest → Completes (c ∷ cs) at rest
    by_kind (inl p) more = plain_completes c cs at s.0 rest p.0 p.1 p.2 more
    by_kind (inr e) more = escape_completes c cs at s.0 rest e more

pub text_complete : (bytes at rest : List ℕ) (s : SpellsString bytes at rest) → text_at s.inside ≡ Ok (bytes, rest)
unfolding text_at
text_complete bytes at rest s = (characters_complete s.characters s.inside rest s.spelled).read (length s.inside) [] (omega arith) ∙ ap (λ (l : List ℕ). Ok (l, rest)) s.bytes_are
