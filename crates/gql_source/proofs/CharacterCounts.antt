-- Counts of characters: up to an offset and from there on, and at marks.
use Rattle.std.proofs.Common.{◌≡◌, ℕ, ◌+◌, ◌-◌, ◌*◌, ◌≤◌, List, [], ◌∷◌, ◌++◌, length, take, drop, get_or, sym, ◌∙◌, ap, arith}
use Rattle.std.proofs.lemmas.List.{take-append-drop, take-take, drop-take, length-take}
use Rattle.std.proofs.lemmas.List.FromFn.{length-map-range_with_len, get_or-map-range_with_len, map-range_with_len_more}
use Rattle.std.proofs.lemmas.List.Sums.{sum_by-append, count_by-le-length}
use Rattle.std.specs.Prelude.{slice_range, cond}
use Rattle.std.specs.List.{count_by}
use Rattle.gql_source.specs.Lines.{begins_character}
use Rattle.gql_source.specs.bridge.Characters.{characters_before, step, counts_at_marks}

front : (text : List ℕ) (a b : ℕ) → a ≤ b → take b text ≡ take a text ++ slice_range text a b
front text a b h =
    let e : a + (b - a) ≡ b = omega arith in
    let behind : drop a (take b text) ≡ take (b - a) (drop a text) = rw e at (drop-take a (b - a) text) in
    sym (take-append-drop a (take b text)) ∙ ap (λ l. l ++ drop a (take b text)) (take-take a b text h) ∙ ap (λ l. take a text ++ l) behind

pub characters_before-split : (text : List ℕ) (a b : ℕ) → a ≤ b → characters_before text b ≡ characters_before text a + count_by begins_character (slice_range text a b)
characters_before-split text a b h =
    ap (count_by begins_character) (front text a b h) ∙ sum_by-append (λ byte. cond (begins_character byte) 1 0) (take a text) (slice_range text a b)

pub counts-more : (text : List ℕ) (mark : ℕ) → counts_at_marks text (mark + 1) ≡ counts_at_marks text mark ++ characters_before text ((mark + 1) * step) ∷ []
unfolding counts_at_marks
counts-more text mark = map-range_with_len_more (λ mark. characters_before text (mark * step)) 0 (mark + 1) (mark + 1) (omega arith)

pub count-at : (text : List ℕ) (mark last d : ℕ) → mark ≤ last → get_or (counts_at_marks text last) mark d ≡ characters_before text (mark * step)
unfolding counts_at_marks
count-at text mark last d h = get_or-map-range_with_len (λ mark. characters_before text (mark * step)) 0 (last + 1) mark mark d (omega arith) (omega arith)

pub length-counts : (text : List ℕ) (last : ℕ) → length (counts_at_marks text last) ≡ last + 1
unfolding counts_at_marks
length-counts text last = length-map-range_with_len (λ mark. characters_before text (mark * step)) 0 (last + 1)

pub characters_before-le : (text : List ℕ) (offset : ℕ) → characters_before text offset ≤ offset
characters_before-le text offset = omega (arith, count_by-le-length begins_character (take offset text), length-take offset text)
