-- Lines end only at the bytes LF and CR, so no other place of a text has to be looked at.
use Rattle.std.proofs.Common.{◌≡◌, ℕ, zero, suc, ◌+◌, Bool, true, false, cond, not, ◌&&◌, ◌||◌, ◌==◌, List, [], ◌∷◌, ◌++◌, map, refl, sym, ◌∙◌, ap}
use Rattle.std.specs.Prelude.{slice_index}
use Rattle.std.proofs.lemmas.List.{append_assoc}
use Rattle.std.specs.List.{filter, range_with_len}
use Rattle.memchr.specs.Find.{is_byte2, places_from}
use Rattle.gql_source.specs.Lines.{ends_line, line_feed, carriage_return}

no_end : (text : List ℕ) (at : ℕ) → is_byte2 line_feed carriage_return (slice_index text at) ≡ false → ends_line text at ≡ false
no_end text at h =
    let x = slice_index text at in
    let rest = not (slice_index text (at + 1) == line_feed) in
    (elim (x == line_feed) as (λ a. (b : Bool) → (a || b) ≡ false → (a || (b && rest)) ≡ false) [
      | true ↦ λ b e. e
      | false ↦ λ b e. elim b as (λ b. (b ≡ false) → (b && rest) ≡ false) [
        | true ↦ λ e. absurd cc
        | false ↦ λ e. refl
      ] e
    ]) (x == carriage_return) h

-- the ends of lines among n places, and among those of them at an LF or a CR
pub ends_at_places : (text : List ℕ) (at n : ℕ)
    → filter (ends_line text) (range_with_len at n) ≡ filter (ends_line text) (places_from (is_byte2 line_feed carriage_return) text at n)
unfolding places_from
ends_at_places text at zero = refl
ends_at_places text at (suc n) =
    let later = places_from (is_byte2 line_feed carriage_return) text (at + 1) n in
    let same = ends_at_places text (at + 1) n in
    (elim (is_byte2 line_feed carriage_return (slice_index text at)) as (λ b. is_byte2 line_feed carriage_return (slice_index text at) ≡ b
    → filter (ends_line text) (at ∷ range_with_len (at + 1) n) ≡ filter (ends_line text) (cond b (at ∷ later) later)) [
      | true ↦ λ _. ap (λ l. cond (ends_line text at) (at ∷ l) l) same
      | false ↦ λ h. ap (λ b. cond b (at ∷ filter (ends_line text) (range_with_len (at + 1) n)) (filter (ends_line text) (range_with_len (at + 1) n))) (no_end text at h) ∙ same
    ]) refl

-- the start behind an end goes to those that are there, and no other
pub starts_on : (text starts : List ℕ) (at : ℕ) (left : List ℕ) → ends_line text at ≡ true
    → starts ++ map (λ at. at + 1) (filter (ends_line text) (at ∷ left)) ≡ (starts ++ (at + 1) ∷ []) ++ map (λ at. at + 1) (filter (ends_line text) left)
starts_on text starts at left h =
    ap (λ b. starts ++ map (λ at. at + 1) (cond b (at ∷ filter (ends_line text) left) (filter (ends_line text) left))) h
    ∙ sym (append_assoc starts ((at + 1) ∷ []) (map (λ at. at + 1) (filter (ends_line text) left)))

pub starts_off : (text starts : List ℕ) (at : ℕ) (left : List ℕ) → ends_line text at ≡ false
    → starts ++ map (λ at. at + 1) (filter (ends_line text) (at ∷ left)) ≡ starts ++ map (λ at. at + 1) (filter (ends_line text) left)
starts_off text starts at left h =
    ap (λ b. starts ++ map (λ at. at + 1) (cond b (at ∷ filter (ends_line text) left) (filter (ends_line text) left))) h
