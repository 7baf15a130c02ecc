-- The lines of a text, one after the other: where each ends, and what comes behind it.
use Rattle.std.proofs.Common.{◌≡◌, ℕ, suc, ◌+◌, Bool, true, false, cond, [], ◌∷◌, take, drop, refl, arith}
use Rattle.std.specs.Prelude.{if◌then◌else◌, ◌==◌, slice_index}
use Rattle.std.specs.List.{prefix_len}
use Rattle.std.proofs.lemmas.Bool.{eqb-true, ne_eqb}
use Rattle.gql_lexer.specs.Class.{Text, is_within_line}
use Rattle.gql_lexer.specs.BlockString.{is_cr_lf, lines, before_first}
use Rattle.gql_lexer.specs.bridge.BlockWriting.{end_len, following}
use Rattle.gql_lexer.proofs.Choices.{both}

-- ---- lines

-- what ends no line does not begin CR LF
cr_ends : (b : ℕ) (at : Text) → is_within_line b ≡ true → is_cr_lf (b ∷ at) ≡ true → ⊥
cr_ends b at within ends =
    let p = both (b == 0x0D) (slice_index (b ∷ at) 1 == 0x0A) ends in
    let e : b ≡ 0x0D = eqb-true b 0x0D p.0 in
    let f : false ≡ true = rw e at within in cc

lines-lf : (at : Text) → slice_index at 0 ≡ 0x0A → lines at ≡ [] ∷ lines (drop 1 at)
lines-lf [] h = absurd (omega arith)
lines-lf (b ∷ at) h = rw h refl

first-rest : (b : ℕ) (at : Text) (v w : Bool) → is_within_line b ≡ v → is_cr_lf (b ∷ at) ≡ w
    → lines at ≡ take (prefix_len is_within_line at) at ∷ following (drop (prefix_len is_within_line at) at)
    → (if w then lines at else if v then before_first b (lines at) else [] ∷ lines at)
    ≡ take (cond v (1 + prefix_len is_within_line at) 0) (b ∷ at) ∷ following (drop (cond v (1 + prefix_len is_within_line at) 0) (b ∷ at))
unfolding following
first-rest b at true true within ends more = absurd (cr_ends b at within ends)
first-rest b at true false within ends more =
    let e : 1 + prefix_len is_within_line at ≡ suc (prefix_len is_within_line at) = omega arith in
    rw (e, more) refl
first-rest b at false true within ends more =
    let p = both (b == 0x0D) (slice_index at 0 == 0x0A) ends in
    rw ends (lines-lf at (eqb-true (slice_index at 0) 0x0A p.1))
first-rest b at false false within ends more = rw ends refl

lines-none : lines [] ≡ [] ∷ following []
unfolding following
lines-none = refl

-- the first line, and those behind it
pub lines-split : (s : Text) → lines s ≡ take (prefix_len is_within_line s) s ∷ following (drop (prefix_len is_within_line s) s)
lines-split [] = lines-none
lines-split (b ∷ at) = first-rest b at (is_within_line b) (is_cr_lf (b ∷ at)) refl refl (lines-split at)

pub following-none : (behind : Text) → end_len behind ≡ 0 → following behind ≡ []
unfolding following
following-none behind h = rw h refl

pub following-some : (behind : Text) → (end_len behind ≡ 0 → ⊥) → following behind ≡ lines (drop (end_len behind) behind)
unfolding following
following-some behind h = rw (ne_eqb (end_len behind) 0 h) refl
