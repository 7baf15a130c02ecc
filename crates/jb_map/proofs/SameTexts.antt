-- Two texts, compared byte by byte.
use Rattle.std.proofs.Common.{◌≡◌, ℕ, ◌+◌, ◌<◌, true, nat_eq, ◌&&◌, List, length, drop, ap, ap₂, ◌∙◌, arith}
use Rattle.std.specs.Str.{bytes_eq}
use Rattle.std.specs.List.{slice_index_or}
use Rattle.std.proofs.lemmas.Bool.Decides.{nat_tests}
use Rattle.std.proofs.lemmas.List.{drop_more}

same_byte : (left right : ℕ) → left ≡ right → nat_eq left right ≡ true
same_byte left right same = grind (arith, nat_tests)

-- behind two bytes that are the same, the rest decides
pub same_behind : (left right : List ℕ) (at : ℕ) → at < length left → at < length right → slice_index_or left at 0 ≡ slice_index_or right at 0 → bytes_eq (drop at left) (drop at right) ≡ bytes_eq (drop (at + 1) left) (drop (at + 1) right)
same_behind left right at within fits same =
    ap₂ bytes_eq (drop_more left at 0 within) (drop_more right at 0 fits)
    ∙ ap (λ equal. equal && bytes_eq (drop (at + 1) left) (drop (at + 1) right)) (same_byte _ _ same)
