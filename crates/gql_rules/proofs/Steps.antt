-- One more of some things of which something is listed.
use Rattle.std.proofs.Common.{◌≡◌, ℕ, ◌+◌, ◌<◌, List, ◌∷◌, ◌++◌, length, drop, get_or, sym, ap, ◌∙◌, append_assoc, arith, suc, drop-cons}
use Rattle.std.specs.List.{flat_map}

pub flat-step : {X Y : Type 0} (f : X → List Y) (xs : List X) (i : ℕ) (x : X) (before new all : List Y) → i < length xs → x ≡ get_or xs i x
    → new ≡ before ++ f x → before ++ flat_map f (drop i xs) ≡ all → new ++ flat_map f (drop (i + 1) xs) ≡ all
flat-step f xs i x before new all within is added so_far =
    let next : suc i ≡ i + 1 = omega arith in
    let rest = flat_map f (drop (i + 1) xs) in
    let first : drop i xs ≡ x ∷ drop (i + 1) xs = drop-cons xs i x within ∙ ap (λ y. y ∷ drop (suc i) xs) (sym is) ∙ ap (λ n. x ∷ drop n xs) next in
    ap (λ l. l ++ rest) added ∙ append_assoc before (f x) rest ∙ ap (λ l. before ++ flat_map f l) (sym first) ∙ so_far
