-- Writes one after another.
use Rattle.std.proofs.Common.{◌≡◌, ℕ, ◌+◌, ◌-◌, List, ◌++◌, Option, None, Some, length, take, drop, sym, ap, ◌∙◌, subst, arith, append_assoc, length-append, take-add, take_all, length-drop}
use Rattle.jb_io.specs.Sink.{Takes, Told}

pub Takes-trans : (a b c : Option Told) (xs ys : List ℕ) → Takes a b xs → Takes b c ys → Takes a c (xs ++ ys)
Takes-trans None None None xs ys first second = tt
Takes-trans None None (Some w) xs ys first second = absurd second
Takes-trans None (Some v) c xs ys first second = absurd first
Takes-trans (Some u) None None xs ys first second = omega (arith, length-append xs ys)
Takes-trans (Some u) (Some v) None xs ys first second = omega (arith, length-append xs ys)
Takes-trans (Some u) None (Some w) xs ys first second = absurd second
Takes-trans (Some u) (Some v) (Some w) xs ys first second =
    (second.0 ∙ ap (λ l. l ++ ys) first.0 ∙ append_assoc u.bytes xs ys, omega (arith, length-append xs ys))

-- a write that was handed all that was left
pub Takes-more : (a b c : Option Told) (bytes : List ℕ) (at count : ℕ) → Takes a b (take at bytes)
    → Takes b c (take count (take (length bytes - at) (drop at bytes))) → Takes a c (take (at + count) bytes)
Takes-more a b c bytes at count first second =
    let rest : take (length bytes - at) (drop at bytes) ≡ drop at bytes =
    take_all (length bytes - at) (drop at bytes) (omega (arith, length-drop at bytes)) in
    let next : Takes b c (take count (drop at bytes)) = subst (λ (l : List ℕ). Takes b c (take count l)) rest second in
    subst (Takes a c) (sym (take-add at count bytes)) (Takes-trans a b c (take at bytes) (take count (drop at bytes)) first next)
