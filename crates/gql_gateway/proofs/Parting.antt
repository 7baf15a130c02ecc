-- What is left of selections, one after the other.
use Rattle.std.proofs.Common.{arith, ◌≡◌, ℕ, zero, suc, ◌+◌, ◌<◌, ◌≤◌, List, [], ◌∷◌, ◌++◌, drop, length, get_or, append_assoc, append-nil, refl, sym, ap, ◌∙◌}
use Rattle.std.specs.List.{flat_map}
use Rattle.std.proofs.Math.ListN.{drop_of_length-le}
use Rattle.gql_gateway.specs.Concrete.{concrete_at, concrete_within, concrete}
use Rattle.gql_document_types.proofs.Counts.{drop-item}
use Rattle.gql_document_types.specs.declared.selection.Selection.{Selection, out-Selection}
use Rattle.gql_collect.specs.Sizes.{own, size}

abbrev pub IsPartedSoFar : List Selection → List Selection → List Selection → Type 0
IsPartedSoFar whole made left = (n : ℕ) → size whole < suc n → made ++ concrete_within (suc n) left ≡ concrete_within (suc n) whole

size-drop : (xs : List Selection) (k : ℕ) → size (drop k xs) ≤ size xs
size-drop [] zero = omega arith
size-drop [] (suc k) = omega arith
size-drop (x ∷ xs) zero = omega arith
size-drop (x ∷ xs) (suc k) = omega (arith, size-drop xs k)

pub own-less : (whole items : List Selection) (i : ℕ) (s : Selection) → items ≡ whole → i < length items → s ≡ get_or items i s → own s ≤ size whole
own-less whole items i s same within is =
    omega (arith, ap (λ l. size l) same, size-drop items i, ap (λ l. size l) (drop-item items i s within is))

pub part-next : (whole items made : List Selection) (i : ℕ) (s : Selection) (made' : List Selection) → items ≡ whole → i < length items → s ≡ get_or items i s
    → ((n : ℕ) → own s ≤ n → made' ≡ made ++ concrete_at (concrete_within n) (out-Selection s))
    → IsPartedSoFar whole made (drop i items) → IsPartedSoFar whole made' (drop (i + 1) items)
part-next whole items made i s made' same within is one so_far n small =
    let this = concrete_at (concrete_within n) (out-Selection s) in
    let rest = concrete_within (suc n) (drop (i + 1) items) in
    ap (λ l. l ++ rest) (one n (omega (arith, small, own-less whole items i s same within is)))
    ∙ append_assoc made this rest
    ∙ ap (λ l. made ++ concrete_within (suc n) l) (sym (drop-item items i s within is))
    ∙ so_far n small

pub part-end : (whole items made : List Selection) (i : ℕ) → length items ≤ i → IsPartedSoFar whole made (drop i items)
    → (n : ℕ) → size whole < n → made ≡ concrete_within n whole
part-end whole items made i past so_far zero small = absurd (omega (arith, small))
part-end whole items made i past so_far (suc n) small =
    sym (append-nil made) ∙ ap (λ l. made ++ concrete_within (suc n) l) (sym (drop_of_length-le items past)) ∙ so_far n small

-- with room for all
pub concrete-is : (made ss : List Selection) → ((n : ℕ) → size ss < n → made ≡ concrete_within n ss) → made ≡ concrete ss
unfolding concrete
concrete-is made ss is = is (suc (size ss)) (omega arith)
