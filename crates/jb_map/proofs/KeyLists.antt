-- Lists of distinct keys, and the table that notes them.
use Rattle.std.proofs.Common.{◌≡◌, ℕ, zero, suc, ◌<◌, List, [], ◌∷◌, ◌++◌, length, get_or, map, take, position, swap_remove, None, Option, IfSome, Box, refl, sym, ap, ◌∙◌, subst, arith}
use Rattle.std.specs.Str.{bytes_eq}
use Rattle.std.specs.List.{IsDistinct}
use Rattle.std.specs.Map.{keys_of}
use Rattle.std.specs.declared.alloc.Global.{Global}
use Rattle.std.specs.Cmp.Lexicographic.{nat_list_eq_equiv}
use Rattle.std.specs.List.{take-map}
use Rattle.std.proofs.lemmas.List.{length-map}
use Rattle.std.proofs.lemmas.List.Sorted.{IsPermutation-swap_remove}
use Rattle.std.proofs.lemmas.Map.Keys.{IsDistinct-push, IsDistinct-tail, IsDistinct-IsPermutation}
use Rattle.jb_map.proofs.Entries.{new_at_place}
use Rattle.jb_map.proofs.Positions.{absent_from_position, none_any, beside, keys_back}

pub none_distinct : (ks : List (List ℕ)) → ks ≡ [] → IsDistinct bytes_eq ks
unfolding IsDistinct
none_distinct ks e = subst (IsDistinct bytes_eq) (sym e) tt

-- one more key, which is new
pub pushed_distinct : (ks : List (List ℕ)) (k : List ℕ) → IsDistinct bytes_eq ks → position (bytes_eq k) ks ≡ None → IsDistinct bytes_eq (ks ++ k ∷ [])
pushed_distinct ks k distinct absent = IsDistinct-push nat_list_eq_equiv ks k distinct (none_any (bytes_eq k) ks (absent_from_position (bytes_eq k) ks absent))

-- one less
pub removed_distinct : (ks : List (List ℕ)) (i : ℕ) (k : List ℕ) → i < length ks → k ≡ get_or ks i k → IsDistinct bytes_eq ks → IsDistinct bytes_eq (swap_remove ks i k)
removed_distinct ks i k within at distinct =
    IsDistinct-tail bytes_eq k (swap_remove ks i k) (IsDistinct-IsPermutation bytes_eq nat_list_eq_equiv.symm ks (k ∷ swap_remove ks i k) (IsPermutation-swap_remove ks i k within at) distinct)

beside_at : (ks : List (List ℕ)) (i : ℕ) (k : List ℕ) → i < length ks → k ≡ get_or ks i k → beside k ≡ get_or (map beside ks) i (beside k)
beside_at [] i k within at = refl
beside_at (x ∷ ks) zero k within at = ap beside at
beside_at (x ∷ ks) (suc i) k within at = beside_at ks i k (omega arith) at

-- the key at a place is none of those before it
pub new_key : (ks : List (List ℕ)) (i : ℕ) (k : List ℕ) → i < length ks → k ≡ get_or ks i k → IsDistinct bytes_eq ks → position (bytes_eq k) (take i ks) ≡ None
new_key ks i k within at distinct =
    let es = map beside ks in
    let first = new_at_place es i (beside k) (omega (arith, length-map ks beside)) (beside_at ks i k within at) (subst (IsDistinct bytes_eq) (sym (keys_back ks)) distinct) in
    ap (position (bytes_eq k)) (sym (ap keys_of (take-map beside i ks) ∙ keys_back (take i ks))) ∙ first

-- the keys are distinct, and a table that is there has just them
abbrev pub Tabled : Option (Box (List (List ℕ)) Global) → List (List ℕ) → Type 0
Tabled t ks = IsDistinct bytes_eq ks × IfSome t (λ b. b.value ≡ ks)
