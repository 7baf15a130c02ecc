-- What holds of the places in a value: what was put in one is found there, one that was made is there, and one that is there
-- is made as it stands.
use Rattle.std.proofs.Common.{◌≡◌, ◌∙◌, ap, sym, subst, refl, rules, arith, ℕ, zero, suc, Bool, true, false, cond, nat_lt}
use Rattle.std.proofs.Common.{List, [], ◌∷◌, ◌++◌}
use Rattle.std.proofs.Common.{length, slice_get, slice_set, Option, Some, None, IsSome, is_some, option_and_then, Result, Ok, Err, if◌then◌else◌}
use Rattle.std.specs.Str.{bytes_eq}
use Rattle.std.specs.Map.{lookup, set_value}
use Rattle.std.specs.Cmp.Lexicographic.{nat_list_eq_equiv}
use Rattle.std.proofs.lemmas.Bool.Decides.{nat_tests}
use Rattle.std.proofs.lemmas.Map.{lookup-set_value}
use Rattle.std.proofs.lemmas.Slice.Eq.{bytes_eq-Decides}
use Rattle.jb_tree.specs.Index.{item_at, item_put, item_put_at, with_item, with_item_at}
use Rattle.jb_tree.specs.Index.{member_at, member_put, member_put_at, with_member, with_member_at, with_key}
use Rattle.jb_tree.specs.Value.{items_at, members_at, array_items, object_members}
use Rattle.jb_tree.specs.declared.index.IndexError.{IndexError}
use Rattle.jb_tree.specs.declared.index.IndexError.TheVariants.{NoPlace}
use Rattle.jb_tree.specs.declared.value.Value.{Value, out-Value, roll-Value, Null, Array, Object, the_lemmas}
use Rattle.jb_tree.specs.declared.value.Value.TheOpen.{Value-F}

abbrev Pairs : Type 0
Pairs = List (List ℕ × Value)

-- ---- items

items-Array : (items : List Value) → array_items (Array items) ≡ Some items
items-Array items = search (rules, the_lemmas)

set_found : (items : List Value) (place : ℕ) (w : Value) → IsSome (slice_get items place) → slice_get (slice_set items place w) place ≡ Some w
set_found [] place w there = absurd (cc)
set_found (x ∷ xs) zero w there = refl
set_found (x ∷ xs) (suc place) w there = set_found xs place w there

item_put_in : (place : ℕ) (x : Value-F Value) (v w : Value) → IsSome (option_and_then (λ items. slice_get items place) (items_at x))
    → item_at place (item_put_at place x v w) ≡ Some w
item_put_in place (Value-F.Array items) v w there =
    ap (option_and_then (λ found. slice_get found place)) (items-Array (slice_set items place w)) ∙ set_found items place w there
item_put_in place x v w there = absurd (cc)

pub item_put_found : (place : ℕ) (v w : Value) → IsSome (item_at place v) → item_at place (item_put place v w) ≡ Some w
item_put_found place v w there = item_put_in place (out-Value v) v w there

get_below : (items : List Value) (place : ℕ) → nat_lt place (length items) ≡ true → IsSome (slice_get items place)
get_below [] place below = absurd (grind (below, arith, nat_tests))
get_below (x ∷ xs) zero below = refl
get_below (x ∷ xs) (suc place) below = get_below xs place (grind (below, arith, nat_tests))

below_get : (items : List Value) (place : ℕ) → IsSome (slice_get items place) → nat_lt place (length items) ≡ true
below_get [] place there = absurd (cc)
below_get (x ∷ xs) zero there = grind (arith, nat_tests)
below_get (x ∷ xs) (suc place) there = let below : nat_lt place (length xs) ≡ true = below_get xs place there in grind (below, arith, nat_tests)

chosen : (b : Bool) (e : IndexError) (v made : Value) → (if b then Ok v else Err e) ≡ Ok made → (b ≡ true) × (made ≡ v)
chosen true e v made is = (refl, cc)
chosen false e v made is = absurd (cc)

item_made_in : (place : ℕ) (x : Value-F Value) (v made : Value) → with_item_at place x v ≡ Ok made
    → (made ≡ v) × IsSome (option_and_then (λ items. slice_get items place) (items_at x))
item_made_in place (Value-F.Array items) v made is =
    let kept = chosen (nat_lt place (length items)) _ v made is in
    (kept.1, get_below items place kept.0)
item_made_in place x v made is = absurd (cc)

pub item_made_found : (place : ℕ) (v made : Value) → with_item place v ≡ Ok made → IsSome (item_at place made)
item_made_found place v made is =
    let kept = item_made_in place (out-Value v) v made is in
    subst (λ (w : Value). IsSome (item_at place w)) (sym kept.0) kept.1

item_kept_in : (place : ℕ) (x : Value-F Value) (v : Value) → IsSome (option_and_then (λ items. slice_get items place) (items_at x))
    → with_item_at place x v ≡ Ok v
item_kept_in place (Value-F.Array items) v there = ap (λ b. if b then Ok v else Err (NoPlace place (length items))) (below_get items place there)
item_kept_in place x v there = absurd (cc)

pub item_found_kept : (place : ℕ) (v : Value) → IsSome (item_at place v) → with_item place v ≡ Ok v
item_found_kept place v there = item_kept_in place (out-Value v) v there

-- ---- members

members-Object : (members : Pairs) → object_members (Object members) ≡ Some members
members-Object members = search (rules, the_lemmas)

same_key : (key k : List ℕ) → bytes_eq key k ≡ true → key ≡ k
same_key key k is = (bytes_eq-Decides key k).0 is

own_key : (key : List ℕ) → bytes_eq key key ≡ true
own_key key = (bytes_eq-Decides key key).1 refl

value_found : (key : List ℕ) (members : Pairs) (w : Value) → IsSome (lookup (bytes_eq key) members)
    → lookup (bytes_eq key) (set_value (bytes_eq key) members w) ≡ Some w
value_found key members w there =
    lookup-set_value nat_list_eq_equiv (bytes_eq key) (λ x y is. ap (λ k. bytes_eq k y) (same_key key x is)) key w members there
    ∙ ap (λ b. cond b (Some w) (lookup (bytes_eq key) members)) (own_key key)

member_put_in : (key : List ℕ) (x : Value-F Value) (v w : Value) → IsSome (option_and_then (lookup (bytes_eq key)) (members_at x))
    → member_at key (member_put_at key x v w) ≡ Some w
member_put_in key (Value-F.Object members) v w there =
    ap (option_and_then (lookup (bytes_eq key))) (members-Object (set_value (bytes_eq key) members w)) ∙ value_found key members w there
member_put_in key x v w there = absurd (cc)

pub member_put_found : (key : List ℕ) (v w : Value) → IsSome (member_at key v) → member_at key (member_put key v w) ≡ Some w
member_put_found key v w there = member_put_in key (out-Value v) v w there

lookup-chosen : (b : Bool) (v : Value) (r : Option Value) → is_some r ≡ true → is_some (cond b (Some v) r) ≡ true
lookup-chosen true v r h = refl
lookup-chosen false v r h = h

-- a pair that was put last is found by its key
lookup-pushed : (key : List ℕ) (es : Pairs) (v : Value) → is_some (lookup (bytes_eq key) (es ++ (key, v) ∷ [])) ≡ true
lookup-pushed key [] v = ap (λ b. is_some (cond b (Some v) None)) (own_key key)
lookup-pushed key (e ∷ es) v = lookup-chosen (bytes_eq key e.0) e.1 (lookup (bytes_eq key) (es ++ (key, v) ∷ [])) (lookup-pushed key es v)

either : (b : Bool) (key : List ℕ) (es fs : Pairs) → is_some (lookup (bytes_eq key) es) ≡ b → is_some (lookup (bytes_eq key) fs) ≡ true
    → is_some (lookup (bytes_eq key) (if b then es else fs)) ≡ true
either true key es fs p q = p
either false key es fs p q = q

pub there-with_key : (key : List ℕ) (es : Pairs) → IsSome (lookup (bytes_eq key) (with_key key es))
there-with_key key es = either (is_some (lookup (bytes_eq key) es)) key es (es ++ (key, Null) ∷ []) refl (lookup-pushed key es Null)

member_of : (key : List ℕ) (members : Pairs) → IsSome (lookup (bytes_eq key) members) → IsSome (member_at key (Object members))
member_of key members there =
    subst (λ (found : Option Pairs). IsSome (option_and_then (lookup (bytes_eq key)) found)) (sym (members-Object members)) there

member_made_in : (key : List ℕ) (x : Value-F Value) (made : Value) → with_member_at key x ≡ Ok made → IsSome (member_at key made)
member_made_in key Value-F.Null made is =
    let object : Object ((key, Null) ∷ []) ≡ made = cc in
    subst (λ (w : Value). IsSome (member_at key w)) object (member_of key ((key, Null) ∷ []) (lookup-pushed key [] Null))
member_made_in key (Value-F.Object members) made is =
    let object : Object (with_key key members) ≡ made = cc in
    subst (λ (w : Value). IsSome (member_at key w)) object (member_of key (with_key key members) (there-with_key key members))
member_made_in key x made is = absurd (cc)

pub member_made_found : (key : List ℕ) (v made : Value) → with_member key v ≡ Ok made → IsSome (member_at key made)
member_made_found key v made is = member_made_in key (out-Value v) made is

member_kept_in : (key : List ℕ) (x : Value-F Value) → IsSome (option_and_then (lookup (bytes_eq key)) (members_at x))
    → with_member_at key x ≡ Ok (roll-Value x)
member_kept_in key (Value-F.Object members) there =
    let rolled : Object members ≡ roll-Value (Value-F.Object members) = search (rules, the_lemmas) in
    ap (λ b. Ok (Object (if b then members else members ++ (key, Null) ∷ []))) there ∙ ap Ok rolled
member_kept_in key x there = absurd (cc)

pub member_found_kept : (key : List ℕ) (v : Value) → IsSome (member_at key v) → with_member key v ≡ Ok v
member_found_kept key v there =
    let opened : roll-Value (out-Value v) ≡ v = search (rules, the_lemmas) in
    member_kept_in key (out-Value v) there ∙ ap Ok opened
