-- Equality of values, level by level.
use Rattle.std.proofs.Common.{◌≡◌, ℕ, ℤ, Bool, true, false, ◌&&◌, pos, negsuc, List, [], ◌∷◌, map, Some, true≢false, arith, sym, ap, subst, rules, refl, ◌∙◌}
use Rattle.std.specs.Cmp.Lexicographic.{pointwise}
use Rattle.std.specs.Str.{bytes_eq}
use Rattle.std.proofs.lemmas.Slice.Eq.{bytes_eq-Decides}
use Rattle.jb_map.specs.formers.pairs.Pairs.{by_key-map}
use Rattle.jb_map.specs.ByKey.{same_pair, same_pairs, by_key}
use Rattle.jb_tree.specs.Value.{array_items, object_members, truth_value, whole_number, string_text}
use Rattle.jb_tree.specs.declared.value.Value.TheFolds.{ind-Value, map-Value}
use Rattle.jb_tree.specs.declared.value.Value.{Value, roll-Value, out-Value, the_lemmas}
use Rattle.jb_tree.specs.declared.value.Value.TheOpen.{Value-F}
use Rattle.jb_tree.specs.contracts.value.ValuePartialEq.TheImpl.{ghosts}
use Rattle.std.specs.Bool.{Decides}
use Rattle.std_collections.specs.Layout.Former.{on_value}
use Rattle.std.specs.contracts.prelude.BoolPartialEq.TheImpl as bools
use Rattle.jb_text.specs.contracts.number.NumberPartialEq.TheImpl as numbers
use Rattle.jb_tree.specs.Same.{sorted}
use Rattle.jb_tree.specs.contracts.value.ValuePartialEq.TheImpl.Laws as laws

pub eq-Object : (es fs : List (List ℕ × Value)) → ghosts.eq (roll-Value (Value-F.Object es)) (roll-Value (Value-F.Object fs)) ≡ same_pairs ghosts.eq es fs
eq-Object es fs = laws.is _ _ ∙ search (rules, the_lemmas)

pub eq-Array : (es fs : List Value) → ghosts.eq (roll-Value (Value-F.Array es)) (roll-Value (Value-F.Array fs)) ≡ pointwise ghosts.eq es fs
eq-Array es fs = laws.is _ _ ∙ search (rules, the_lemmas)

pub eq-String : (es fs : List ℕ) → ghosts.eq (roll-Value (Value-F.String es)) (roll-Value (Value-F.String fs)) ≡ bytes_eq es fs
eq-String es fs = laws.is _ _ ∙ search (rules, the_lemmas)

pub eq-Number : (x y : ℤ) → ghosts.eq (roll-Value (Value-F.Number x)) (roll-Value (Value-F.Number y)) ≡ numbers.ghosts.eq x y
eq-Number x y = laws.is _ _ ∙ search (rules, the_lemmas)

pub eq-Bool : (a b : Bool) → ghosts.eq (roll-Value (Value-F.Bool a)) (roll-Value (Value-F.Bool b)) ≡ bools.ghosts.eq a b
eq-Bool a b = laws.is _ _ ∙ search (rules, the_lemmas)

pub number_decides : (x y : ℤ) → Decides (numbers.ghosts.eq x y) (x ≡ y)
number_decides (pos m) (pos n) = search (rules, the_lemmas)
number_decides (pos m) (negsuc n) = search (rules, the_lemmas)
number_decides (negsuc m) (pos n) = search (rules, the_lemmas)
number_decides (negsuc m) (negsuc n) = search (rules, the_lemmas)

pub bool_decides : (a b : Bool) → Decides (bools.ghosts.eq a b) (a ≡ b)
bool_decides true true = (λ _. refl, λ _. refl)
bool_decides true false = (λ e. cc, λ e. cc)
bool_decides false true = (λ e. cc, λ e. cc)
bool_decides false false = (λ _. refl, λ _. refl)

abbrev kind : {A : Type 0} → Value-F A → ℕ
kind Value-F.Null = 0
kind (Value-F.Bool b) = 1
kind (Value-F.Number z) = 2
kind (Value-F.String s) = 3
kind (Value-F.Array es) = 4
kind (Value-F.Object es) = 5

pub sorted-Array : (es : List Value) → sorted (roll-Value (Value-F.Array es)) ≡ roll-Value (Value-F.Array (map sorted es))
sorted-Array es = search (rules, the_lemmas)

pub sorted-Object : (es : List (List ℕ × Value)) → sorted (roll-Value (Value-F.Object es)) ≡ roll-Value (Value-F.Object (by_key (map (on_value sorted) es)))
sorted-Object es = search (rules, the_lemmas)

-- values of two kinds are not equal
eq-apart : (x y : Value-F Value) → (kind x ≡ kind y → ⊥) → ghosts.eq (roll-Value x) (roll-Value y) ≡ false
eq-apart Value-F.Null Value-F.Null h = absurd (h refl)
eq-apart (Value-F.Bool a) (Value-F.Bool b) h = absurd (h refl)
eq-apart (Value-F.Number a) (Value-F.Number b) h = absurd (h refl)
eq-apart (Value-F.String a) (Value-F.String b) h = absurd (h refl)
eq-apart (Value-F.Array a) (Value-F.Array b) h = absurd (h refl)
eq-apart (Value-F.Object a) (Value-F.Object b) h = absurd (h refl)
eq-apart x y h = laws.is _ _ ∙ search (rules, the_lemmas)

sorted-kind : (x : Value-F Value) → kind (out-Value (sorted (roll-Value x))) ≡ kind x
sorted-kind Value-F.Null = search (rules, the_lemmas)
sorted-kind (Value-F.Bool b) = search (rules, the_lemmas)
sorted-kind (Value-F.Number z) = search (rules, the_lemmas)
sorted-kind (Value-F.String s) = search (rules, the_lemmas)
sorted-kind (Value-F.Array es) = search (rules, the_lemmas)
sorted-kind (Value-F.Object es) = search (rules, the_lemmas)

-- ---- each level decides

abbrev Equals : Value → Type 0
Equals a = (b : Value) → Decides (ghosts.eq a b) (sorted a ≡ sorted b)

abbrev Child : Type 0
Child = (a : Value) × Equals a

abbrev Pair : Type 0
Pair = List ℕ × Value

both : (p q : Bool) (A B : Type 0) → Decides p A → Decides q B → Decides (p && q) (A × B)
both true true A B a b = (λ e. (a.0 refl, b.0 refl), λ h. refl)
both true false A B a b = (λ e. absurd (cc), λ h. b.1 h.1)
both false q A B a b = (λ e. absurd (cc), λ h. a.1 h.0)

by : (p q : Bool) (A B : Type 0) → p ≡ q → Decides q A → (A → B) → (B → A) → Decides p B
by p q A B e d f g = (λ t. f (d.0 (sym e ∙ t)), λ h. e ∙ d.1 (g h))

pub parts : {X : Type 0} (x y : X) (xs ys : List X) → x ∷ xs ≡ y ∷ ys → (x ≡ y) × (xs ≡ ys)
parts x y xs ys e = (cc, cc)

items_decide : (ys : List Child) (zs : List Value) → Decides (pointwise ghosts.eq (map (λ e. e.0) ys) zs) (map sorted (map (λ e. e.0) ys) ≡ map sorted zs)
items_decide [] [] = (λ e. refl, λ h. refl)
items_decide [] (z ∷ zs) = (λ e. absurd (cc), λ h. absurd (cc))
items_decide (y ∷ ys) [] = (λ e. absurd (cc), λ h. absurd (cc))
items_decide (y ∷ ys) (z ∷ zs) =
    by _ _ _ _ refl (both (ghosts.eq y.0 z) (pointwise ghosts.eq (map (λ e. e.0) ys) zs) _ _ (y.1 z) (items_decide ys zs)) (λ h i. h.0 i ∷ h.1 i) (parts _ _ _ _)

abbrev plain : List ℕ × Child → Pair
plain e = on_value (λ c. c.0) e

abbrev sorted_pair : Pair → Pair
sorted_pair = on_value sorted

members_decide : (ys : List (List ℕ × Child)) (zs : List Pair) → Decides (pointwise (same_pair ghosts.eq) (map plain ys) zs) (map sorted_pair (map plain ys) ≡ map sorted_pair zs)
members_decide [] [] = (λ e. refl, λ h. refl)
members_decide [] (z ∷ zs) = (λ e. absurd (cc), λ h. absurd (cc))
members_decide (y ∷ ys) [] = (λ e. absurd (cc), λ h. absurd (cc))
members_decide (y ∷ ys) (z ∷ zs) =
    by _ _ _ _ refl
    (both (bytes_eq y.0 z.0 && ghosts.eq y.1.0 z.1) (pointwise (same_pair ghosts.eq) (map plain ys) zs) _ _ (both (bytes_eq y.0 z.0) (ghosts.eq y.1.0 z.1) _ _ (bytes_eq-Decides y.0 z.0) (y.1.1 z.1)) (members_decide ys zs))
    (λ h i. (h.0.0 i, h.0.1 i) ∷ h.1 i) (λ e. let at = parts _ _ _ _ e in ((ap (λ p. p.0) at.0, ap (λ p. p.1) at.0), at.1))

pub array_parts : (es fs : List Value) → roll-Value (Value-F.Array es) ≡ roll-Value (Value-F.Array fs) → es ≡ fs
array_parts es fs e =
    let one : array_items (roll-Value (Value-F.Array es)) ≡ Some es = search (rules, the_lemmas) in
    let other : array_items (roll-Value (Value-F.Array fs)) ≡ Some fs = search (rules, the_lemmas) in
    let both_items : Some es ≡ Some fs = sym one ∙ ap array_items e ∙ other in
    cc

object_parts : (es fs : List Pair) → roll-Value (Value-F.Object es) ≡ roll-Value (Value-F.Object fs) → es ≡ fs
object_parts es fs e =
    let one : object_members (roll-Value (Value-F.Object es)) ≡ Some es = search (rules, the_lemmas) in
    let other : object_members (roll-Value (Value-F.Object fs)) ≡ Some fs = search (rules, the_lemmas) in
    let both_members : Some es ≡ Some fs = sym one ∙ ap object_members e ∙ other in
    cc

-- one level with the facts about what is inside left out
abbrev plain_level : Value-F Child → Value-F Value
plain_level Value-F.Null = Value-F.Null
plain_level (Value-F.Bool b) = Value-F.Bool b
plain_level (Value-F.Number z) = Value-F.Number z
plain_level (Value-F.String s) = Value-F.String s
plain_level (Value-F.Array ys) = Value-F.Array (map (λ e. e.0) ys)
plain_level (Value-F.Object ys) = Value-F.Object (map plain ys)

apart : (x z : Value-F Value) → (kind x ≡ kind z → ⊥) → Decides (ghosts.eq (roll-Value x) (roll-Value z)) (sorted (roll-Value x) ≡ sorted (roll-Value z))
apart x z h = (λ e. absurd (true≢false (sym e ∙ eq-apart x z h)), λ e. absurd (h (sym (sorted-kind x) ∙ ap (λ v. kind (out-Value v)) e ∙ sorted-kind z)))

level_decides : (y : Value-F Child) (z : Value-F Value) → Decides (ghosts.eq (roll-Value (plain_level y)) (roll-Value z)) (sorted (roll-Value (plain_level y)) ≡ sorted (roll-Value z))
level_decides Value-F.Null Value-F.Null = (λ e. refl, λ h. laws.is _ _ ∙ search (rules, the_lemmas))
level_decides (Value-F.Bool a) (Value-F.Bool b) = by _ _ _ _ (eq-Bool a b) (bool_decides a b) (λ e. ap (λ t. sorted (roll-Value (Value-F.Bool t))) e) (λ e.
    let one : truth_value (sorted (roll-Value (Value-F.Bool a))) ≡ Some a = search (rules, the_lemmas) in
    let other : truth_value (sorted (roll-Value (Value-F.Bool b))) ≡ Some b = search (rules, the_lemmas) in
    let same : Some a ≡ Some b = sym one ∙ ap truth_value e ∙ other in
    cc)
level_decides (Value-F.Number a) (Value-F.Number b) = by _ _ _ _ (eq-Number a b) (number_decides a b) (λ e. ap (λ t. sorted (roll-Value (Value-F.Number t))) e) (λ e.
    let one : whole_number (sorted (roll-Value (Value-F.Number a))) ≡ Some a = search (rules, the_lemmas) in
    let other : whole_number (sorted (roll-Value (Value-F.Number b))) ≡ Some b = search (rules, the_lemmas) in
    let same : Some a ≡ Some b = sym one ∙ ap whole_number e ∙ other in
    cc)
level_decides (Value-F.String a) (Value-F.String b) = by _ _ _ _ (eq-String a b) (bytes_eq-Decides a b) (λ e. ap (λ t. sorted (roll-Value (Value-F.String t))) e) (λ e.
    let one : string_text (sorted (roll-Value (Value-F.String a))) ≡ Some a = search (rules, the_lemmas) in
    let other : string_text (sorted (roll-Value (Value-F.String b))) ≡ Some b = search (rules, the_lemmas) in
    let same : Some a ≡ Some b = sym one ∙ ap string_text e ∙ other in
    cc)
level_decides (Value-F.Array ys) (Value-F.Array zs) =
    let xs = map (λ (e : Child). e.0) ys in
    by _ _ _ _ (eq-Array xs zs) (items_decide ys zs) (λ e. sorted-Array xs ∙ ap (λ l. roll-Value (Value-F.Array l)) e ∙ sym (sorted-Array zs)) (λ e. array_parts _ _ (sym (sorted-Array xs) ∙ e ∙ sorted-Array zs))
level_decides (Value-F.Object ys) (Value-F.Object zs) =
    let xs = map plain ys in
    let arranged : by_key xs ≡ map plain (by_key ys) = by_key-map (λ (c : Child). c.0) ys in
    let pairs : same_pairs ghosts.eq xs zs ≡ pointwise (same_pair ghosts.eq) (map plain (by_key ys)) (by_key zs) = ap (λ l. pointwise (same_pair ghosts.eq) l (by_key zs)) arranged in
    let left : by_key (map sorted_pair xs) ≡ map sorted_pair (map plain (by_key ys)) = by_key-map sorted xs ∙ ap (map sorted_pair) arranged in
    let right : by_key (map sorted_pair zs) ≡ map sorted_pair (by_key zs) = by_key-map sorted zs in
    by _ _ _ _ (eq-Object xs zs ∙ pairs) (members_decide (by_key ys) (by_key zs))
    (λ e. sorted-Object xs ∙ ap (λ l. roll-Value (Value-F.Object l)) (left ∙ e ∙ sym right) ∙ sym (sorted-Object zs))
    (λ e. sym left ∙ object_parts _ _ (sym (sorted-Object xs) ∙ e ∙ sorted-Object zs) ∙ right)
level_decides y z = apart (plain_level y) z (λ e. omega (arith, e))

plain-map : (y : Value-F Child) → map-Value Child Value (λ e. e.0) y ≡ plain_level y
plain-map Value-F.Null = refl
plain-map (Value-F.Bool b) = refl
plain-map (Value-F.Number z) = refl
plain-map (Value-F.String s) = refl
plain-map (Value-F.Array ys) = refl
plain-map (Value-F.Object ys) = refl

abbrev DecidesAt : Value → Value → Type 0
DecidesAt a b = Decides (ghosts.eq a b) (sorted a ≡ sorted b)

-- equality of values decides whether they are equal once sorted at every level
pub equality_decides : (a : Value) → Equals a
equality_decides = ind-Value Equals (λ x y is b.
    let opened : roll-Value (out-Value b) ≡ b = search (rules, the_lemmas) in
    subst (DecidesAt (roll-Value x)) opened (subst (λ w. DecidesAt (roll-Value w) (roll-Value (out-Value b))) (sym (plain-map y) ∙ is) (level_decides y (out-Value b))))
