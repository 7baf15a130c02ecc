-- Values are identical just where they are equal.
use Rattle.std.proofs.Common.{◌≡◌, ℕ, ℤ, pos, negsuc, Bool, true, false, ◌&&◌, nat_eq, List, [], ◌∷◌, map, sym, ap, subst, rules, refl, ◌∙◌, arith, true≢false}
use Rattle.std.specs.Bool.{Decides}
use Rattle.std.specs.Str.{bytes_eq}
use Rattle.std.proofs.lemmas.Slice.Eq.{bytes_eq-Decides}
use Rattle.std_collections.specs.Layout.Former.{on_value}
use Rattle.jb_tree.specs.declared.value.Value.TheFolds.{ind-Value, map-Value}
use Rattle.jb_tree.specs.declared.value.Value.{Value, roll-Value, out-Value, the_lemmas}
use Rattle.jb_tree.specs.declared.value.Value.TheOpen.{Value-F}
use Rattle.gql_checker_laws.specs.Identical.{same_truth, same_whole, all_pass, pairs_pass, is_identical}

truth_decides : (a b : Bool) → Decides (same_truth a b) (a ≡ b)
truth_decides true true = (λ e. refl, λ e. refl)
truth_decides true false = (λ e. absurd (cc), λ e. absurd (cc))
truth_decides false true = (λ e. absurd (cc), λ e. absurd (cc))
truth_decides false false = (λ e. refl, λ e. refl)

nat_decides : (m n : ℕ) → Decides (nat_eq m n) (m ≡ n)
nat_decides m n = grind arith

whole_decides : (x y : ℤ) → Decides (same_whole x y) (x ≡ y)
whole_decides (pos m) (pos n) = let d = nat_decides m n in (λ e. ap pos (d.0 e), λ e. d.1 (cc))
whole_decides (pos m) (negsuc n) = (λ e. absurd (cc), λ e. absurd (cc))
whole_decides (negsuc m) (pos n) = (λ e. absurd (cc), λ e. absurd (cc))
whole_decides (negsuc m) (negsuc n) = let d = nat_decides m n in (λ e. ap negsuc (d.0 e), λ e. d.1 (cc))

abbrev Equals : Value → Type 0
Equals a = (b : Value) → Decides (is_identical a b) (a ≡ b)

abbrev Child : Type 0
Child = (a : Value) × Equals a

abbrev Pair : Type 0
Pair = List ℕ × Value

both : (p q : Bool) (A B : Type 0) → Decides p A → Decides q B → Decides (p && q) (A × B)
both true true A B a b = (λ e. (a.0 refl, b.0 refl), λ h. refl)
both true false A B a b = (λ e. absurd (cc), λ h. b.1 h.1)
both false q A B a b = (λ e. absurd (cc), λ h. a.1 h.0)

by : (p : Bool) (A B : Type 0) → Decides p A → (A → B) → (B → A) → Decides p B
by p A B d f g = (λ t. f (d.0 t), λ h. d.1 (g h))

parts : {X : Type 0} (x y : X) (xs ys : List X) → x ∷ xs ≡ y ∷ ys → (x ≡ y) × (xs ≡ ys)
parts x y xs ys e = (cc, cc)

items_decide : (ys : List Child) (zs : List Value) → Decides (all_pass (map is_identical (map (λ (e : Child). e.0) ys)) zs) (map (λ (e : Child). e.0) ys ≡ zs)
items_decide [] [] = (λ e. refl, λ h. refl)
items_decide [] (z ∷ zs) = (λ e. absurd (cc), λ h. absurd (cc))
items_decide (y ∷ ys) [] = (λ e. absurd (cc), λ h. absurd (cc))
items_decide (y ∷ ys) (z ∷ zs) =
    by _ _ _ (both (is_identical y.0 z) (all_pass (map is_identical (map (λ (e : Child). e.0) ys)) zs) (y.0 ≡ z) (map (λ (e : Child). e.0) ys ≡ zs) (y.1 z) (items_decide ys zs))
    (λ h i. h.0 i ∷ h.1 i) (parts _ _ _ _)

abbrev plain : List ℕ × Child → Pair
plain e = on_value (λ (c : Child). c.0) e

abbrev test_of : Pair → List ℕ × (Value → Bool)
test_of p = on_value is_identical p

pair_parts : (p q : Pair) → p ≡ q → (p.0 ≡ q.0) × (p.1 ≡ q.1)
pair_parts p q e = (ap (λ (r : Pair). r.0) e, ap (λ (r : Pair). r.1) e)

members_decide : (ys : List (List ℕ × Child)) (zs : List Pair) → Decides (pairs_pass (map test_of (map plain ys)) zs) (map plain ys ≡ zs)
members_decide [] [] = (λ e. refl, λ h. refl)
members_decide [] (z ∷ zs) = (λ e. absurd (cc), λ h. absurd (cc))
members_decide (y ∷ ys) [] = (λ e. absurd (cc), λ h. absurd (cc))
members_decide (y ∷ ys) (z ∷ zs) =
    by _ _ _
    (both (bytes_eq y.0 z.0 && is_identical y.1.0 z.1) (pairs_pass (map test_of (map plain ys)) zs) ((y.0 ≡ z.0) × (y.1.0 ≡ z.1)) (map plain ys ≡ zs)
    (both (bytes_eq y.0 z.0) (is_identical y.1.0 z.1) (y.0 ≡ z.0) (y.1.0 ≡ z.1) (bytes_eq-Decides y.0 z.0) (y.1.1 z.1)) (members_decide ys zs))
    (λ h i. (h.0.0 i, h.0.1 i) ∷ h.1 i) (λ e. let at = parts _ _ _ _ e in (pair_parts (plain y) z at.0, at.1))

-- one level with the facts about what is inside left out
abbrev plain_level : Value-F Child → Value-F Value
plain_level Value-F.Null = Value-F.Null
plain_level (Value-F.Bool b) = Value-F.Bool b
plain_level (Value-F.Number z) = Value-F.Number z
plain_level (Value-F.String s) = Value-F.String s
plain_level (Value-F.Array ys) = Value-F.Array (map (λ (e : Child). e.0) ys)
plain_level (Value-F.Object ys) = Value-F.Object (map plain ys)

abbrev kind : {A : Type 0} → Value-F A → ℕ
kind Value-F.Null = 0
kind (Value-F.Bool b) = 1
kind (Value-F.Number z) = 2
kind (Value-F.String s) = 3
kind (Value-F.Array es) = 4
kind (Value-F.Object es) = 5

-- the value of a level begins with it
opened : (x : Value-F Value) → out-Value (roll-Value x) ≡ x
opened x = search (rules, the_lemmas)

level_same : (x z : Value-F Value) → roll-Value x ≡ roll-Value z → x ≡ z
level_same x z e = sym (opened x) ∙ ap out-Value e ∙ opened z

id-Null : is_identical (roll-Value Value-F.Null) (roll-Value Value-F.Null) ≡ true
id-Null = search (rules, the_lemmas)

id-Bool : (a b : Bool) → is_identical (roll-Value (Value-F.Bool a)) (roll-Value (Value-F.Bool b)) ≡ same_truth a b
id-Bool a b = search (rules, the_lemmas)

id-Number : (x y : ℤ) → is_identical (roll-Value (Value-F.Number x)) (roll-Value (Value-F.Number y)) ≡ same_whole x y
id-Number x y = search (rules, the_lemmas)

id-String : (s t : List ℕ) → is_identical (roll-Value (Value-F.String s)) (roll-Value (Value-F.String t)) ≡ bytes_eq s t
id-String s t = search (rules, the_lemmas)

id-Array : (es fs : List Value) → is_identical (roll-Value (Value-F.Array es)) (roll-Value (Value-F.Array fs)) ≡ all_pass (map is_identical es) fs
id-Array es fs = search (rules, the_lemmas)

id-Object : (es fs : List Pair) → is_identical (roll-Value (Value-F.Object es)) (roll-Value (Value-F.Object fs)) ≡ pairs_pass (map test_of es) fs
id-Object es fs = search (rules, the_lemmas)

-- values of two kinds are not identical
id-apart : (x z : Value-F Value) → (kind x ≡ kind z → ⊥) → is_identical (roll-Value x) (roll-Value z) ≡ false
id-apart Value-F.Null Value-F.Null h = absurd (h refl)
id-apart (Value-F.Bool a) (Value-F.Bool b) h = absurd (h refl)
id-apart (Value-F.Number a) (Value-F.Number b) h = absurd (h refl)
id-apart (Value-F.String a) (Value-F.String b) h = absurd (h refl)
id-apart (Value-F.Array a) (Value-F.Array b) h = absurd (h refl)
id-apart (Value-F.Object a) (Value-F.Object b) h = absurd (h refl)
id-apart x z h = search (rules, the_lemmas)

apart : (x z : Value-F Value) → (kind x ≡ kind z → ⊥) → Decides (is_identical (roll-Value x) (roll-Value z)) (roll-Value x ≡ roll-Value z)
apart x z h = (λ e. absurd (true≢false (sym e ∙ id-apart x z h)), λ e. absurd (h (ap kind (level_same x z e))))

by_is : (p q : Bool) (A B : Type 0) → p ≡ q → Decides q A → (A → B) → (B → A) → Decides p B
by_is p q A B e d f g = (λ t. f (d.0 (sym e ∙ t)), λ h. e ∙ d.1 (g h))

bool_of : (a b : Bool) → roll-Value (Value-F.Bool a) ≡ roll-Value (Value-F.Bool b) → a ≡ b
bool_of a b e = let same = level_same (Value-F.Bool a) (Value-F.Bool b) e in cc

number_of : (a b : ℤ) → roll-Value (Value-F.Number a) ≡ roll-Value (Value-F.Number b) → a ≡ b
number_of a b e = let same = level_same (Value-F.Number a) (Value-F.Number b) e in cc

string_of : (a b : List ℕ) → roll-Value (Value-F.String a) ≡ roll-Value (Value-F.String b) → a ≡ b
string_of a b e = let same = level_same (Value-F.String a) (Value-F.String b) e in cc

level_decides : (y : Value-F Child) (z : Value-F Value) → Decides (is_identical (roll-Value (plain_level y)) (roll-Value z)) (roll-Value (plain_level y) ≡ roll-Value z)
level_decides Value-F.Null Value-F.Null = (λ e. refl, λ e. id-Null)
level_decides (Value-F.Bool a) (Value-F.Bool b) =
    by_is _ _ _ _ (id-Bool a b) (truth_decides a b) (ap (λ t. roll-Value (Value-F.Bool t)))
    (bool_of a b)
level_decides (Value-F.Number a) (Value-F.Number b) =
    by_is _ _ _ _ (id-Number a b) (whole_decides a b) (ap (λ t. roll-Value (Value-F.Number t)))
    (number_of a b)
level_decides (Value-F.String a) (Value-F.String b) =
    by_is _ _ _ _ (id-String a b) (bytes_eq-Decides a b) (ap (λ t. roll-Value (Value-F.String t)))
    (string_of a b)
level_decides (Value-F.Array ys) (Value-F.Array zs) =
    by_is _ _ _ _ (id-Array (map (λ (e : Child). e.0) ys) zs) (items_decide ys zs) (ap (λ t. roll-Value (Value-F.Array t)))
    (λ e. let same : Value-F.Array (map (λ (e : Child). e.0) ys) ≡ Value-F.Array zs = level_same _ _ e in cc)
level_decides (Value-F.Object ys) (Value-F.Object zs) =
    by_is _ _ _ _ (id-Object (map plain ys) zs) (members_decide ys zs) (ap (λ t. roll-Value (Value-F.Object t)))
    (λ e. let same : Value-F.Object (map plain ys) ≡ Value-F.Object zs = level_same _ _ e in cc)
level_decides y z = apart (plain_level y) z (λ e. omega (arith, e))

plain-map : (y : Value-F Child) → map-Value Child Value (λ e. e.0) y ≡ plain_level y
plain-map Value-F.Null = refl
plain-map (Value-F.Bool b) = refl
plain-map (Value-F.Number z) = refl
plain-map (Value-F.String s) = refl
plain-map (Value-F.Array ys) = refl
plain-map (Value-F.Object ys) = refl

abbrev DecidesAt : Value → Value → Type 0
DecidesAt a b = Decides (is_identical a b) (a ≡ b)

pub identical_decides : (a : Value) → Equals a
identical_decides = ind-Value Equals (λ x y is b.
    let again : roll-Value (out-Value b) ≡ b = search (rules, the_lemmas) in
    subst (DecidesAt (roll-Value x)) again (subst (λ w. DecidesAt (roll-Value w) (roll-Value (out-Value b))) (sym (plain-map y) ∙ is) (level_decides y (out-Value b))))
