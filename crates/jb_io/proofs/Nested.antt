-- What is read nests no deeper than the levels that are allowed.
use Rattle.std.proofs.Common.{◌≡◌, ℕ, ℤ, zero, suc, ◌≤◌, Bool, true, false, cond, List, [], ◌∷◌, ◌++◌, codes, length, map, Result, Ok, Err, sym, subst, arith, rules}
use Rattle.std.specs.Prelude.{◌==◌, ◌||◌, ⊤}
use Rattle.std.specs.Str.{bytes_eq}
use Rattle.indexmap.specs.IndexMap.{insert_entry}
use Rattle.jb_print.proofs.Trees.{Member, members_tree, tree-Array, tree-Object}
use Rattle.jb_tree.specs.declared.value.Value.{Value, the_lemmas}
use Rattle.jb_tree.specs.declared.value.Value.TheVariants as value
use Rattle.jb_tree.specs.Tree.{trees_of, tree}
use Rattle.jb_read.specs.declared.fault.Broken.{Broken}
use Rattle.jb_read.specs.Bytes.{is_digit, skip_white}
use Rattle.jb_read.specs.Reading.{◌>>=◌, word_at, turns}
use Rattle.jb_read.specs.Numbers.{number_at, is_minus}
use Rattle.jb_read.specs.Strings.{text_at}
use Rattle.jb_read.specs.Values.{begins_with, next_at, item_at, key_at, member_at, array_at, object_at, scalar_at, value_at, first_value, ended, whole_value}
use Rattle.jb_io.specs.Proper.{depth, depth_of_items, depth_of_members}

-- what is read, if anything, is so
abbrev Every : {A : Type 0} → (A → Type 0) → Result (A × List ℕ) Broken → Type 0
Every P (Ok read) = P read.0
Every P (Err stop) = ⊤

bind_every : {A B : Type 0} (P : A → Type 0) (Q : B → Type 0) (r : Result (A × List ℕ) Broken) (f : A × List ℕ → Result (B × List ℕ) Broken) → Every P r → ((x : A × List ℕ) → P x.0 → Every Q (f x)) → Every Q (r >>= f)
bind_every P Q (Ok x) f every h = h x every
bind_every P Q (Err stop) f every h = tt

any : {A : Type 0} (r : Result (A × List ℕ) Broken) → Every (λ x. ⊤) r
any (Ok x) = tt
any (Err stop) = tt

cond_every : {A : Type 0} (P : A → Type 0) (b : Bool) (x y : Result (A × List ℕ) Broken) → Every P x → Every P y → Every P (cond b x y)
cond_every P true x y s t = s
cond_every P false x y s t = t

turns_every : {A : Type 0} (P : A → Type 0) (turn : A → List ℕ → Result ((Bool × A) × List ℕ) Broken) → ((made : A) (at : List ℕ) → P made → Every (λ t. P t.1) (turn made at))
    → (most : ℕ) (made : A) (at : List ℕ) → P made → Every P (turns turn most made at)
turns_every P turn h zero made at p = tt
turns_every P turn h (suc most) made at p =
    bind_every (λ t. P t.1) P (turn made at) _ (h made at p) (λ t q. cond_every P t.0.0 _ _ (turns_every P turn h most t.0.1 t.1 q) q)

abbrev Reader : Type 0
Reader = List ℕ → Result (Value × List ℕ) Broken

abbrev IsShallow : ℕ → Value → Type 0
IsShallow levels v = depth (tree v) ≤ levels

abbrev Keeps : ℕ → Reader → Type 0
Keeps levels inner = (at : List ℕ) → Every (IsShallow levels) (inner at)

abbrev AreShallow : ℕ → List Value → Type 0
AreShallow levels items = depth_of_items (trees_of (map tree items)) ≤ levels

abbrev AreShallowIn : ℕ → List Member → Type 0
AreShallowIn levels members = depth_of_members (members_tree members) ≤ levels

with_item : (levels : ℕ) (items : List Value) (v : Value) → AreShallow levels items → IsShallow levels v → AreShallow levels (items ++ v ∷ [])
with_item levels [] v are is = omega arith
with_item levels (item ∷ items) v are is =
    let inner : AreShallow levels (items ++ v ∷ []) = with_item levels items v (omega arith) is in
    omega arith

with_member : (levels : ℕ) (members : List Member) (key : List ℕ) (v : Value) → AreShallowIn levels members → IsShallow levels v → AreShallowIn levels (insert_entry bytes_eq members key v)
with_member levels [] key v are is = omega arith
with_member levels (member ∷ members) key v are is = by_key (bytes_eq key member.0) (with_member levels members key v (omega arith) is)
  where
    by_key : (b : Bool) → AreShallowIn levels (insert_entry bytes_eq members key v) → AreShallowIn levels (cond b ((member.0, v) ∷ members) (member ∷ insert_entry bytes_eq members key v))
    by_key true inner = omega arith
    by_key false inner = omega arith

item_shallow : (levels : ℕ) (inner : Reader) → Keeps levels inner → (items : List Value) (at : List ℕ) → AreShallow levels items → Every (λ t. AreShallow levels t.1) (item_at inner items at)
unfolding item_at
item_shallow levels inner keeps items at are =
    bind_every (IsShallow levels) _ (inner at) _ (keeps at) (λ item is. bind_every (λ x. ⊤) _ (next_at 93 item.1) _ (any (next_at 93 item.1)) (λ next x. with_item levels items item.0 are is))

member_shallow : (levels : ℕ) (inner : Reader) → Keeps levels inner → (members : List Member) (at : List ℕ) → AreShallowIn levels members → Every (λ t. AreShallowIn levels t.1) (member_at inner members at)
unfolding member_at
member_shallow levels inner keeps members at are =
    bind_every (λ x. ⊤) _ (key_at at) _ (any (key_at at))
    (λ key x. bind_every (IsShallow levels) _ (inner key.1) _ (keeps key.1)
    (λ member is. bind_every (λ x. ⊤) _ (next_at 125 member.1) _ (any (next_at 125 member.1)) (λ next x. with_member levels members key.0 member.0 are is)))

array_shallow : (levels : ℕ) (inner : Reader) → Keeps levels inner → (at : List ℕ) → Every (AreShallow levels) (array_at inner at)
unfolding array_at
array_shallow levels inner keeps at =
    cond_every (AreShallow levels) (begins_with 93 (skip_white at)) _ _ (omega arith) (turns_every (AreShallow levels) (item_at inner) (item_shallow levels inner keeps) (suc (length (skip_white at))) [] (skip_white at) (omega arith))

object_shallow : (levels : ℕ) (inner : Reader) → Keeps levels inner → (at : List ℕ) → Every (AreShallowIn levels) (object_at inner at)
unfolding object_at
object_shallow levels inner keeps at =
    cond_every (AreShallowIn levels) (begins_with 125 (skip_white at)) _ _ (omega arith) (turns_every (AreShallowIn levels) (member_at inner) (member_shallow levels inner keeps) (suc (length (skip_white at))) [] (skip_white at) (omega arith))

flat-Null : depth (tree value.Null) ≡ 0
flat-Null = search (rules, the_lemmas)

flat-Bool : (truth : Bool) → depth (tree (value.Bool truth)) ≡ 0
flat-Bool truth = search (rules, the_lemmas)

flat-Number : (z : ℤ) → depth (tree (value.Number z)) ≡ 0
flat-Number z = search (rules, the_lemmas)

flat-String : (bytes : List ℕ) → depth (tree (value.String bytes)) ≡ 0
flat-String bytes = search (rules, the_lemmas)

flat : (levels : ℕ) (v : Value) → depth (tree v) ≡ 0 → IsShallow levels v
flat levels v is = omega (arith, is)

word_shallow : (levels : ℕ) (v : Value) (word at : List ℕ) → depth (tree v) ≡ 0 → Every (IsShallow levels) (word_at word at >>= λ read. Ok (v, read.1))
word_shallow levels v word at is = bind_every (λ x. ⊤) (IsShallow levels) (word_at word at) _ (any (word_at word at)) (λ read x. flat levels v is)

scalar_shallow : (levels : ℕ) → Keeps levels scalar_at
unfolding scalar_at
scalar_shallow levels [] = tt
scalar_shallow levels (b ∷ at) =
    cond_every (IsShallow levels) (b == 34) _ _ (bind_every (λ x. ⊤) (IsShallow levels) (text_at at) _ (any (text_at at)) (λ text x. flat levels (value.String text.0) (flat-String text.0)))
    (cond_every (IsShallow levels) (b == 110) _ _ (word_shallow levels value.Null (codes "null") (b ∷ at) flat-Null)
    (cond_every (IsShallow levels) (b == 116) _ _ (word_shallow levels (value.Bool true) (codes "true") (b ∷ at) (flat-Bool true))
    (cond_every (IsShallow levels) (b == 102) _ _ (word_shallow levels (value.Bool false) (codes "false") (b ∷ at) (flat-Bool false))
    (cond_every (IsShallow levels) (is_minus b || is_digit b) _ _ (bind_every (λ x. ⊤) (IsShallow levels) (number_at (b ∷ at)) _ (any (number_at (b ∷ at))) (λ number x. flat levels (value.Number number.0) (flat-Number number.0)))
    tt))))

list_shallow : (levels : ℕ) (items : List Value) → AreShallow levels items → IsShallow (suc levels) (value.Array items)
list_shallow levels items are = subst (λ t. depth t ≤ suc levels) (sym (tree-Array items)) (omega (arith, are))

members_shallow : (levels : ℕ) (members : List Member) → AreShallowIn levels members → IsShallow (suc levels) (value.Object members)
members_shallow levels members are = subst (λ t. depth t ≤ suc levels) (sym (tree-Object members)) (omega (arith, are))

value_shallow : (levels : ℕ) → Keeps levels (value_at levels)
unfolding value_at
value_shallow zero [] = scalar_shallow 0 []
value_shallow zero (b ∷ at) = cond_every (IsShallow 0) ((b == 91) || (b == 123)) _ _ tt (scalar_shallow 0 (b ∷ at))
value_shallow (suc levels) [] = scalar_shallow (suc levels) []
value_shallow (suc levels) (b ∷ at) =
    cond_every (IsShallow (suc levels)) (b == 91) _ _
    (bind_every (AreShallow levels) (IsShallow (suc levels)) (array_at (value_at levels) at) _ (array_shallow levels (value_at levels) (value_shallow levels) at) (λ array are. list_shallow levels array.0 are))
    (cond_every (IsShallow (suc levels)) (b == 123) _ _
    (bind_every (AreShallowIn levels) (IsShallow (suc levels)) (object_at (value_at levels) at) _ (object_shallow levels (value_at levels) (value_shallow levels) at) (λ object are. members_shallow levels object.0 are))
    (scalar_shallow (suc levels) (b ∷ at)))

ended_is : (v w : Value) (rest : List ℕ) → ended w rest ≡ Ok v → w ≡ v
ended_is v w [] h = cc
ended_is v w (b ∷ rest) h = absurd cc

pub whole_nested : (levels : ℕ) (bytes : List ℕ) (v : Value) → whole_value levels bytes ≡ Ok v → depth (tree v) ≤ levels
unfolding whole_value first_value
whole_nested levels bytes v h = by_read (value_at levels (skip_white bytes)) (value_shallow levels (skip_white bytes)) h
  where
    by_read : (r : Result (Value × List ℕ) Broken) → Every (IsShallow levels) r → (r >>= λ read. ended read.0 (skip_white read.1)) ≡ Ok v → depth (tree v) ≤ levels
    by_read (Ok read) every is = subst (IsShallow levels) (ended_is v read.0 (skip_white read.1) is) every
    by_read (Err stop) every is = absurd cc
