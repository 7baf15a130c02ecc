-- What is read is what the bytes spell.
use Rattle.std.proofs.Common.{◌≡◌, ℕ, zero, suc, Bool, true, false, cond, ◌⊎◌, inl, inr, List, [], ◌∷◌, ◌++◌, length, drop, Result, Ok, Err, refl, sym, ap, subst, ◌∙◌, append_assoc}
use Rattle.std.specs.Prelude.{◌==◌, ◌||◌, codes}
use Rattle.std.specs.Str.{bytes_eq}
use Rattle.std.proofs.lemmas.Bool.{eqb-true}
use Rattle.indexmap.specs.IndexMap.{insert_entry}
use Rattle.jb_tree.specs.declared.value.Value.{Value}
use Rattle.jb_tree.specs.declared.value.Value.TheVariants as value
use Rattle.jb_tree.specs.Tree.{Tree, Trees, Members, null, boolean, number, text, array, object, no_trees, tree_then, no_members, member_then}
use Rattle.jb_read.specs.declared.fault.Broken.{Broken}
use Rattle.jb_read.specs.declared.fault.FaultKind.TheVariants.{Syntax, Depth}
use Rattle.jb_read.specs.Bytes.{is_digit, skip_white}
use Rattle.jb_read.specs.Reading.{◌>>=◌, broken, fails, byte_at, word_at, turns}
use Rattle.jb_read.specs.Numbers.{number_at, is_minus}
use Rattle.jb_read.specs.Strings.{text_at}
use Rattle.jb_read.specs.Values.{begins_with, next_at, item_at, key_at, member_at, array_at, object_at, scalar_at, value_at, first_value, ended, whole_value}
use Rattle.jb_read.specs.Texts.{placed, text_value, front_value, text_front}
use Rattle.jb_read.specs.Spelling.{SpellsNumber, SpellsString, SpellsKey, Spells, SpellsItems, MoreItems, SpellsMembers, MoreMembers, settled, settled_items, settled_members, JsonText, JsonFront}
use Rattle.jb_read.proofs.Steps.{bind_ok, chosen, ok_is, broken_not_ok, byte_sound, word_sound, begins_parts, next_sound}
use Rattle.jb_read.proofs.Digits.{number_sound}
use Rattle.jb_read.proofs.Characters.{string_sound}

-- a tree whose text was read
pub record Read (depth : ℕ) (at : List ℕ) (v : Value) (rest : List ℕ) : Type 0 where
  pub tree : Tree
  pub spelled : Spells tree depth at rest
  pub is_value : settled tree ≡ v

abbrev pub AreSound : ℕ → (List ℕ → Result (Value × List ℕ) Broken) → Type 0
AreSound depth inner = (at : List ℕ) (r : Value × List ℕ) → inner at ≡ Ok r → Read depth at r.0 r.1

wrap_ok : {A : Type 0} (r : Result (A × List ℕ) Broken) (make : A → Value) (y : Value × List ℕ) → (r >>= λ x. Ok (make x.0, x.1)) ≡ Ok y → (x : A × List ℕ) × (r ≡ Ok x) × (make x.0 ≡ y.0) × (x.1 ≡ y.1)
wrap_ok (Ok x) make y e = let same = ok_is (make x.0, x.1) y e in (x, refl, ap (λ (p : Value × List ℕ). p.0) same, ap (λ (p : Value × List ℕ). p.1) same)
wrap_ok (Err d) make y e = absurd (broken_not_ok d y e)

-- ---- items

record ReadItems (depth : ℕ) (done : List Value) (at : List ℕ) (vs : List Value) (rest : List ℕ) : Type 0 where
  item : Tree
  items : Trees
  behind : List ℕ
  spelled : Spells item depth at behind
  more : MoreItems items depth (skip_white behind) rest
  is_list : done ++ (settled item ∷ settled_items items) ≡ vs

record ItemRead (inner : List ℕ → Result (Value × List ℕ) Broken) (done : List Value) (at : List ℕ) (r : (Bool × List Value) × List ℕ) : Type 0 where
  item : Value × List ℕ
  read : inner at ≡ Ok item
  next : Bool × List ℕ
  went_on : next_at 93 item.1 ≡ Ok next
  is_turn : r ≡ ((next.0, done ++ item.0 ∷ []), next.1)

item_read : (inner : List ℕ → Result (Value × List ℕ) Broken) (done : List Value) (at : List ℕ) (r : (Bool × List Value) × List ℕ) → item_at inner done at ≡ Ok r → ItemRead inner done at r
unfolding item_at
item_read inner done at r e =
    let a = bind_ok (inner at) (λ item. next_at 93 item.1 >>= λ next. Ok ((next.0, done ++ item.0 ∷ []), next.1)) r e in
    let b = bind_ok (next_at 93 a.0.1) (λ next. Ok ((next.0, done ++ a.0.0 ∷ []), next.1)) r a.2 in
    record { item = a.0; read = a.1; next = b.0; went_on = b.1; is_turn = sym (ok_is ((b.0.0, done ++ a.0.0 ∷ []), b.0.1) r b.2) }

items_sound : (depth : ℕ) (inner : List ℕ → Result (Value × List ℕ) Broken) → AreSound depth inner → (most : ℕ) (done : List Value) (at : List ℕ) (r : List Value × List ℕ) → turns (item_at inner) most done at ≡ Ok r → ReadItems depth done at r.0 r.1
items_sound depth inner sound zero done at r e = absurd (broken_not_ok (broken Syntax []) r e)
items_sound depth inner sound (suc most) done at r e =
    let a = bind_ok (item_at inner done at) (λ t. cond t.0.0 (turns (item_at inner) most t.0.1 t.1) (Ok (t.0.1, t.1))) r e in
    let i = item_read inner done at a.0 a.1 in
    let step : cond i.next.0 (turns (item_at inner) most (done ++ i.item.0 ∷ []) i.next.1) (Ok (done ++ i.item.0 ∷ [], i.next.1)) ≡ Ok r = rw i.is_turn at a.2 in
    let item = sound at i.item i.read in
    elim (next_sound 93 i.item.1 i.next i.went_on) [
      | inl p ↦ last i.item i.next r p.0 p.1 item step
      | inr p ↦ more_read i.item i.next r p.0 p.1 p.2 p.3 item step (λ s. items_sound depth inner sound most (done ++ i.item.0 ∷ []) i.next.1 r s)
    ]
  where
    last : (item : Value × List ℕ) (next : Bool × List ℕ) (r : List Value × List ℕ) → next.0 ≡ false → skip_white item.1 ≡ 93 ∷ next.1 → Read depth at item.0 item.1
        → cond next.0 (turns (item_at inner) most (done ++ item.0 ∷ []) next.1) (Ok (done ++ item.0 ∷ [], next.1)) ≡ Ok r → ReadItems depth done at r.0 r.1
    last item next r ends closes read step =
        let same : (done ++ item.0 ∷ [], next.1) ≡ r = ok_is (done ++ item.0 ∷ [], next.1) r (rw ends at step) in
        let rest : next.1 ≡ r.1 = ap (λ (p : List Value × List ℕ). p.1) same in
        record { item = read.tree; items = no_trees; behind = item.1; spelled = read.spelled; more = closes ∙ ap (λ (l : List ℕ). 93 ∷ l) rest; is_list = ap (λ (v : Value). done ++ (v ∷ [])) read.is_value ∙ ap (λ (p : List Value × List ℕ). p.0) same }

    more_read : (item : Value × List ℕ) (next : Bool × List ℕ) (r : List Value × List ℕ) (inside : List ℕ) → next.0 ≡ true → skip_white item.1 ≡ 44 ∷ inside → next.1 ≡ skip_white inside → Read depth at item.0 item.1
        → cond next.0 (turns (item_at inner) most (done ++ item.0 ∷ []) next.1) (Ok (done ++ item.0 ∷ [], next.1)) ≡ Ok r
        → (turns (item_at inner) most (done ++ item.0 ∷ []) next.1 ≡ Ok r → ReadItems depth (done ++ item.0 ∷ []) next.1 r.0 r.1) → ReadItems depth done at r.0 r.1
    more_read item next r inside goes comma start read step others =
        let o = others (rw goes at step) in
        record {
          item = read.tree;
          items = tree_then o.item o.items;
          behind = item.1;
          spelled = read.spelled;
          more = (inside, o.behind, comma, subst (λ (l : List ℕ). Spells o.item depth l o.behind) start o.spelled, o.more);
          is_list = ap (λ (v : Value). done ++ (v ∷ settled o.item ∷ settled_items o.items)) read.is_value ∙ sym (append_assoc done (item.0 ∷ []) (settled o.item ∷ settled_items o.items)) ∙ o.is_list;
        }

array_sound : (depth : ℕ) (inner : List ℕ → Result (Value × List ℕ) Broken) → AreSound depth inner → (at : List ℕ) (r : List Value × List ℕ) → array_at inner at ≡ Ok r → (items : Trees) × SpellsItems items depth (skip_white at) r.1 × (settled_items items ≡ r.0)
unfolding array_at
array_sound depth inner sound at r e =
    elim (chosen (begins_with 93 (skip_white at)) (Ok ([], drop 1 (skip_white at))) (turns (item_at inner) (suc (length (skip_white at))) [] (skip_white at)) (Ok r) e) [
      | inl p ↦ (let same = ok_is ([], drop 1 (skip_white at)) r p.1 in
          (no_trees, begins_parts 93 (skip_white at) p.0 ∙ ap (λ (p : List Value × List ℕ). 93 ∷ p.1) same, ap (λ (p : List Value × List ℕ). p.0) same))
      | inr p ↦ (let i = items_sound depth inner sound (suc (length (skip_white at))) [] (skip_white at) r p.1 in
          (tree_then i.item i.items, (i.behind, i.spelled, i.more), i.is_list))
    ]

-- ---- members

pub key_sound : (at : List ℕ) (r : List ℕ × List ℕ) → key_at at ≡ Ok r → SpellsKey r.0 at r.1
unfolding key_at
key_sound at r e =
    let a = bind_ok (byte_at 34 at) (λ quote. text_at quote.1 >>= λ key. byte_at 58 (skip_white key.1) >>= λ colon. Ok (key.0, skip_white colon.1)) r e in
    let b = bind_ok (text_at a.0.1) (λ key. byte_at 58 (skip_white key.1) >>= λ colon. Ok (key.0, skip_white colon.1)) r a.2 in
    let c = bind_ok (byte_at 58 (skip_white b.0.1)) (λ colon. Ok (b.0.0, skip_white colon.1)) r b.2 in
    let same = ok_is (b.0.0, skip_white c.0.1) r c.2 in
    let key : b.0.0 ≡ r.0 = ap (λ (p : List ℕ × List ℕ). p.0) same in
    record {
      behind = b.0.1;
      inside = c.0.1;
      string = subst (λ (k : List ℕ). SpellsString k at b.0.1) key (subst (λ (l : List ℕ). SpellsString b.0.0 l b.0.1) (sym (byte_sound 34 at a.0 a.1)) (string_sound a.0.1 b.0 b.1));
      colon = byte_sound 58 (skip_white b.0.1) c.0 c.1;
      then = sym (ap (λ (p : List ℕ × List ℕ). p.1) same);
    }

record ReadMembers (depth : ℕ) (done : List (List ℕ × Value)) (at : List ℕ) (ms : List (List ℕ × Value)) (rest : List ℕ) : Type 0 where
  key : List ℕ
  item : Tree
  members : Members
  start : List ℕ
  behind : List ℕ
  keyed : SpellsKey key at start
  spelled : Spells item depth start behind
  more : MoreMembers members depth (skip_white behind) rest
  is_list : settled_members (insert_entry bytes_eq done key (settled item)) members ≡ ms

record MemberRead (inner : List ℕ → Result (Value × List ℕ) Broken) (done : List (List ℕ × Value)) (at : List ℕ) (r : (Bool × List (List ℕ × Value)) × List ℕ) : Type 0 where
  key : List ℕ × List ℕ
  keyed : key_at at ≡ Ok key
  item : Value × List ℕ
  read : inner key.1 ≡ Ok item
  next : Bool × List ℕ
  went_on : next_at 125 item.1 ≡ Ok next
  is_turn : r ≡ ((next.0, insert_entry bytes_eq done key.0 item.0), next.1)

member_read : (inner : List ℕ → Result (Value × List ℕ) Broken) (done : List (List ℕ × Value)) (at : List ℕ) (r : (Bool × List (List ℕ × Value)) × List ℕ) → member_at inner done at ≡ Ok r → MemberRead inner done at r
unfolding member_at
member_read inner done at r e =
    let k = bind_ok (key_at at) (λ key. inner key.1 >>= λ item. next_at 125 item.1 >>= λ next. Ok ((next.0, insert_entry bytes_eq done key.0 item.0), next.1)) r e in
    let a = bind_ok (inner k.0.1) (λ item. next_at 125 item.1 >>= λ next. Ok ((next.0, insert_entry bytes_eq done k.0.0 item.0), next.1)) r k.2 in
    let b = bind_ok (next_at 125 a.0.1) (λ next. Ok ((next.0, insert_entry bytes_eq done k.0.0 a.0.0), next.1)) r a.2 in
    record { key = k.0; keyed = k.1; item = a.0; read = a.1; next = b.0; went_on = b.1; is_turn = sym (ok_is ((b.0.0, insert_entry bytes_eq done k.0.0 a.0.0), b.0.1) r b.2) }

members_sound : (depth : ℕ) (inner : List ℕ → Result (Value × List ℕ) Broken) → AreSound depth inner → (most : ℕ) (done : List (List ℕ × Value)) (at : List ℕ) (r : List (List ℕ × Value) × List ℕ) → turns (member_at inner) most done at ≡ Ok r → ReadMembers depth done at r.0 r.1
members_sound depth inner sound zero done at r e = absurd (broken_not_ok (broken Syntax []) r e)
members_sound depth inner sound (suc most) done at r e =
    let a = bind_ok (member_at inner done at) (λ t. cond t.0.0 (turns (member_at inner) most t.0.1 t.1) (Ok (t.0.1, t.1))) r e in
    let i = member_read inner done at a.0 a.1 in
    let step : cond i.next.0 (turns (member_at inner) most (insert_entry bytes_eq done i.key.0 i.item.0) i.next.1) (Ok (insert_entry bytes_eq done i.key.0 i.item.0, i.next.1)) ≡ Ok r = rw i.is_turn at a.2 in
    let keyed = key_sound at i.key i.keyed in
    let item = sound i.key.1 i.item i.read in
    elim (next_sound 125 i.item.1 i.next i.went_on) [
      | inl p ↦ last i.key i.item i.next r p.0 p.1 keyed item step
      | inr p ↦ more_read i.key i.item i.next r p.0 p.1 p.2 p.3 keyed item step (λ s. members_sound depth inner sound most (insert_entry bytes_eq done i.key.0 i.item.0) i.next.1 r s)
    ]
  where
    last : (key : List ℕ × List ℕ) (item : Value × List ℕ) (next : Bool × List ℕ) (r : List (List ℕ × Value) × List ℕ) → next.0 ≡ false → skip_white item.1 ≡ 125 ∷ next.1 → SpellsKey key.0 at key.1 → Read depth key.1 item.0 item.1
        → cond next.0 (turns (member_at inner) most (insert_entry bytes_eq done key.0 item.0) next.1) (Ok (insert_entry bytes_eq done key.0 item.0, next.1)) ≡ Ok r → ReadMembers depth done at r.0 r.1
    last key item next r ends closes keyed read step =
        let same : (insert_entry bytes_eq done key.0 item.0, next.1) ≡ r = ok_is (insert_entry bytes_eq done key.0 item.0, next.1) r (rw ends at step) in
        let rest : next.1 ≡ r.1 = ap (λ (p : List (List ℕ × Value) × List ℕ). p.1) same in
        record { key = key.0; item = read.tree; members = no_members; start = key.1; behind = item.1; keyed = keyed; spelled = read.spelled; more = closes ∙ ap (λ (l : List ℕ). 125 ∷ l) rest; is_list = ap (λ (v : Value). insert_entry bytes_eq done key.0 v) read.is_value ∙ ap (λ (p : List (List ℕ × Value) × List ℕ). p.0) same }

    more_read : (key : List ℕ × List ℕ) (item : Value × List ℕ) (next : Bool × List ℕ) (r : List (List ℕ × Value) × List ℕ) (inside : List ℕ) → next.0 ≡ true → skip_white item.1 ≡ 44 ∷ inside → next.1 ≡ skip_white inside → SpellsKey key.0 at key.1 → Read depth key.1 item.0 item.1
        → cond next.0 (turns (member_at inner) most (insert_entry bytes_eq done key.0 item.0) next.1) (Ok (insert_entry bytes_eq done key.0 item.0, next.1)) ≡ Ok r
        → (turns (member_at inner) most (insert_entry bytes_eq done key.0 item.0) next.1 ≡ Ok r → ReadMembers depth (insert_entry bytes_eq done key.0 item.0) next.1 r.0 r.1) → ReadMembers depth done at r.0 r.1
    more_read key item next r inside goes comma start keyed read step others =
        let o = others (rw goes at step) in
        record {
          key = key.0;
          item = read.tree;
          members = member_then o.key o.item o.members;
          start = key.1;
          behind = item.1;
          keyed = keyed;
          spelled = read.spelled;
          more = (inside, o.start, o.behind, comma, subst (λ (l : List ℕ). SpellsKey o.key l o.start) start o.keyed, o.spelled, o.more);
          is_list = ap (λ (v : Value). settled_members (insert_entry bytes_eq (insert_entry bytes_eq done key.0 v) o.key (settled o.item)) o.members) read.is_value ∙ o.is_list;
        }

object_sound : (depth : ℕ) (inner : List ℕ → Result (Value × List ℕ) Broken) → AreSound depth inner → (at : List ℕ) (r : List (List ℕ × Value) × List ℕ) → object_at inner at ≡ Ok r → (members : Members) × SpellsMembers members depth (skip_white at) r.1 × (settled_members [] members ≡ r.0)
unfolding object_at
object_sound depth inner sound at r e =
    elim (chosen (begins_with 125 (skip_white at)) (Ok ([], drop 1 (skip_white at))) (turns (member_at inner) (suc (length (skip_white at))) [] (skip_white at)) (Ok r) e) [
      | inl p ↦ (let same = ok_is ([], drop 1 (skip_white at)) r p.1 in
          (no_members, begins_parts 125 (skip_white at) p.0 ∙ ap (λ (p : List (List ℕ × Value) × List ℕ). 125 ∷ p.1) same, ap (λ (p : List (List ℕ × Value) × List ℕ). p.0) same))
      | inr p ↦ (let i = members_sound depth inner sound (suc (length (skip_white at))) [] (skip_white at) r p.1 in
          (member_then i.key i.item i.members, (i.start, i.behind, i.keyed, i.spelled, i.more), i.is_list))
    ]

-- ---- values

scalar_sound : (depth : ℕ) (at : List ℕ) (r : Value × List ℕ) → scalar_at at ≡ Ok r → Read depth at r.0 r.1
unfolding scalar_at
scalar_sound depth [] r e = absurd (broken_not_ok (broken Syntax []) r e)
scalar_sound depth (b ∷ at) r e =
    elim (chosen (b == 34) _ _ (Ok r) e) [
      | inl p ↦ (let x = wrap_ok (text_at at) (λ text. value.String text) r p.1 in
          record { tree = text x.0.0; spelled = subst (λ (l : List ℕ). SpellsString x.0.0 (b ∷ at) l) x.3 (subst (λ (k : ℕ). SpellsString x.0.0 (k ∷ at) x.0.1) (sym (eqb-true b 34 p.0)) (string_sound at x.0 x.1)); is_value = x.2 })
      | inr p ↦ (elim (chosen (b == 110) _ _ (Ok r) p.1) [
        | inl q ↦ (let x = wrap_ok (word_at (codes "null") (b ∷ at)) (λ word. value.Null) r q.1 in
            record { tree = null; spelled = word_sound (codes "null") (b ∷ at) x.0 x.1 ∙ ap (λ (l : List ℕ). codes "null" ++ l) x.3; is_value = x.2 })
        | inr q ↦ (elim (chosen (b == 116) _ _ (Ok r) q.1) [
          | inl s ↦ (let x = wrap_ok (word_at (codes "true") (b ∷ at)) (λ word. value.Bool true) r s.1 in
              record { tree = boolean true; spelled = word_sound (codes "true") (b ∷ at) x.0 x.1 ∙ ap (λ (l : List ℕ). codes "true" ++ l) x.3; is_value = x.2 })
          | inr s ↦ (elim (chosen (b == 102) _ _ (Ok r) s.1) [
            | inl t ↦ (let x = wrap_ok (word_at (codes "false") (b ∷ at)) (λ word. value.Bool false) r t.1 in
                record { tree = boolean false; spelled = word_sound (codes "false") (b ∷ at) x.0 x.1 ∙ ap (λ (l : List ℕ). codes "false" ++ l) x.3; is_value = x.2 })
            | inr t ↦ (elim (chosen (is_minus b || is_digit b) _ _ (Ok r) t.1) [
              | inl u ↦ (let x = wrap_ok (number_at (b ∷ at)) (λ z. value.Number z) r u.1 in
                  record { tree = number x.0.0; spelled = subst (λ (l : List ℕ). SpellsNumber x.0.0 (b ∷ at) l) x.3 (number_sound (b ∷ at) x.0 x.1); is_value = x.2 })
              | inr u ↦ absurd (broken_not_ok (broken Syntax (b ∷ at)) r u.1)
            ])
          ])
        ])
      ])
    ]

pub value_sound : (depth : ℕ) → AreSound depth (value_at depth)
unfolding value_at
value_sound zero [] r e = scalar_sound 0 [] r e
value_sound zero (b ∷ at) r e = elim (chosen ((b == 91) || (b == 123)) (fails Depth (b ∷ at)) (scalar_at (b ∷ at)) (Ok r) e) [
  | inl p ↦ absurd (broken_not_ok (broken Depth (b ∷ at)) r p.1)
  | inr p ↦ scalar_sound 0 (b ∷ at) r p.1
]
value_sound (suc depth) [] r e = scalar_sound (suc depth) [] r e
value_sound (suc depth) (b ∷ at) r e = nested (value_sound depth) (chosen (b == 91) _ _ (Ok r) e)
  where
    nested : AreSound depth (value_at depth) → ((((b == 91) ≡ true) × ((array_at (value_at depth) at >>= λ array. Ok (value.Array array.0, array.1)) ≡ Ok r))
        ⊎ (((b == 91) ≡ false) × ((cond (b == 123) (object_at (value_at depth) at >>= λ object. Ok (value.Object object.0, object.1)) (scalar_at (b ∷ at))) ≡ Ok r))) → Read (suc depth) (b ∷ at) r.0 r.1
    nested sound (inl p) =
        let x = wrap_ok (array_at (value_at depth) at) (λ items. value.Array items) r p.1 in
        let s = array_sound depth (value_at depth) sound at x.0 x.1 in
        record { tree = array s.0; spelled = (depth, at, refl, ap (λ (k : ℕ). k ∷ at) (eqb-true b 91 p.0), subst (λ (l : List ℕ). SpellsItems s.0 depth (skip_white at) l) x.3 s.1); is_value = ap (λ (vs : List Value). value.Array vs) s.2 ∙ x.2 }
    nested sound (inr p) = elim (chosen (b == 123) (object_at (value_at depth) at >>= λ object. Ok (value.Object object.0, object.1)) (scalar_at (b ∷ at)) (Ok r) p.1) [
      | inl q ↦ (let x = wrap_ok (object_at (value_at depth) at) (λ members. value.Object members) r q.1 in
          let s = object_sound depth (value_at depth) sound at x.0 x.1 in
          record { tree = object s.0; spelled = (depth, at, refl, ap (λ (k : ℕ). k ∷ at) (eqb-true b 123 q.0), subst (λ (l : List ℕ). SpellsMembers s.0 depth (skip_white at) l) x.3 s.1); is_value = ap (λ (ms : List (List ℕ × Value)). value.Object ms) s.2 ∙ x.2 })
      | inr q ↦ scalar_sound (suc depth) (b ∷ at) r q.1
    ]

-- ---- texts

placed_ok : {A : Type 0} (len : ℕ) (r : Result A Broken) (x : A) → placed len r ≡ Ok x → r ≡ Ok x
placed_ok len (Ok y) x e = cc
placed_ok len (Err d) x e = absurd cc

ended_ok : (v w : Value) (at : List ℕ) → ended v at ≡ Ok w → (at ≡ []) × (v ≡ w)
ended_ok v w [] e = (refl, ok_is v w e)
ended_ok v w (b ∷ at) e = absurd (broken_not_ok (broken Syntax (b ∷ at)) w e)

pub whole_sound : (bytes : List ℕ) (v : Value) → text_value bytes ≡ Ok v → JsonText bytes v
unfolding whole_value first_value
whole_sound bytes v e =
    let read = placed_ok (length bytes) (whole_value 127 bytes) v e in
    let a = bind_ok (value_at 127 (skip_white bytes)) (λ read. ended read.0 (skip_white read.1)) v read in
    let ends = ended_ok a.0.0 v (skip_white a.0.1) a.2 in
    let r = value_sound 127 (skip_white bytes) a.0 a.1 in
    record { tree = r.tree; behind = a.0.1; spelled = r.spelled; nothing_more = ends.0; is_value = r.is_value ∙ ends.1 }

pub front_sound : (bytes : List ℕ) (v : Value) → text_front bytes ≡ Ok v → JsonFront bytes v
unfolding first_value
front_sound bytes v e =
    let read = placed_ok (length bytes) (front_value bytes) v e in
    let a = bind_ok (value_at 127 (skip_white bytes)) (λ read. Ok read.0) v read in
    let r = value_sound 127 (skip_white bytes) a.0 a.1 in
    record { tree = r.tree; behind = a.0.1; spelled = r.spelled; is_value = r.is_value ∙ ok_is a.0.0 v a.2 }
