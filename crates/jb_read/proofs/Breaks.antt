-- What is refused is broken, and what is broken is refused.
use Rattle.std.proofs.Common.{◌≡◌, ℕ, zero, suc, ◌≤◌, Bool, true, false, cond, ◌⊎◌, inl, inr, List, [], ◌∷◌, ◌++◌, length, drop, Result, Ok, Err, refl, sym, ap, subst, ◌∙◌, arith}
use Rattle.std.specs.Prelude.{◌==◌, ◌||◌}
use Rattle.std.specs.Str.{bytes_eq}
use Rattle.std.proofs.lemmas.Bool.{eqb-true, or_parts, or_from}
use Rattle.indexmap.specs.IndexMap.{insert_entry}
use Rattle.jb_tree.specs.declared.value.Value.{Value}
use Rattle.jb_tree.specs.declared.value.Value.TheVariants as value
use Rattle.jb_tree.specs.Tree.{Trees, Members, no_trees, tree_then, no_members, member_then}
use Rattle.jb_read.specs.declared.fault.Broken.{Broken}
use Rattle.jb_read.specs.declared.fault.FaultKind.TheVariants.{Syntax, Depth}
use Rattle.jb_read.specs.declared.fault.ReadFault.{ReadFault}
use Rattle.jb_read.specs.Bytes.{skip_white}
use Rattle.jb_read.specs.Reading.{◌>>=◌, broken, turns}
use Rattle.jb_read.specs.Values.{begins_with, item_at, member_at, array_at, object_at, scalar_at, value_at, first_value, ended, whole_value}
use Rattle.jb_read.specs.Texts.{placed, place_of, text_value, text_front}
use Rattle.jb_read.specs.Spelling.{settled}
use Rattle.jb_read.specs.Faults.{opens, ItemsBefore, MembersBefore, Breaks, scalar, deep, in_item, behind_item, in_key, in_member, behind_member, Trails, JsonFault, FrontFault}
use Rattle.jb_read.proofs.Steps.{chosen}
use Rattle.jb_read.proofs.Sound.{value_sound}
use Rattle.jb_read.proofs.ScalarBreaks.{scalar_breaks, scalar_stops, key_breaks, key_stops}
use Rattle.jb_read.proofs.Complete.{value_at_scalar_byte, spells_complete, key_complete, item_turn, member_turn, goes, goes_member, comma_le, no_comma, left_le, key_within}
use Rattle.jb_read.proofs.BreaksWithin.{gave, err_is, answer, wrap_err, next_refused, InItem, BehindItem, item_refused, after_refused, items_break, MembersFault, key_refused, member_refused, after_member_refused, members_break}

-- ---- values

array_break : (depth : ℕ) → ((at : List ℕ) (e : Broken) → value_at depth at ≡ Err e → Breaks e depth at) → (inside : List ℕ) (e : Broken) → array_at (value_at depth) inside ≡ Err e → Breaks e (suc depth) (91 ∷ inside)
unfolding array_at
array_break depth broken_at inside e h = by_test (begins_with 93 (skip_white inside)) refl h
  where
    by_fault : begins_with 93 (skip_white inside) ≡ false → InItem e depth (skip_white inside) ⊎ BehindItem e depth (skip_white inside) → Breaks e (suc depth) (91 ∷ inside)
    by_fault t (inl f) = in_item depth inside t f.before f.start f.parts f.breaks
    by_fault t (inr f) = behind_item depth inside t f.before f.start f.parts f.item f.behind f.spelled f.unended

    by_test : (t : Bool) → begins_with 93 (skip_white inside) ≡ t → cond t (gave {A = List Value} [] (drop 1 (skip_white inside))) (turns (item_at (value_at depth)) (suc (length (skip_white inside))) [] (skip_white inside)) ≡ Err e → Breaks e (suc depth) (91 ∷ inside)
    by_test true t s = absurd cc
    by_test false t s = by_fault t (items_break depth broken_at (length (skip_white inside)) [] (skip_white inside) e (omega arith) s)

object_break : (depth : ℕ) → ((at : List ℕ) (e : Broken) → value_at depth at ≡ Err e → Breaks e depth at) → (inside : List ℕ) (e : Broken) → object_at (value_at depth) inside ≡ Err e → Breaks e (suc depth) (123 ∷ inside)
unfolding object_at
object_break depth broken_at inside e h = by_test (begins_with 125 (skip_white inside)) refl h
  where
    by_fault : begins_with 125 (skip_white inside) ≡ false → MembersFault e depth (skip_white inside) → Breaks e (suc depth) (123 ∷ inside)
    by_fault t (inl f) = in_key depth inside t f.before f.start f.parts (key_breaks f.start e f.breaks)
    by_fault t (inr (inl f)) = in_member depth inside t f.before f.start f.parts f.key f.inside f.keyed f.breaks
    by_fault t (inr (inr f)) = behind_member depth inside t f.before f.start f.parts f.key f.inside f.keyed f.item f.behind f.spelled f.unended

    by_test : (t : Bool) → begins_with 125 (skip_white inside) ≡ t → cond t (gave {A = List (List ℕ × Value)} [] (drop 1 (skip_white inside))) (turns (member_at (value_at depth)) (suc (length (skip_white inside))) [] (skip_white inside)) ≡ Err e → Breaks e (suc depth) (123 ∷ inside)
    by_test true t s = absurd cc
    by_test false t s = by_fault t (members_break depth broken_at (length (skip_white inside)) [] (skip_white inside) e (omega arith) s)

abbrev stopped : Broken → Result (Value × List ℕ) Broken
stopped e = Err e

break_is : (d e : Broken) → stopped d ≡ stopped e → e ≡ d
break_is d e h = cc

value_breaks : (depth : ℕ) (at : List ℕ) (e : Broken) → value_at depth at ≡ Err e → Breaks e depth at
unfolding value_at
value_breaks zero [] e h = scalar 0 [] refl (scalar_breaks [] e h)
value_breaks zero (b ∷ at) e h = elim (chosen ((b == 91) || (b == 123)) (Err (broken Depth (b ∷ at))) (scalar_at (b ∷ at)) (Err e) h) [
  | inl p ↦ deep (b ∷ at) p.0 (break_is (broken Depth (b ∷ at)) e p.1)
  | inr p ↦ scalar 0 (b ∷ at) p.0 (scalar_breaks (b ∷ at) e p.1)
]
value_breaks (suc depth) [] e h = scalar (suc depth) [] refl (scalar_breaks [] e h)
value_breaks (suc depth) (b ∷ at) e h = nested (value_breaks depth) (chosen (b == 91) _ _ (Err e) h)
  where
    nested : ((at : List ℕ) (e : Broken) → value_at depth at ≡ Err e → Breaks e depth at) → ((((b == 91) ≡ true) × ((array_at (value_at depth) at >>= λ array. gave (value.Array array.0) array.1) ≡ Err e))
        ⊎ (((b == 91) ≡ false) × ((cond (b == 123) (object_at (value_at depth) at >>= λ object. gave (value.Object object.0) object.1) (scalar_at (b ∷ at))) ≡ Err e))) → Breaks e (suc depth) (b ∷ at)
    nested inner (inl p) = subst (λ (k : ℕ). Breaks e (suc depth) (k ∷ at)) (sym (eqb-true b 91 p.0)) (array_break depth inner at e (wrap_err (array_at (value_at depth) at) (λ items. value.Array items) e p.1))
    nested inner (inr p) = elim (chosen (b == 123) (object_at (value_at depth) at >>= λ object. gave (value.Object object.0) object.1) (scalar_at (b ∷ at)) (Err e) p.1) [
      | inl q ↦ subst (λ (k : ℕ). Breaks e (suc depth) (k ∷ at)) (sym (eqb-true b 123 q.0)) (object_break depth inner at e (wrap_err (object_at (value_at depth) at) (λ ms. value.Object ms) e q.1))
      | inr q ↦ scalar (suc depth) (b ∷ at) (or_from (b == 91) (b == 123) p.0 q.0) (scalar_breaks (b ∷ at) e q.1)
    ]

-- ---- what is broken is refused

record Reached (depth : ℕ) (start : List ℕ) (now : Result (List Value × List ℕ) Broken) : Type 0 where
  most : ℕ
  made : List Value
  enough : length start ≤ most
  same : now ≡ turns (item_at (value_at depth)) (suc most) made start

items_reach : (before : Trees) (depth most : ℕ) (made : List Value) (at start : List ℕ) → ItemsBefore before depth at start → length at ≤ most → Reached depth start (turns (item_at (value_at depth)) (suc most) made at)
items_reach no_trees depth most made at start p le = record { most = most; made = made; enough = omega (arith, ap length p); same = ap (turns (item_at (value_at depth)) (suc most) made) p }
items_reach (tree_then item items) depth zero made at start p le = absurd (no_comma p.0 p.1 (left_le 0 depth at (settled item) p.0 le (spells_complete item depth at p.0 p.2)) p.3)
items_reach (tree_then item items) depth (suc most) made at start p le =
    let read = spells_complete item depth at p.0 p.2 in
    let r = items_reach items depth most (made ++ settled item ∷ []) (skip_white p.1) start p.4 (comma_le most p.0 p.1 (left_le (suc most) depth at (settled item) p.0 le read) p.3) in
    record { most = r.most; made = r.made; enough = r.enough; same = item_turn (value_at depth) (suc most) made at (settled item) p.0 read ∙ goes (value_at depth) (suc most) made (settled item) p.0 p.1 p.3 ∙ r.same }

record ReachedMember (depth : ℕ) (start : List ℕ) (now : Result (List (List ℕ × Value) × List ℕ) Broken) : Type 0 where
  most : ℕ
  made : List (List ℕ × Value)
  enough : length start ≤ most
  same : now ≡ turns (member_at (value_at depth)) (suc most) made start

members_reach : (before : Members) (depth most : ℕ) (made : List (List ℕ × Value)) (at start : List ℕ) → MembersBefore before depth at start → length at ≤ most → ReachedMember depth start (turns (member_at (value_at depth)) (suc most) made at)
members_reach no_members depth most made at start p le = record { most = most; made = made; enough = omega (arith, ap length p); same = ap (turns (member_at (value_at depth)) (suc most) made) p }
members_reach (member_then key item others) depth zero made at start p le = absurd (no_comma p.1 p.2 (left_le 0 depth p.0 (settled item) p.1 (key_within 0 at p.0 key le p.3) (spells_complete item depth p.0 p.1 p.4)) p.5)
members_reach (member_then key item others) depth (suc most) made at start p le =
    let read = spells_complete item depth p.0 p.1 p.4 in
    let r = members_reach others depth most (insert_entry bytes_eq made key (settled item)) (skip_white p.2) start p.6 (comma_le most p.1 p.2 (left_le (suc most) depth p.0 (settled item) p.1 (key_within (suc most) at p.0 key le p.3) read) p.5) in
    record { most = r.most; made = r.made; enough = r.enough; same = member_turn (value_at depth) (suc most) made at p.0 key (settled item) p.1 p.3 read ∙ goes_member (value_at depth) (suc most) (insert_entry bytes_eq made key (settled item)) p.1 p.2 p.5 ∙ r.same }

scalar_refused : (depth : ℕ) (at : List ℕ) (e : Broken) → opens at ≡ false → scalar_at at ≡ Err e → value_at depth at ≡ Err e
unfolding value_at
scalar_refused zero [] e o h = h
scalar_refused (suc depth) [] e o h = h
scalar_refused depth (b ∷ at) e o h = let p = or_parts (b == 91) (b == 123) o in value_at_scalar_byte depth b at p.0 p.1 ∙ h

deep_refused : (at : List ℕ) → opens at ≡ true → value_at 0 at ≡ stopped (broken Depth at)
unfolding value_at
deep_refused [] o = absurd cc
deep_refused (b ∷ at) o = rw o refl

array_refused : (depth : ℕ) (inside : List ℕ) (e : Broken) → begins_with 93 (skip_white inside) ≡ false → turns (item_at (value_at depth)) (suc (length (skip_white inside))) [] (skip_white inside) ≡ Err e → value_at (suc depth) (91 ∷ inside) ≡ Err e
unfolding value_at array_at
array_refused depth inside e o h = rw (o, h) refl

object_refused : (depth : ℕ) (inside : List ℕ) (e : Broken) → begins_with 125 (skip_white inside) ≡ false → turns (member_at (value_at depth)) (suc (length (skip_white inside))) [] (skip_white inside) ≡ Err e → value_at (suc depth) (123 ∷ inside) ≡ Err e
unfolding value_at object_at
object_refused depth inside e o h = rw (o, h) refl

item_reached : (depth : ℕ) (inside : List ℕ) (e : Broken) → begins_with 93 (skip_white inside) ≡ false → (before : Trees) (start : List ℕ) → ItemsBefore before depth (skip_white inside) start
    → ((most : ℕ) (made : List Value) → turns (item_at (value_at depth)) (suc most) made start ≡ Err e) → value_at (suc depth) (91 ∷ inside) ≡ Err e
item_reached depth inside e o before start parts breaks =
    let r = items_reach before depth (length (skip_white inside)) [] (skip_white inside) start parts (omega arith) in
    array_refused depth inside e o (r.same ∙ breaks r.most r.made)

member_reached : (depth : ℕ) (inside : List ℕ) (e : Broken) → begins_with 125 (skip_white inside) ≡ false → (before : Members) (start : List ℕ) → MembersBefore before depth (skip_white inside) start
    → ((most : ℕ) (made : List (List ℕ × Value)) → turns (member_at (value_at depth)) (suc most) made start ≡ Err e) → value_at (suc depth) (123 ∷ inside) ≡ Err e
member_reached depth inside e o before start parts breaks =
    let r = members_reach before depth (length (skip_white inside)) [] (skip_white inside) start parts (omega arith) in
    object_refused depth inside e o (r.same ∙ breaks r.most r.made)

breaks_refused : (e : Broken) (depth : ℕ) (at : List ℕ) → Breaks e depth at → value_at depth at ≡ Err e
breaks_refused e _ _ (scalar depth at o h) = scalar_refused depth at e o (scalar_stops at e h)
breaks_refused e _ _ (deep at o h) = deep_refused at o ∙ ap (λ (d : Broken). stopped d) (sym h)
breaks_refused e _ _ (in_item depth inside o before start parts b) =
    let inner = breaks_refused e depth start b in
    item_reached depth inside e o before start parts (λ most made. item_refused depth most made start e inner)
breaks_refused e _ _ (behind_item depth inside o before start parts item behind spelled u) =
    item_reached depth inside e o before start parts (λ most made. item_turn (value_at depth) most made start (settled item) behind (spells_complete item depth start behind spelled) ∙ after_refused depth most made (settled item) behind e (next_refused 93 behind e u))
breaks_refused e _ _ (in_key depth inside o before start parts h) = member_reached depth inside e o before start parts (λ most made. key_refused depth most made start e (key_stops start e h))
breaks_refused e _ _ (in_member depth inside o before start parts key at keyed b) =
    let inner = breaks_refused e depth at b in
    member_reached depth inside e o before start parts (λ most made. member_refused depth most made start at key e (key_complete key start at keyed) inner)
breaks_refused e _ _ (behind_member depth inside o before start parts key at keyed item behind spelled u) =
    member_reached depth inside e o before start parts (λ most made. member_turn (value_at depth) most made start at key (settled item) behind keyed (spells_complete item depth at behind spelled)
    ∙ after_member_refused depth most (insert_entry bytes_eq made key (settled item)) behind e (next_refused 125 behind e u))

-- ---- texts

placed_err : {A : Type 0} (len : ℕ) (r : Result A Broken) (f : ReadFault) → placed len r ≡ Err f → (e : Broken) × (r ≡ Err e) × (place_of len e ≡ f)
placed_err len (Ok x) f h = absurd cc
placed_err len (Err e) f h = (e, refl, cc)

ended_breaks : (v : Value) (at : List ℕ) (e : Broken) → ended v at ≡ Err e → (at ≡ [] → ⊥) × (e ≡ broken Syntax at)
ended_breaks v [] e h = absurd cc
ended_breaks v (b ∷ at) e h = (λ n. absurd cc, cc)

ended_refused : (v : Value) (at : List ℕ) → (at ≡ [] → ⊥) → ended v at ≡ Err (broken Syntax at)
ended_refused v [] h = absurd (h refl)
ended_refused v (b ∷ at) h = refl

abbrev rest_of : Value × List ℕ → Result Value Broken
rest_of read = ended read.0 (skip_white read.1)

whole_breaks : (bytes : List ℕ) (e : Broken) → (value_at 127 (skip_white bytes) >>= rest_of) ≡ Err e → Breaks e 127 (skip_white bytes) ⊎ Trails e bytes
whole_breaks bytes e h = by_read (answer (value_at 127 (skip_white bytes)))
  where
    by_read : ((x : Value × List ℕ) × (value_at 127 (skip_white bytes) ≡ Ok x)) ⊎ ((d : Broken) × (value_at 127 (skip_white bytes) ≡ Err d)) → Breaks e 127 (skip_white bytes) ⊎ Trails e bytes
    by_read (inr d) =
        let same : d.0 ≡ e = err_is d.0 e (value_at 127 (skip_white bytes) >>= rest_of) (ap (λ (r : Result (Value × List ℕ) Broken). r >>= rest_of) d.1) h in
        inl (value_breaks 127 (skip_white bytes) e (d.1 ∙ ap (λ (x : Broken). stopped x) same))
    by_read (inl x) =
        let tree = value_sound 127 (skip_white bytes) x.0 x.1 in
        let ends = ended_breaks x.0.0 (skip_white x.0.1) e (sym (ap (λ (r : Result (Value × List ℕ) Broken). r >>= rest_of) x.1) ∙ h) in
        inr (record { tree = tree.tree; behind = x.0.1; spelled = tree.spelled; something = ends.0; fault_is = ends.1 })

whole_refused : (bytes : List ℕ) (e : Broken) → Breaks e 127 (skip_white bytes) ⊎ Trails e bytes → (value_at 127 (skip_white bytes) >>= rest_of) ≡ Err e
whole_refused bytes e (inl b) = ap (λ (r : Result (Value × List ℕ) Broken). r >>= rest_of) (breaks_refused e 127 (skip_white bytes) b)
whole_refused bytes e (inr t) = ap (λ (r : Result (Value × List ℕ) Broken). r >>= rest_of) (spells_complete t.tree 127 (skip_white bytes) t.behind t.spelled) ∙ ended_refused (settled t.tree) (skip_white t.behind) t.something ∙ ap (λ (d : Broken). Err d) (sym t.fault_is)

pub faults_sound : (bytes : List ℕ) (f : ReadFault) → text_value bytes ≡ Err f → JsonFault bytes f
unfolding whole_value first_value
faults_sound bytes f h =
    let p = placed_err (length bytes) (whole_value 127 bytes) f h in
    record { stop = p.0; breaks = whole_breaks bytes p.0 p.1; placed = p.2 }

pub faults_complete : (bytes : List ℕ) (f : ReadFault) → JsonFault bytes f → text_value bytes ≡ Err f
unfolding whole_value first_value
faults_complete bytes f h = ap (placed (length bytes)) (whole_refused bytes h.stop h.breaks) ∙ ap (λ (g : ReadFault). Err g) h.placed

-- ---- the value that a text begins with

abbrev value_of : Value × List ℕ → Result Value Broken
value_of read = Ok read.0

front_stops : (r : Result (Value × List ℕ) Broken) (e : Broken) → (r >>= value_of) ≡ Err e → r ≡ Err e
front_stops (Ok x) e h = absurd cc
front_stops (Err d) e h = cc

pub front_faults_sound : (bytes : List ℕ) (f : ReadFault) → text_front bytes ≡ Err f → FrontFault bytes f
unfolding first_value
front_faults_sound bytes f h =
    let p = placed_err (length bytes) (value_at 127 (skip_white bytes) >>= value_of) f h in
    record { stop = p.0; breaks = value_breaks 127 (skip_white bytes) p.0 (front_stops (value_at 127 (skip_white bytes)) p.0 p.1); placed = p.2 }

pub front_faults_complete : (bytes : List ℕ) (f : ReadFault) → FrontFault bytes f → text_front bytes ≡ Err f
unfolding first_value
front_faults_complete bytes f h =
    ap (λ (r : Result (Value × List ℕ) Broken). placed (length bytes) (r >>= value_of)) (breaks_refused h.stop 127 (skip_white bytes) h.breaks) ∙ ap (λ (g : ReadFault). Err g) h.placed
