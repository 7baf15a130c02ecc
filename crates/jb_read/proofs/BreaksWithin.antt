-- Where the items of an array and the members of an object break, and what follows one that is read.
use Rattle.std.proofs.Common.{◌≡◌, ℕ, zero, suc, ◌≤◌, Bool, true, false, cond, ◌⊎◌, inl, inr, List, [], ◌∷◌, ◌++◌, length, drop, Result, Ok, Err, refl, sym, ap, ◌∙◌}
use Rattle.std.specs.Prelude.{◌==◌}
use Rattle.std.specs.Str.{bytes_eq}
use Rattle.indexmap.specs.IndexMap.{insert_entry}
use Rattle.jb_tree.specs.declared.value.Value.{Value}
use Rattle.jb_tree.specs.Tree.{Tree, Trees, Members, no_trees, tree_then, no_members, member_then}
use Rattle.jb_read.specs.declared.fault.Broken.{Broken}
use Rattle.jb_read.specs.declared.fault.FaultKind.TheVariants.{Syntax}
use Rattle.jb_read.specs.Bytes.{skip_white}
use Rattle.jb_read.specs.Reading.{◌>>=◌, broken, byte_at, turns}
use Rattle.jb_read.specs.Values.{begins_with, next_at, item_at, key_at, member_at, value_at}
use Rattle.jb_read.specs.Spelling.{Spells, SpellsKey}
use Rattle.jb_read.specs.Faults.{ItemsBefore, MembersBefore, Unended, Breaks}
use Rattle.jb_read.proofs.Steps.{next_sound}
use Rattle.jb_read.proofs.Sound.{value_sound, key_sound}
use Rattle.jb_read.proofs.Complete.{item_turn, member_turn, after_item, after_member, goes, goes_member, comma_le, no_comma, left_le, key_within}

abbrev pub gave : {A : Type 0} → A → List ℕ → Result (A × List ℕ) Broken
gave x rest = Ok (x, rest)

-- a comma that was read, and the white space behind it
abbrev pub and_more : Unit {0} × List ℕ → Result (Bool × List ℕ) Broken
and_more comma = Ok (true, skip_white comma.1)

pub err_is : {A : Type 0} (d e : Broken) (r : Result A Broken) → r ≡ Err d → r ≡ Err e → d ≡ e
err_is d e (Ok x) p q = absurd cc
err_is d e (Err b) p q = cc

-- a result is one or the other
pub answer : {A : Type 0} (r : Result A Broken) → ((x : A) × (r ≡ Ok x)) ⊎ ((e : Broken) × (r ≡ Err e))
answer (Ok x) = inl (x, refl)
answer (Err e) = inr (e, refl)

pub wrap_err : {A : Type 0} (r : Result (A × List ℕ) Broken) (make : A → Value) (e : Broken) → (r >>= λ x. gave (make x.0) x.1) ≡ Err e → r ≡ Err e
wrap_err (Ok x) make e h = absurd cc
wrap_err (Err d) make e h = cc

-- ---- behind an item or a member

pub byte_breaks : (b : ℕ) (at : List ℕ) (e : Broken) → byte_at b at ≡ Err e → (begins_with b at ≡ false) × (e ≡ broken Syntax at)
byte_breaks b [] e h = (refl, cc)
byte_breaks b (c ∷ at) e h = by_test (c == b) refl h
  where
    by_test : (t : Bool) → (c == b) ≡ t → cond t (gave {A = Unit {0}} tt at) (Err (broken Syntax (c ∷ at))) ≡ Err e → ((c == b) ≡ false) × (e ≡ broken Syntax (c ∷ at))
    by_test true t h = absurd cc
    by_test false t h = (t, cc)

pub next_breaks : (close : ℕ) (at : List ℕ) (e : Broken) → next_at close at ≡ Err e → Unended e close at
unfolding next_at
next_breaks close at e h = by_test (begins_with close (skip_white at)) refl h
  where
    by_comma : (r : Result (Unit {0} × List ℕ) Broken) → (r >>= and_more) ≡ Err e → r ≡ Err e
    by_comma (Ok x) h = absurd cc
    by_comma (Err d) h = cc

    by_test : (t : Bool) → begins_with close (skip_white at) ≡ t → cond t (gave false (drop 1 (skip_white at))) (byte_at 44 (skip_white at) >>= and_more) ≡ Err e → Unended e close at
    by_test true t h = absurd cc
    by_test false t h = let b = byte_breaks 44 (skip_white at) e (by_comma (byte_at 44 (skip_white at)) h) in record { no_close = t; no_comma = b.0; fault_is = b.1 }

pub next_refused : (close : ℕ) (at : List ℕ) (e : Broken) → Unended e close at → next_at close at ≡ Err e
unfolding next_at
next_refused close at e u = rw u.no_close (by_comma (skip_white at) u.no_comma) ∙ ap (λ (d : Broken). Err d) (sym u.fault_is)
  where
    by_comma : (rest : List ℕ) → begins_with 44 rest ≡ false → (byte_at 44 rest >>= and_more) ≡ Err (broken Syntax rest)
    by_comma [] e = refl
    by_comma (c ∷ rest) e = rw e refl

-- ---- items

pub record InItem (e : Broken) (depth : ℕ) (at : List ℕ) : Type 0 where
  pub before : Trees
  pub start : List ℕ
  pub parts : ItemsBefore before depth at start
  pub breaks : Breaks e depth start

pub record BehindItem (e : Broken) (depth : ℕ) (at : List ℕ) : Type 0 where
  pub before : Trees
  pub start : List ℕ
  pub parts : ItemsBefore before depth at start
  pub item : Tree
  pub behind : List ℕ
  pub spelled : Spells item depth start behind
  pub unended : Unended e 93 behind

-- an item that was read, and the comma behind it
pub record Onward (depth : ℕ) (at : List ℕ) : Type 0 where
  pub v : Value
  pub behind : List ℕ
  pub next : List ℕ
  pub read : value_at depth at ≡ Ok (v, behind)
  pub comma : skip_white behind ≡ 44 ∷ next

pub item_refused : (depth most : ℕ) (made : List Value) (at : List ℕ) (e : Broken) → value_at depth at ≡ Err e → turns (item_at (value_at depth)) (suc most) made at ≡ Err e
unfolding item_at
item_refused depth most made at e h = rw h refl

pub after_refused : (depth most : ℕ) (made : List Value) (v : Value) (behind : List ℕ) (e : Broken) → next_at 93 behind ≡ Err e → after_item (value_at depth) most made v behind ≡ Err e
unfolding after_item
after_refused depth most made v behind e h = rw h refl

pub after_ended : (depth most : ℕ) (made : List Value) (v : Value) (behind : List ℕ) (next : Bool × List ℕ) → next_at 93 behind ≡ Ok next → next.0 ≡ false → after_item (value_at depth) most made v behind ≡ gave (made ++ v ∷ []) next.1
unfolding after_item
after_ended depth most made v behind next h f = rw (h, f) refl

pub not_both : {A : Type 0} (r : Result A Broken) (x : A) (e : Broken) → r ≡ Ok x → r ≡ Err e → ⊥
not_both (Ok y) x e p q = absurd cc
not_both (Err d) x e p q = absurd cc

pub items_step : (depth : ℕ) → ((at : List ℕ) (e : Broken) → value_at depth at ≡ Err e → Breaks e depth at) → (most : ℕ) (made : List Value) (at : List ℕ) (e : Broken) → turns (item_at (value_at depth)) (suc most) made at ≡ Err e
    → (InItem e depth at ⊎ BehindItem e depth at) ⊎ ((o : Onward depth at) × (turns (item_at (value_at depth)) most (made ++ o.v ∷ []) (skip_white o.next) ≡ Err e))
items_step depth broken_at most made at e h = by_item (answer (value_at depth at))
  where
    by_next : (x : Value × List ℕ) → value_at depth at ≡ Ok x → ((next : Bool × List ℕ) × (next_at 93 x.1 ≡ Ok next)) ⊎ ((d : Broken) × (next_at 93 x.1 ≡ Err d)) → after_item (value_at depth) most made x.0 x.1 ≡ Err e
        → (InItem e depth at ⊎ BehindItem e depth at) ⊎ ((o : Onward depth at) × (turns (item_at (value_at depth)) most (made ++ o.v ∷ []) (skip_white o.next) ≡ Err e))
    by_next x read (inr n) s =
        let same : n.0 ≡ e = err_is n.0 e (after_item (value_at depth) most made x.0 x.1) (after_refused depth most made x.0 x.1 n.0 n.1) s in
        let tree = value_sound depth at x read in
        inl (inr (record { before = no_trees; start = at; parts = refl; item = tree.tree; behind = x.1; spelled = tree.spelled; unended = next_breaks 93 x.1 e (n.1 ∙ ap (λ (d : Broken). Err d) same) }))
    by_next x read (inl n) s = elim (next_sound 93 x.1 n.0 n.1) [
      | inl p ↦ absurd (not_both (after_item (value_at depth) most made x.0 x.1) (made ++ x.0 ∷ [], n.0.1) e (after_ended depth most made x.0 x.1 n.0 n.1 p.0) s)
      | inr p ↦ inr (record { v = x.0; behind = x.1; next = p.0; read = read; comma = p.2 }, sym (goes (value_at depth) most made x.0 x.1 p.0 p.2) ∙ s)
    ]

    by_item : ((x : Value × List ℕ) × (value_at depth at ≡ Ok x)) ⊎ ((d : Broken) × (value_at depth at ≡ Err d))
        → (InItem e depth at ⊎ BehindItem e depth at) ⊎ ((o : Onward depth at) × (turns (item_at (value_at depth)) most (made ++ o.v ∷ []) (skip_white o.next) ≡ Err e))
    by_item (inr d) =
        let same : d.0 ≡ e = err_is d.0 e (turns (item_at (value_at depth)) (suc most) made at) (item_refused depth most made at d.0 d.1) h in
        inl (inl (record { before = no_trees; start = at; parts = refl; breaks = broken_at at e (d.1 ∙ ap (λ (x : Broken). Err x) same) }))
    by_item (inl x) = by_next x.0 x.1 (answer (next_at 93 x.0.1)) (sym (item_turn (value_at depth) most made at x.0.0 x.0.1 x.1) ∙ h)

pub items_break : (depth : ℕ) → ((at : List ℕ) (e : Broken) → value_at depth at ≡ Err e → Breaks e depth at) → (most : ℕ) (made : List Value) (at : List ℕ) (e : Broken) → length at ≤ most → turns (item_at (value_at depth)) (suc most) made at ≡ Err e → InItem e depth at ⊎ BehindItem e depth at
items_break depth broken_at zero made at e le h = elim (items_step depth broken_at 0 made at e h) [
  | inl f ↦ f
  | inr s ↦ absurd (no_comma s.0.behind s.0.next (left_le 0 depth at s.0.v s.0.behind le s.0.read) s.0.comma)
]
items_break depth broken_at (suc most) made at e le h = elim (items_step depth broken_at (suc most) made at e h) [
  | inl f ↦ f
  | inr s ↦ further s.0 (items_break depth broken_at most (made ++ s.0.v ∷ []) (skip_white s.0.next) e (comma_le most s.0.behind s.0.next (left_le (suc most) depth at s.0.v s.0.behind le s.0.read) s.0.comma) s.1)
]
  where
    further : (o : Onward depth at) → InItem e depth (skip_white o.next) ⊎ BehindItem e depth (skip_white o.next) → InItem e depth at ⊎ BehindItem e depth at
    further o (inl f) = let tree = value_sound depth at (o.v, o.behind) o.read in
        inl (record { before = tree_then tree.tree f.before; start = f.start; parts = (o.behind, o.next, tree.spelled, o.comma, f.parts); breaks = f.breaks })
    further o (inr f) = let tree = value_sound depth at (o.v, o.behind) o.read in
        inr (record { before = tree_then tree.tree f.before; start = f.start; parts = (o.behind, o.next, tree.spelled, o.comma, f.parts); item = f.item; behind = f.behind; spelled = f.spelled; unended = f.unended })

-- ---- members

pub record InKey (e : Broken) (depth : ℕ) (at : List ℕ) : Type 0 where
  pub before : Members
  pub start : List ℕ
  pub parts : MembersBefore before depth at start
  pub breaks : key_at start ≡ Err e

pub record InMember (e : Broken) (depth : ℕ) (at : List ℕ) : Type 0 where
  pub before : Members
  pub start : List ℕ
  pub parts : MembersBefore before depth at start
  pub key : List ℕ
  pub inside : List ℕ
  pub keyed : SpellsKey key start inside
  pub breaks : Breaks e depth inside

pub record BehindMember (e : Broken) (depth : ℕ) (at : List ℕ) : Type 0 where
  pub before : Members
  pub start : List ℕ
  pub parts : MembersBefore before depth at start
  pub key : List ℕ
  pub inside : List ℕ
  pub keyed : SpellsKey key start inside
  pub item : Tree
  pub behind : List ℕ
  pub spelled : Spells item depth inside behind
  pub unended : Unended e 125 behind

abbrev pub MembersFault : Broken → ℕ → List ℕ → Type 0
MembersFault e depth at = InKey e depth at ⊎ (InMember e depth at ⊎ BehindMember e depth at)

-- a member that was read, and the comma behind it
pub record OnwardMember (depth : ℕ) (at : List ℕ) : Type 0 where
  pub key : List ℕ
  pub inside : List ℕ
  pub keyed : SpellsKey key at inside
  pub v : Value
  pub behind : List ℕ
  pub next : List ℕ
  pub read : value_at depth inside ≡ Ok (v, behind)
  pub comma : skip_white behind ≡ 44 ∷ next

pub key_refused : (depth most : ℕ) (made : List (List ℕ × Value)) (at : List ℕ) (e : Broken) → key_at at ≡ Err e → turns (member_at (value_at depth)) (suc most) made at ≡ Err e
unfolding member_at
key_refused depth most made at e h = rw h refl

pub member_refused : (depth most : ℕ) (made : List (List ℕ × Value)) (at inside key : List ℕ) (e : Broken) → key_at at ≡ Ok (key, inside) → value_at depth inside ≡ Err e → turns (member_at (value_at depth)) (suc most) made at ≡ Err e
unfolding member_at
member_refused depth most made at inside key e k h = rw (k, h) refl

pub after_member_refused : (depth most : ℕ) (made : List (List ℕ × Value)) (behind : List ℕ) (e : Broken) → next_at 125 behind ≡ Err e → after_member (value_at depth) most made behind ≡ Err e
unfolding after_member
after_member_refused depth most made behind e h = rw h refl

pub after_member_ended : (depth most : ℕ) (made : List (List ℕ × Value)) (behind : List ℕ) (next : Bool × List ℕ) → next_at 125 behind ≡ Ok next → next.0 ≡ false → after_member (value_at depth) most made behind ≡ gave made next.1
unfolding after_member
after_member_ended depth most made behind next h f = rw (h, f) refl

abbrev pub MembersStep : Broken → ℕ → ℕ → List (List ℕ × Value) → List ℕ → Type 0
MembersStep e depth most made at = MembersFault e depth at ⊎ ((o : OnwardMember depth at) × (turns (member_at (value_at depth)) most (insert_entry bytes_eq made o.key o.v) (skip_white o.next) ≡ Err e))

pub members_step : (depth : ℕ) → ((at : List ℕ) (e : Broken) → value_at depth at ≡ Err e → Breaks e depth at) → (most : ℕ) (made : List (List ℕ × Value)) (at : List ℕ) (e : Broken) → turns (member_at (value_at depth)) (suc most) made at ≡ Err e → MembersStep e depth most made at
members_step depth broken_at most made at e h = by_key (answer (key_at at))
  where
    by_next : (k : List ℕ × List ℕ) → SpellsKey k.0 at k.1 → (x : Value × List ℕ) → value_at depth k.1 ≡ Ok x → ((next : Bool × List ℕ) × (next_at 125 x.1 ≡ Ok next)) ⊎ ((d : Broken) × (next_at 125 x.1 ≡ Err d))
        → after_member (value_at depth) most (insert_entry bytes_eq made k.0 x.0) x.1 ≡ Err e → MembersStep e depth most made at
    by_next k keyed x read (inr n) s =
        let same : n.0 ≡ e = err_is n.0 e (after_member (value_at depth) most (insert_entry bytes_eq made k.0 x.0) x.1) (after_member_refused depth most (insert_entry bytes_eq made k.0 x.0) x.1 n.0 n.1) s in
        let tree = value_sound depth k.1 x read in
        inl (inr (inr (record { before = no_members; start = at; parts = refl; key = k.0; inside = k.1; keyed = keyed; item = tree.tree; behind = x.1; spelled = tree.spelled; unended = next_breaks 125 x.1 e (n.1 ∙ ap (λ (d : Broken). Err d) same) })))
    by_next k keyed x read (inl n) s = elim (next_sound 125 x.1 n.0 n.1) [
      | inl p ↦ absurd (not_both (after_member (value_at depth) most (insert_entry bytes_eq made k.0 x.0) x.1) (insert_entry bytes_eq made k.0 x.0, n.0.1) e (after_member_ended depth most (insert_entry bytes_eq made k.0 x.0) x.1 n.0 n.1 p.0) s)
      | inr p ↦ inr (record { key = k.0; inside = k.1; keyed = keyed; v = x.0; behind = x.1; next = p.0; read = read; comma = p.2 }, sym (goes_member (value_at depth) most (insert_entry bytes_eq made k.0 x.0) x.1 p.0 p.2) ∙ s)
    ]

    by_value : (k : List ℕ × List ℕ) → key_at at ≡ Ok k → ((x : Value × List ℕ) × (value_at depth k.1 ≡ Ok x)) ⊎ ((d : Broken) × (value_at depth k.1 ≡ Err d)) → MembersStep e depth most made at
    by_value k hk (inr d) =
        let same : d.0 ≡ e = err_is d.0 e (turns (member_at (value_at depth)) (suc most) made at) (member_refused depth most made at k.1 k.0 d.0 hk d.1) h in
        inl (inr (inl (record { before = no_members; start = at; parts = refl; key = k.0; inside = k.1; keyed = key_sound at k hk; breaks = broken_at k.1 e (d.1 ∙ ap (λ (x : Broken). Err x) same) })))
    by_value k hk (inl x) = by_next k (key_sound at k hk) x.0 x.1 (answer (next_at 125 x.0.1)) (sym (member_turn (value_at depth) most made at k.1 k.0 x.0.0 x.0.1 (key_sound at k hk) x.1) ∙ h)

    by_key : ((k : List ℕ × List ℕ) × (key_at at ≡ Ok k)) ⊎ ((d : Broken) × (key_at at ≡ Err d)) → MembersStep e depth most made at
    by_key (inr d) =
        let same : d.0 ≡ e = err_is d.0 e (turns (member_at (value_at depth)) (suc most) made at) (key_refused depth most made at d.0 d.1) h in
        inl (inl (record { before = no_members; start = at; parts = refl; breaks = d.1 ∙ ap (λ (x : Broken). Err x) same }))
    by_key (inl k) = by_value k.0 k.1 (answer (value_at depth k.0.1))

pub members_break : (depth : ℕ) → ((at : List ℕ) (e : Broken) → value_at depth at ≡ Err e → Breaks e depth at) → (most : ℕ) (made : List (List ℕ × Value)) (at : List ℕ) (e : Broken) → length at ≤ most → turns (member_at (value_at depth)) (suc most) made at ≡ Err e → MembersFault e depth at
members_break depth broken_at zero made at e le h = elim (members_step depth broken_at 0 made at e h) [
  | inl f ↦ f
  | inr s ↦ absurd (no_comma s.0.behind s.0.next (left_le 0 depth s.0.inside s.0.v s.0.behind (key_within 0 at s.0.inside s.0.key le s.0.keyed) s.0.read) s.0.comma)
]
members_break depth broken_at (suc most) made at e le h = elim (members_step depth broken_at (suc most) made at e h) [
  | inl f ↦ f
  | inr s ↦ further s.0 (members_break depth broken_at most (insert_entry bytes_eq made s.0.key s.0.v) (skip_white s.0.next) e (comma_le most s.0.behind s.0.next (left_le (suc most) depth s.0.inside s.0.v s.0.behind (key_within (suc most) at s.0.inside s.0.key le s.0.keyed) s.0.read) s.0.comma) s.1)
]
  where
    further : (o : OnwardMember depth at) → MembersFault e depth (skip_white o.next) → MembersFault e depth at
    further o (inl f) = let tree = value_sound depth o.inside (o.v, o.behind) o.read in
        inl (record { before = member_then o.key tree.tree f.before; start = f.start; parts = (o.inside, o.behind, o.next, o.keyed, tree.spelled, o.comma, f.parts); breaks = f.breaks })
    further o (inr (inl f)) = let tree = value_sound depth o.inside (o.v, o.behind) o.read in
        inr (inl (record { before = member_then o.key tree.tree f.before; start = f.start; parts = (o.inside, o.behind, o.next, o.keyed, tree.spelled, o.comma, f.parts); key = f.key; inside = f.inside; keyed = f.keyed; breaks = f.breaks }))
    further o (inr (inr f)) = let tree = value_sound depth o.inside (o.v, o.behind) o.read in
        inr (inr (record { before = member_then o.key tree.tree f.before; start = f.start; parts = (o.inside, o.behind, o.next, o.keyed, tree.spelled, o.comma, f.parts); key = f.key; inside = f.inside; keyed = f.keyed; item = f.item; behind = f.behind; spelled = f.spelled; unended = f.unended }))
