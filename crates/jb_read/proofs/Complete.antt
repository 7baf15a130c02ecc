-- What the bytes spell is read.
use Rattle.std.proofs.Common.{◌≡◌, ℕ, zero, suc, ◌≤◌, Bool, true, false, cond, List, [], ◌∷◌, ◌++◌, length, Result, Ok, Err, refl, sym, ap, subst, ◌∙◌, append_assoc, arith}
use Rattle.std.specs.Prelude.{ℤ, ◌==◌, ◌||◌, codes}
use Rattle.std.specs.Str.{bytes_eq}
use Rattle.std.proofs.lemmas.Bool.{ne_eqb, eqb-true, false_from_ne_true}
use Rattle.std.proofs.lemmas.List.{append-nil}
use Rattle.indexmap.specs.IndexMap.{insert_entry}
use Rattle.jb_tree.specs.declared.value.Value.{Value}
use Rattle.jb_tree.specs.declared.value.Value.TheVariants as value
use Rattle.jb_tree.specs.Tree.{Tree, Trees, Members, null, boolean, number, text, array, object, no_trees, tree_then, no_members, member_then}
use Rattle.jb_read.specs.declared.fault.Broken.{Broken}
use Rattle.jb_read.specs.declared.fault.FaultKind.TheVariants.{Syntax}
use Rattle.jb_read.specs.Bytes.{is_digit, skip_white}
use Rattle.jb_read.specs.Reading.{◌>>=◌, broken, turns}
use Rattle.jb_read.specs.Numbers.{number_at, is_minus}
use Rattle.jb_read.specs.Values.{begins_with, next_at, item_at, key_at, member_at, array_at, object_at, scalar_at, value_at, first_value, whole_value}
use Rattle.jb_read.specs.Texts.{text_value, text_front}
use Rattle.jb_read.specs.Spelling.{SpellsNumber, SpellsString, SpellsKey, Spells, SpellsItems, MoreItems, SpellsMembers, MoreMembers, settled, settled_items, settled_members, JsonText, JsonFront}
use Rattle.jb_read.proofs.Steps.{broken_not_ok, word_complete, next_closes, next_goes_on}
use Rattle.jb_read.proofs.Digits.{number_complete, number_lead}
use Rattle.jb_read.proofs.Characters.{text_complete}
use Rattle.jb_read.proofs.Within.{Tame, value_tame, key_tame, white_le}

-- ---- values by their first byte

pub value_at_scalar_byte : (depth b : ℕ) (at : List ℕ) → (b == 91) ≡ false → (b == 123) ≡ false → value_at depth (b ∷ at) ≡ scalar_at (b ∷ at)
unfolding value_at
value_at_scalar_byte zero b at a o = rw (a, o) refl
value_at_scalar_byte (suc depth) b at a o = rw (a, o) refl

null_complete : (depth : ℕ) (rest : List ℕ) → value_at depth (codes "null" ++ rest) ≡ Ok (value.Null, rest)
unfolding scalar_at
null_complete depth rest = value_at_scalar_byte depth 110 (codes "ull" ++ rest) refl refl ∙ ap (λ (r : Result (Unit {0} × List ℕ) Broken). r >>= λ word. Ok (value.Null, word.1)) (word_complete (codes "null") rest)

true_complete : (depth : ℕ) (rest : List ℕ) → value_at depth (codes "true" ++ rest) ≡ Ok (value.Bool true, rest)
unfolding scalar_at
true_complete depth rest = value_at_scalar_byte depth 116 (codes "rue" ++ rest) refl refl ∙ ap (λ (r : Result (Unit {0} × List ℕ) Broken). r >>= λ word. Ok (value.Bool true, word.1)) (word_complete (codes "true") rest)

false_complete : (depth : ℕ) (rest : List ℕ) → value_at depth (codes "false" ++ rest) ≡ Ok (value.Bool false, rest)
unfolding scalar_at
false_complete depth rest = value_at_scalar_byte depth 102 (codes "alse" ++ rest) refl refl ∙ ap (λ (r : Result (Unit {0} × List ℕ) Broken). r >>= λ word. Ok (value.Bool false, word.1)) (word_complete (codes "false") rest)

string_complete : (depth : ℕ) (bytes at rest : List ℕ) → SpellsString bytes at rest → value_at depth at ≡ Ok (value.String bytes, rest)
unfolding scalar_at
string_complete depth bytes at rest s = ap (value_at depth) s.opened ∙ value_at_scalar_byte depth 34 s.inside refl refl ∙ ap (λ (r : Result (List ℕ × List ℕ) Broken). r >>= λ text. Ok (value.String text.0, text.1)) (text_complete bytes at rest s)

scalar_number : (b : ℕ) (at : List ℕ) → 45 ≤ b → b ≤ 57 → (is_minus b || is_digit b) ≡ true → scalar_at (b ∷ at) ≡ (number_at (b ∷ at) >>= λ number. Ok (value.Number number.0, number.1))
unfolding scalar_at
scalar_number b at low high lead =
    let quote : (b == 34) ≡ false = ne_eqb b 34 (λ e. omega arith) in
    let n : (b == 110) ≡ false = ne_eqb b 110 (λ e. omega arith) in
    let t : (b == 116) ≡ false = ne_eqb b 116 (λ e. omega arith) in
    let f : (b == 102) ≡ false = ne_eqb b 102 (λ e. omega arith) in
    rw (quote, n, t, f, lead) refl

number_value : (depth : ℕ) (z : ℤ) (at rest : List ℕ) → SpellsNumber z at rest → value_at depth at ≡ Ok (value.Number z, rest)
number_value depth z at rest s =
    let l = number_lead z at rest s in
    let open_array : (l.lead == 91) ≡ false = ne_eqb l.lead 91 (λ e. omega (arith, l.high)) in
    let open_object : (l.lead == 123) ≡ false = ne_eqb l.lead 123 (λ e. omega (arith, l.high)) in
    let read : number_at (l.lead ∷ l.others) ≡ Ok (z, rest) = sym (ap number_at l.parts) ∙ number_complete z at rest s in
    ap (value_at depth) l.parts ∙ value_at_scalar_byte depth l.lead l.others open_array open_object ∙ scalar_number l.lead l.others l.low l.high l.digit
    ∙ ap (λ (r : Result (ℤ × List ℕ) Broken). r >>= λ number. Ok (value.Number number.0, number.1)) read

-- ---- turns

pub key_complete : (key at start : List ℕ) → SpellsKey key at start → key_at at ≡ Ok (key, start)
unfolding key_at
key_complete key at start s = rw (s.string.opened, text_complete key at s.behind s.string, s.colon, s.then) refl

abbrev pub turn_of : {A : Type 0} → A → Bool × List ℕ → Result ((Bool × A) × List ℕ) Broken
turn_of made next = Ok ((next.0, made), next.1)

unfoldable pub after_item : (inner : List ℕ → Result (Value × List ℕ) Broken) (most : ℕ) (done : List Value) (v : Value) (behind : List ℕ) → Result (List Value × List ℕ) Broken
after_item inner most done v behind = next_at 93 behind >>= λ next. cond next.0 (turns (item_at inner) most (done ++ v ∷ []) next.1) (Ok (done ++ v ∷ [], next.1))

pub item_turn : (inner : List ℕ → Result (Value × List ℕ) Broken) (most : ℕ) (done : List Value) (at : List ℕ) (v : Value) (behind : List ℕ) → inner at ≡ Ok (v, behind)
    → turns (item_at inner) (suc most) done at ≡ after_item inner most done v behind
unfolding item_at after_item
item_turn inner most done at v behind e = rw e (by_next (next_at 93 behind))
  where
    by_next : (r : Result (Bool × List ℕ) Broken) → ((r >>= turn_of (done ++ v ∷ [])) >>= λ t. cond t.0.0 (turns (item_at inner) most t.0.1 t.1) (Ok (t.0.1, t.1)))
        ≡ (r >>= λ next. cond next.0 (turns (item_at inner) most (done ++ v ∷ []) next.1) (Ok (done ++ v ∷ [], next.1)))
    by_next (Ok next) = refl
    by_next (Err d) = refl

unfoldable pub after_member : (inner : List ℕ → Result (Value × List ℕ) Broken) (most : ℕ) (done : List (List ℕ × Value)) (behind : List ℕ) → Result (List (List ℕ × Value) × List ℕ) Broken
after_member inner most done behind = next_at 125 behind >>= λ next. cond next.0 (turns (member_at inner) most done next.1) (Ok (done, next.1))

pub member_turn : (inner : List ℕ → Result (Value × List ℕ) Broken) (most : ℕ) (done : List (List ℕ × Value)) (at start : List ℕ) (key : List ℕ) (v : Value) (behind : List ℕ) → SpellsKey key at start → inner start ≡ Ok (v, behind)
    → turns (member_at inner) (suc most) done at ≡ after_member inner most (insert_entry bytes_eq done key v) behind
unfolding member_at after_member
member_turn inner most done at start key v behind k e = rw (key_complete key at start k, e) (by_next (next_at 125 behind))
  where
    by_next : (r : Result (Bool × List ℕ) Broken) → ((r >>= turn_of (insert_entry bytes_eq done key v)) >>= λ t. cond t.0.0 (turns (member_at inner) most t.0.1 t.1) (Ok (t.0.1, t.1)))
        ≡ (r >>= λ next. cond next.0 (turns (member_at inner) most (insert_entry bytes_eq done key v) next.1) (Ok (insert_entry bytes_eq done key v, next.1)))
    by_next (Ok next) = refl
    by_next (Err d) = refl

pub left_le : (n depth : ℕ) (at : List ℕ) (v : Value) (behind : List ℕ) → length at ≤ n → value_at depth at ≡ Ok (v, behind) → length behind ≤ n
left_le n depth at v behind le e = let tame = value_tame n depth at le in subst (λ (r : Result (Value × List ℕ) Broken). Tame n r) e tame

pub comma_le : (n : ℕ) (behind next : List ℕ) → length behind ≤ suc n → skip_white behind ≡ 44 ∷ next → length (skip_white next) ≤ n
comma_le n behind next le e = white_le n next (omega (arith, white_le (suc n) behind le, ap length e))

pub no_comma : (behind next : List ℕ) → length behind ≤ 0 → skip_white behind ≡ 44 ∷ next → ⊥
no_comma behind next le e = omega (arith, white_le 0 behind le, ap length e)

-- ---- what the turns of an array and of an object come to

abbrev Items : ℕ → List ℕ → List Value → List ℕ → Type 0
Items depth at vs rest = (inside : List ℕ) → at ≡ skip_white inside → array_at (value_at depth) inside ≡ Ok (vs, rest)

no_items : (depth : ℕ) (at rest : List ℕ) → at ≡ 93 ∷ rest → Items depth at [] rest
unfolding array_at
no_items depth at rest e inside at-is = let closes : skip_white inside ≡ 93 ∷ rest = sym at-is ∙ e in rw closes refl

closed_breaks : (depth : ℕ) (at : List ℕ) (r : Value × List ℕ) → value_at depth (93 ∷ at) ≡ Ok r → ⊥
unfolding scalar_at
closed_breaks depth at r read = broken_not_ok (broken Syntax (93 ∷ at)) r (sym (value_at_scalar_byte depth 93 at refl refl) ∙ read)

-- an item begins with no bracket that closes, since its text is read
not_closed : (depth : ℕ) (at : List ℕ) (v : Value) (rest : List ℕ) → value_at depth at ≡ Ok (v, rest) → begins_with 93 at ≡ false
not_closed depth [] v rest read = refl
not_closed depth (b ∷ at) v rest read = false_from_ne_true (b == 93) (λ e. closed (eqb-true b 93 e))
  where
    closed : b ≡ 93 → ⊥
    closed same = closed_breaks depth at (v, rest) (ap (λ (k : ℕ). value_at depth (k ∷ at)) (sym same) ∙ read)

some_items : (depth : ℕ) (at behind rest : List ℕ) (v : Value) (vs : List Value) → value_at depth at ≡ Ok (v, behind) → after_item (value_at depth) (length at) [] v behind ≡ Ok (v ∷ vs, rest) → Items depth at (v ∷ vs) rest
unfolding array_at
some_items depth at behind rest v vs read others inside at-is =
    let open_yet : begins_with 93 (skip_white inside) ≡ false = ap (begins_with 93) (sym at-is) ∙ not_closed depth at v behind read in
    rw open_yet (ap (λ (l : List ℕ). turns (item_at (value_at depth)) (suc (length l)) [] l) (sym at-is) ∙ item_turn (value_at depth) (length at) [] at v behind read ∙ others)

last_item : (inner : List ℕ → Result (Value × List ℕ) Broken) (most : ℕ) (done : List Value) (v : Value) (behind rest : List ℕ) → skip_white behind ≡ 93 ∷ rest → after_item inner most done v behind ≡ Ok ((done ++ v ∷ []) ++ [], rest)
unfolding after_item
last_item inner most done v behind rest e = rw (next_closes 93 behind rest e, append-nil) refl

pub goes : (inner : List ℕ → Result (Value × List ℕ) Broken) (most : ℕ) (done : List Value) (v : Value) (behind next : List ℕ) → skip_white behind ≡ 44 ∷ next
    → after_item inner most done v behind ≡ turns (item_at inner) most (done ++ v ∷ []) (skip_white next)
unfolding after_item
goes inner most done v behind next comma = rw (next_goes_on 93 behind next refl comma) refl

next_item : (inner : List ℕ → Result (Value × List ℕ) Broken) (most : ℕ) (done : List Value) (v : Value) (behind next after rest : List ℕ) (w : Value) (ws : List Value) → skip_white behind ≡ 44 ∷ next → inner (skip_white next) ≡ Ok (w, after)
    → after_item inner most (done ++ v ∷ []) w after ≡ Ok (((done ++ v ∷ []) ++ w ∷ []) ++ ws, rest) → after_item inner (suc most) done v behind ≡ Ok ((done ++ v ∷ []) ++ (w ∷ ws), rest)
next_item inner most done v behind next after rest w ws comma read others =
    let here : after_item inner (suc most) done v behind ≡ turns (item_at inner) (suc most) (done ++ v ∷ []) (skip_white next) = goes inner (suc most) done v behind next comma in
    here ∙ item_turn inner most (done ++ v ∷ []) (skip_white next) w after read ∙ others ∙ ap (λ (l : List Value). Ok (l, rest)) (append_assoc (done ++ v ∷ []) (w ∷ []) ws)

abbrev MembersRead : ℕ → List ℕ → List (List ℕ × Value) → List ℕ → Type 0
MembersRead depth at ms rest = (inside : List ℕ) → at ≡ skip_white inside → object_at (value_at depth) inside ≡ Ok (ms, rest)

no_member : (depth : ℕ) (at rest : List ℕ) → at ≡ 125 ∷ rest → MembersRead depth at [] rest
unfolding object_at
no_member depth at rest e inside at-is = let closes : skip_white inside ≡ 125 ∷ rest = sym at-is ∙ e in rw closes refl

some_members : (depth : ℕ) (at start behind rest : List ℕ) (key : List ℕ) (v : Value) (members : Members) → SpellsKey key at start → value_at depth start ≡ Ok (v, behind)
    → after_member (value_at depth) (length at) (insert_entry bytes_eq [] key v) behind ≡ Ok (settled_members (insert_entry bytes_eq [] key v) members, rest) → MembersRead depth at (settled_members (insert_entry bytes_eq [] key v) members) rest
unfolding object_at
some_members depth at start behind rest key v ms keyed read others inside at-is =
    let open_yet : begins_with 125 (skip_white inside) ≡ false = ap (begins_with 125) (sym at-is ∙ keyed.string.opened) in
    rw open_yet (ap (λ (l : List ℕ). turns (member_at (value_at depth)) (suc (length l)) [] l) (sym at-is) ∙ member_turn (value_at depth) (length at) [] at start key v behind keyed read ∙ others)

last_member : (inner : List ℕ → Result (Value × List ℕ) Broken) (most : ℕ) (done : List (List ℕ × Value)) (behind rest : List ℕ) → skip_white behind ≡ 125 ∷ rest → after_member inner most done behind ≡ Ok (done, rest)
unfolding after_member
last_member inner most done behind rest e = rw (next_closes 125 behind rest e) refl

pub goes_member : (inner : List ℕ → Result (Value × List ℕ) Broken) (most : ℕ) (done : List (List ℕ × Value)) (behind next : List ℕ) → skip_white behind ≡ 44 ∷ next
    → after_member inner most done behind ≡ turns (member_at inner) most done (skip_white next)
unfolding after_member
goes_member inner most done behind next comma = rw (next_goes_on 125 behind next refl comma) refl

next_member : (inner : List ℕ → Result (Value × List ℕ) Broken) (most : ℕ) (done : List (List ℕ × Value)) (behind next start after rest : List ℕ) (key : List ℕ) (w : Value) (members : Members) → skip_white behind ≡ 44 ∷ next → SpellsKey key (skip_white next) start → inner start ≡ Ok (w, after)
    → after_member inner most (insert_entry bytes_eq done key w) after ≡ Ok (settled_members (insert_entry bytes_eq done key w) members, rest) → after_member inner (suc most) done behind ≡ Ok (settled_members (insert_entry bytes_eq done key w) members, rest)
next_member inner most done behind next start after rest key w ms comma keyed read others =
    goes_member inner (suc most) done behind next comma ∙ member_turn inner most done (skip_white next) start key w after keyed read ∙ others

pub key_within : (n : ℕ) (at start : List ℕ) (key : List ℕ) → length at ≤ n → SpellsKey key at start → length start ≤ n
key_within n at start key le s = let tame = key_tame n at le in subst (λ (r : Result (List ℕ × List ℕ) Broken). Tame n r) (key_complete key at start s) tame

key_le : (at start : List ℕ) (key : List ℕ) → SpellsKey key at start → length start ≤ length at
key_le at start key s = key_within (length at) at start key (omega arith) s

nested_array : (depth inner : ℕ) (at inside rest : List ℕ) → depth ≡ suc inner → at ≡ 91 ∷ inside → (vs : List Value) → Items inner (skip_white inside) vs rest → value_at depth at ≡ Ok (value.Array vs, rest)
unfolding value_at
nested_array depth inner at inside rest d e vs items = rw (d, e, items inside refl) refl

nested_object : (depth inner : ℕ) (at inside rest : List ℕ) → depth ≡ suc inner → at ≡ 123 ∷ inside → (ms : List (List ℕ × Value)) → MembersRead inner (skip_white inside) ms rest → value_at depth at ≡ Ok (value.Object ms, rest)
unfolding value_at
nested_object depth inner at inside rest d e ms members = rw (d, e, members inside refl) refl

mutual
  pub spells_complete : (t : Tree) (depth : ℕ) (at rest : List ℕ) → Spells t depth at rest → value_at depth at ≡ Ok (settled t, rest)
  spells_complete null depth at rest s = ap (value_at depth) s ∙ null_complete depth rest
  spells_complete (boolean true) depth at rest s = ap (value_at depth) s ∙ true_complete depth rest
  spells_complete (boolean false) depth at rest s = ap (value_at depth) s ∙ false_complete depth rest
  spells_complete (number z) depth at rest s = number_value depth z at rest s
  spells_complete (text bytes) depth at rest s = string_complete depth bytes at rest s
  spells_complete (array items) depth at rest s = nested_array depth s.0 at s.1 rest s.2 s.3 (settled_items items) (items_complete items s.0 (skip_white s.1) rest s.4)
  spells_complete (object ms) depth at rest s = nested_object depth s.0 at s.1 rest s.2 s.3 (settled_members [] ms) (members_complete ms s.0 (skip_white s.1) rest s.4)

  items_complete : (items : Trees) (depth : ℕ) (at rest : List ℕ) → SpellsItems items depth at rest → Items depth at (settled_items items) rest
  items_complete no_trees depth at rest s = no_items depth at rest s
  items_complete (tree_then item items) depth at rest s =
      let read = spells_complete item depth at s.0 s.1 in
      some_items depth at s.0 rest (settled item) (settled_items items) read (more_complete items depth (length at) [] (settled item) s.0 rest s.2 (left_le (length at) depth at (settled item) s.0 (omega arith) read))

  more_complete : (items : Trees) (depth most : ℕ) (done : List Value) (v : Value) (behind rest : List ℕ) → MoreItems items depth (skip_white behind) rest → length behind ≤ most
      → after_item (value_at depth) most done v behind ≡ Ok ((done ++ v ∷ []) ++ settled_items items, rest)
  more_complete no_trees depth most done v behind rest s le = last_item (value_at depth) most done v behind rest s
  more_complete (tree_then item items) depth zero done v behind rest s le = absurd (no_comma behind s.0 le s.2)
  more_complete (tree_then item items) depth (suc most) done v behind rest s le =
      let read = spells_complete item depth (skip_white s.0) s.1 s.3 in
      let fits = comma_le most behind s.0 le s.2 in
      next_item (value_at depth) most done v behind s.0 s.1 rest (settled item) (settled_items items) s.2 read
      (more_complete items depth most (done ++ v ∷ []) (settled item) s.1 rest s.4 (left_le most depth (skip_white s.0) (settled item) s.1 fits read))

  members_complete : (members : Members) (depth : ℕ) (at rest : List ℕ) → SpellsMembers members depth at rest → MembersRead depth at (settled_members [] members) rest
  members_complete no_members depth at rest s = no_member depth at rest s
  members_complete (member_then key item others) depth at rest s =
      let read = spells_complete item depth s.0 s.1 s.3 in
      some_members depth at s.0 s.1 rest key (settled item) others s.2 read
      (more_members_complete others depth (length at) (insert_entry bytes_eq [] key (settled item)) s.1 rest s.4 (left_le (length at) depth s.0 (settled item) s.1 (key_le at s.0 key s.2) read))

  more_members_complete : (members : Members) (depth most : ℕ) (done : List (List ℕ × Value)) (behind rest : List ℕ) → MoreMembers members depth (skip_white behind) rest → length behind ≤ most
      → after_member (value_at depth) most done behind ≡ Ok (settled_members done members, rest)
  more_members_complete no_members depth most done behind rest s le = last_member (value_at depth) most done behind rest s
  more_members_complete (member_then key item others) depth zero done behind rest s le = absurd (no_comma behind s.0 le s.3)
  more_members_complete (member_then key item others) depth (suc most) done behind rest s le =
      let read = spells_complete item depth s.1 s.2 s.5 in
      let fits = comma_le most behind s.0 le s.3 in
      next_member (value_at depth) most done behind s.0 s.1 s.2 rest key (settled item) others s.3 s.4 read
      (more_members_complete others depth most (insert_entry bytes_eq done key (settled item)) s.2 rest s.6 (left_le most depth s.1 (settled item) s.2 (key_within most (skip_white s.0) s.1 key fits s.4) read))

pub whole_complete : (bytes : List ℕ) (v : Value) → JsonText bytes v → text_value bytes ≡ Ok v
unfolding whole_value first_value
whole_complete bytes v t =
    let read = spells_complete t.tree 127 (skip_white bytes) t.behind t.spelled in
    rw (read, t.nothing_more, t.is_value) refl

pub front_complete : (bytes : List ℕ) (v : Value) → JsonFront bytes v → text_front bytes ≡ Ok v
unfolding first_value
front_complete bytes v t =
    let read = spells_complete t.tree 127 (skip_white bytes) t.behind t.spelled in
    rw (read, t.is_value) refl
