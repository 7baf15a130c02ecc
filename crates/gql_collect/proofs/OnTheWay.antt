-- A walk on its way: with the fields of what is left it has those of the whole.
use Rattle.std.proofs.Common.{arith, ◌≡◌, ◌+◌, ◌<◌, ◌≤◌, Bool, List, [], ◌∷◌, ◌++◌, map, refl, sym, ap, ◌∙◌, subst, append_assoc}
use Rattle.std.specs.Borrow.{Bor}
use Rattle.std.proofs.lemmas.List.{reverse-append, append-nil}
use Rattle.gql_document_types.specs.declared.selection.Field.{Field}
use Rattle.gql_document_types.specs.declared.selection.Selection.{Selection, out-Selection}
use Rattle.gql_collect.specs.Flat.{field_of}
use Rattle.gql_collect.specs.Setting.{Setting}
use Rattle.gql_collect.specs.Sizes.{sets_size, outer_size, fragments_size}
use Rattle.gql_collect.specs.Walk.{fields_of}
use Rattle.gql_collect.specs.bridge.Walk.{Walk, looks_at, lists_of, walk_of, put_before, with_list, gone_into, with_selection, with_first, Walks, walked_all, walked_on, WalksAll, no_more, list_first}
use Rattle.gql_collect.proofs.Measure.{left_over, weight, looks-within, unentered-within, first_looks, first_outer, first_less}

module _ (s : Setting) where
  abbrev pub IsOnTheWay : List Bool → List (List Selection) → Walk → Type 0
  IsOnTheWay marks start walk = (rest : List Field) → WalksAll s walk.marks walk.left rest → WalksAll s marks start (walk.fields ++ rest)

  -- the parts of a walk that begins with a list
  record Parts (m : List Bool) (xs : List Selection) (left : List (List Selection)) (fields : List Field) : Type 0 where
    pub inner : List Field
    pub others : List Field
    pub between : List Bool
    pub first : Walks s m xs inner between
    pub then : WalksAll s between left others
    pub whole : fields ≡ inner ++ others

  parts-cons : {m : List Bool} {lists : List (List Selection)} {fields : List Field} (xs : List Selection) (left : List (List Selection)) → lists ≡ xs ∷ left → WalksAll s m lists fields → Parts m xs left fields
  parts-cons xs left is no_more = absurd cc
  parts-cons {m} xs left is (list_first {between = between} {selections = ys} {lists = lists} {inner = inner} {others = others} v w) =
      let same : ys ≡ xs = cc in
      let same_left : lists ≡ left = cc in
      record {
        inner = inner;
        others = others;
        between = between;
        first = subst (λ l. Walks s m l inner between) same v;
        then = subst (λ l. WalksAll s between l others) same_left w;
        whole = refl;
      }

  parts-put : {m : List Bool} {fields : List Field} (xs : List Selection) (left : List (List Selection)) → WalksAll s m (put_before xs left) fields → Parts m xs left fields
  parts-put {m} {fields} [] left w = record { inner = []; others = fields; between = m; first = walked_all; then = w; whole = refl }
  parts-put (x ∷ xs) left w = parts-cons (x ∷ xs) left refl w

  -- one selection, and then the rest of its list
  first_met : (marks : List Bool) (start : List (List Selection)) (x : Selection) (others : List Selection) (walk : Walk)
      → IsOnTheWay marks start (record walk { left = (x ∷ others) ∷ walk.left })
      → IsOnTheWay marks start (with_selection s x (with_list others walk))
  first_met marks start x others walk way rest w =
      let one = parts-put (gone_into s (out-Selection x) walk.marks) (put_before others walk.left) w in
      let two = parts-put others walk.left one.then in
      let here : List Field = field_of s (out-Selection x) in
      let whole : WalksAll s walk.marks ((x ∷ others) ∷ walk.left) ((here ++ (one.inner ++ two.inner)) ++ two.others) = list_first (walked_on one.first two.first) two.then in
      let ordered : walk.fields ++ ((here ++ (one.inner ++ two.inner)) ++ two.others) ≡ (walk.fields ++ here) ++ rest =
      ap (λ l. walk.fields ++ l) (append_assoc here (one.inner ++ two.inner) two.others ∙ ap (λ l. here ++ l) (append_assoc one.inner two.inner two.others ∙ ap (λ l. one.inner ++ l) (sym two.whole) ∙ sym one.whole))
      ∙ sym (append_assoc walk.fields here rest) in
      subst (WalksAll s marks start) ordered (way ((here ++ (one.inner ++ two.inner)) ++ two.others) whole)

  pub goes_first : (marks : List Bool) (start : List (List Selection)) (list : List Selection) (walk : Walk)
      → IsOnTheWay marks start (record walk { left = list ∷ walk.left }) → IsOnTheWay marks start (with_first s list walk)
  goes_first marks start [] walk way = λ rest w. way rest (list_first walked_all w)
  goes_first marks start (x ∷ others) walk way = first_met marks start x others walk way

-- ---- lists that are laid aside

laid_aside : (pending : List (Bor (List Selection))) (list : Bor (List Selection)) → lists_of (pending ++ list ∷ []) ≡ list.now ∷ lists_of pending
laid_aside pending list = ap (map (λ (selections : Bor (List Selection)). selections.now)) (reverse-append pending (list ∷ []))

-- one list more is taken up
taken_up : (marks : List Bool) (pending popped : List (Bor (List Selection))) (fields : List (Bor Field)) (list : Bor (List Selection))
    → pending ≡ popped ++ list ∷ [] → walk_of marks pending fields ≡ record (walk_of marks popped fields) { left = list.now ∷ lists_of popped }
taken_up marks pending popped fields list is =
    ap (λ left. record { marks = marks; left = left; fields = fields_of fields }) (ap lists_of is ∙ laid_aside popped list)

module _ (s : Setting) (marks : List Bool) (pending popped : List (Bor (List Selection))) (fields : List (Bor Field)) (list : Bor (List Selection)) (new : Walk)
    (is : pending ≡ popped ++ list ∷ []) (made : new ≡ with_first s list.now (walk_of marks popped fields)) where
  pub goes_on : (from : List Bool) (start : List (List Selection)) → IsOnTheWay s from start (walk_of marks pending fields) → IsOnTheWay s from start new
  goes_on from start way =
      subst (IsOnTheWay s from start) (sym made)
      (goes_first s from start list.now (walk_of marks popped fields) (subst (IsOnTheWay s from start) (taken_up marks pending popped fields list is) way))

  pub weighs_less : weight s new < weight s (walk_of marks pending fields)
  weighs_less =
      subst (λ w. weight s new < weight s w) (sym (taken_up marks pending popped fields list is))
      (subst (λ w. weight s w < weight s (record (walk_of marks popped fields) { left = list.now ∷ lists_of popped })) (sym made) (first_less s list.now (walk_of marks popped fields)))

  -- a look more, and one less that can be taken
  pub looks_less : looks_at list.now + left_over s new ≤ left_over s (walk_of marks pending fields)
  looks_less =
      subst (λ w. looks_at list.now + left_over s new ≤ left_over s w) (sym (taken_up marks pending popped fields list is))
      (subst (λ w. looks_at list.now + left_over s w ≤ left_over s (record (walk_of marks popped fields) { left = list.now ∷ lists_of popped })) (sym made)
      (first_looks s list.now (walk_of marks popped fields)))

  -- and of the lists themselves at most that one less
  pub outer_less : outer_size (lists_of pending) ≤ looks_at list.now + outer_size new.left
  outer_less =
      subst (λ l. outer_size l ≤ looks_at list.now + outer_size new.left) (sym (ap (λ (w : Walk). w.left) (taken_up marks pending popped fields list is)))
      (subst (λ (w : Walk). outer_size (list.now ∷ lists_of popped) ≤ looks_at list.now + outer_size w.left) (sym made)
      (first_outer s list.now (walk_of marks popped fields)))

-- what is looked at was left
pub looks-left : (s : Setting) (marks : List Bool) (pending popped : List (Bor (List Selection))) (fields : List (Bor Field)) (list : Bor (List Selection))
    → pending ≡ popped ++ list ∷ [] → looks_at list.now ≤ left_over s (walk_of marks pending fields)
looks-left s marks pending popped fields list is =
    omega (arith, looks-within list.now, ap (λ (w : Walk). sets_size w.left) (taken_up marks pending popped fields list is))

-- what can be looked at when a walk begins
pub begins_within : (s : Setting) (marks : List Bool) (start : List (List Selection)) (fields : List Field)
    → left_over s (record { marks = marks; left = start; fields = fields }) ≤ sets_size start + fragments_size s.fragments
begins_within s marks start fields = omega (arith, unentered-within s.fragments marks)

pub way_begins : (s : Setting) (marks : List Bool) (start : List (List Selection)) → IsOnTheWay s marks start (record { marks = marks; left = start; fields = [] })
way_begins s marks start = λ rest w. w

pub way_ends : (s : Setting) (marks : List Bool) (start : List (List Selection)) (last : List Bool) (pending : List (Bor (List Selection))) (fields : List (Bor Field))
    → pending ≡ [] → IsOnTheWay s marks start (walk_of last pending fields) → WalksAll s marks start (fields_of fields)
way_ends s marks start last pending fields none way =
    subst (WalksAll s marks start) (append-nil (fields_of fields)) (way [] (subst (λ l. WalksAll s last l []) (sym (ap lists_of none)) no_more))
