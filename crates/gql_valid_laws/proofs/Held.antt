-- The fields of selections have numbers: each stands among the numbered fields, and the items of its set have its number.
use Rattle.std.proofs.Common.{rules, arith, ◌≡◌, ℕ, zero, suc, ◌+◌, List, [], ◌∷◌, ◌++◌, length, Some, None, position, refl, sym, subst}
use Rattle.std.specs.List.{AllByRecursion, Contains, slice_get}
use Rattle.std.specs.Option.{option_to_list}
use Rattle.std.proofs.lemmas.List.Elements.{Contains-append_left, Contains-append_right}
use Rattle.gql_ast_base.specs.Names.{Named}
use Rattle.gql_document_types.specs.RootFields.{fragment_name}
use Rattle.gql_document_types.specs.declared.fragment.Fragment.{Fragment}
use Rattle.gql_document_types.specs.declared.selection.Field.{Field}
use Rattle.gql_document_types.specs.declared.selection.FragmentSpread.{FragmentSpread}
use Rattle.gql_document_types.specs.declared.selection.InlineFragment.{InlineFragment}
use Rattle.gql_document_types.specs.declared.selection.Selection.{Selection, the_lemmas}
use Rattle.gql_document_types.specs.declared.selection.Selection.TheVariants as selection
use Rattle.gql_document_types.specs.declared.selection.SelectionSet.{SelectionSet}
use Rattle.gql_schema_types.specs.Entries.{is_called}
use Rattle.gql_rules_merging.specs.bridge.Gathering.{selected_as, with_field}
use Rattle.gql_rules_merging.specs.Numbering.{Items, Selected, Gathered, number_of, with_spread, with_last, with_selection, with_selections, with_set}
use Rattle.gql_valid_laws.proofs.Selections.{all-inside}

-- ---- lists

pub kept-front : {A : Type 0} (xs ys : List A) (a : ℕ) (x : A) → slice_get xs a ≡ Some x → slice_get (xs ++ ys) a ≡ Some x
kept-front [] ys a x at = absurd (let e : None ≡ Some x = at in cc)
kept-front (y ∷ xs) ys zero x at = at
kept-front (y ∷ xs) ys (suc a) x at = kept-front xs ys a x at

last-there : {A : Type 0} (xs : List A) (x : A) → slice_get (xs ++ x ∷ []) (length xs) ≡ Some x
last-there [] x = refl
last-there (y ∷ xs) x = last-there xs x

pub last-contained : {A : Type 0} (xs : List A) (x : A) → Contains (xs ++ x ∷ []) x
last-contained xs x = Contains-append_right xs (x ∷ []) x (0, omega arith, refl)

-- fields keep their numbers
abbrev pub Keeps : List Selected → List Selected → Type 0
Keeps fields more = (a : ℕ) (x : Selected) → slice_get fields a ≡ Some x → slice_get more a ≡ Some x

-- and what is selected stays
pub record Grown (old new : Gathered) : Type 0 where
  pub fields : Keeps old.fields new.fields
  pub items : (i : ℕ) → Contains old.items i → Contains new.items i

grown-same : (g : Gathered) → Grown g g
grown-same g = record { fields = λ a x at. at; items = λ i c. c }

grown-more : (a b c : Gathered) → Grown a b → Grown b c → Grown a c
grown-more a b c one other = record { fields = λ n x at. other.fields n x (one.fields n x at); items = λ i has. other.items i (one.items i has) }

abbrev pub gathered : List Selected → Items → Gathered
gathered fields items = record { fields = fields; items = items }

module _ (fragments : List Fragment) where
  -- the fields of a set on a type, and those inside it, among all fields by their numbers
  pub data Held (all : List Selected) : Named → Items → List Selection → Type 0 where
    none_held : {ty : Named} {items : Items} → Held all ty items []
    field_held : {ty : Named} {items : Items} {rest : List Selection} (it : Field) (number : ℕ) (own : Items)
        → Contains items (length fragments + number) → slice_get all number ≡ Some (selected_as ty it own)
        → Held all it.selection_set.ty own it.selection_set.selections → Held all ty items rest → Held all ty items (selection.Field it ∷ rest)
    spread_held : {ty : Named} {items : Items} {rest : List Selection} (it : FragmentSpread)
        → ((number : ℕ) → position (is_called fragment_name it.fragment_name.text) fragments ≡ Some number → Contains items number)
        → Held all ty items rest → Held all ty items (selection.FragmentSpread it ∷ rest)
    inline_held : {ty : Named} {items : Items} {rest : List Selection} (it : InlineFragment)
        → Held all it.selection_set.ty items it.selection_set.selections → Held all ty items rest
        → Held all ty items (selection.InlineFragment it ∷ rest)

  -- ---- what one selection adds

  added-field : (f : Field) (ty : Named) (g : Gathered) → with_selection fragments (selection.Field f) ty g ≡ with_field fragments ty f g
  added-field f ty g = search (rules, the_lemmas)

  added-spread : (s : FragmentSpread) (ty : Named) (g : Gathered) → with_selection fragments (selection.FragmentSpread s) ty g ≡ with_spread fragments s.fragment_name g
  added-spread s ty g = search (rules, the_lemmas)

  added-inline : (i : InlineFragment) (ty : Named) (g : Gathered) → with_selection fragments (selection.InlineFragment i) ty g ≡ with_set fragments i.selection_set g
  added-inline i ty g = search (rules, the_lemmas)

  -- ---- nothing is lost

  abbrev Grows : Selection → Type 0
  Grows x = (ty : Named) (g : Gathered) → Grown g (with_selection fragments x ty g)

  all-grow : (xs : List Selection) → AllByRecursion Grows xs → (ty : Named) (g : Gathered) → Grown g (with_selections fragments ty xs g)
  all-grow [] each ty g = grown-same g
  all-grow (x ∷ xs) each ty g =
      let next = with_selection fragments x ty g in
      grown-more g next (with_selections fragments ty xs next) (each.0 ty g) (all-grow xs each.1 ty next)

  last-grows : (sel : Selected) (fields : List Selected) (g : Gathered) → Keeps g.fields fields → Grown g (with_last fragments sel fields g.items)
  last-grows sel fields g keeps = record {
    fields = λ a x at. kept-front fields (sel ∷ []) a x (keeps a x at);
    items = λ i has. Contains-append_left g.items ((length fragments + length fields) ∷ []) i has;
  }

  field-grows : (f : Field) → AllByRecursion Grows f.selection_set.selections → Grows (selection.Field f)
  field-grows f each ty g =
      let start = gathered g.fields [] in
      let inner = with_set fragments f.selection_set start in
      subst (Grown g) (sym (added-field f ty g))
      (last-grows (selected_as ty f inner.items) inner.fields g (all-grow f.selection_set.selections each f.selection_set.ty start).fields)

  spread-grows : (s : FragmentSpread) → Grows (selection.FragmentSpread s)
  spread-grows s ty g =
      subst (Grown g) (sym (added-spread s ty g))
      (record { fields = λ a x at. at; items = λ i has. Contains-append_left g.items (number_of fragments s.fragment_name) i has })

  inline-grows : (i : InlineFragment) → AllByRecursion Grows i.selection_set.selections → Grows (selection.InlineFragment i)
  inline-grows i each ty g = subst (Grown g) (sym (added-inline i ty g)) (all-grow i.selection_set.selections each i.selection_set.ty g)

  grow : (xs : List Selection) (ty : Named) (g : Gathered) → Grown g (with_selections fragments ty xs g)
  grow xs ty g = all-grow xs (all-inside Grows field-grows spread-grows inline-grows xs) ty g

  pub set-grows : (set : SelectionSet) (g : Gathered) → Grown g (with_set fragments set g)
  set-grows set g = grow set.selections set.ty g

  -- ---- each is held by what comes of it

  -- a selection before others that are held
  abbrev Holds : Selection → Type 0
  Holds x =
      (ty : Named) (g : Gathered) (all : List Selected) (items : Items) (rest : List Selection)
      → Grown (with_selection fragments x ty g) (gathered all items) → Held all ty items rest → Held all ty items (x ∷ rest)

  all-held : (xs : List Selection) → AllByRecursion Holds xs → (ty : Named) (g : Gathered) (all : List Selected) (items : Items)
      → Grown (with_selections fragments ty xs g) (gathered all items) → Held all ty items xs
  all-held [] each ty g all items grown = none_held
  all-held (x ∷ xs) each ty g all items grown =
      let next = with_selection fragments x ty g in
      each.0 ty g all items xs (grown-more next (with_selections fragments ty xs next) (gathered all items) (grow xs ty next) grown)
      (all-held xs each.1 ty next all items grown)

  field-held : (f : Field) → AllByRecursion Holds f.selection_set.selections → Holds (selection.Field f)
  field-held f each ty g all items rest grown held =
      let start = gathered g.fields [] in
      let inner = with_set fragments f.selection_set start in
      let sel = selected_as ty f inner.items in
      let number = length inner.fields in
      let later : Grown (with_last fragments sel inner.fields g.items) (gathered all items) = subst (λ (h : Gathered). Grown h (gathered all items)) (added-field f ty g) grown in
      field_held f number inner.items
      (later.items (length fragments + number) (last-contained g.items (length fragments + number)))
      (later.fields number sel (last-there inner.fields sel))
      (all-held f.selection_set.selections each f.selection_set.ty start all inner.items
      (record { fields = λ a x at. later.fields a x (kept-front inner.fields (sel ∷ []) a x at); items = λ i has. has }))
      held

  spread-held : (s : FragmentSpread) → Holds (selection.FragmentSpread s)
  spread-held s ty g all items rest grown held =
      let later : Grown (with_spread fragments s.fragment_name g) (gathered all items) = subst (λ (h : Gathered). Grown h (gathered all items)) (added-spread s ty g) grown in
      spread_held s
      (λ number is.
      later.items number
      (Contains-append_right g.items (number_of fragments s.fragment_name) number
      (subst (λ o. Contains (option_to_list o) number) (sym is) (0, omega arith, refl))))
      held

  inline-held : (i : InlineFragment) → AllByRecursion Holds i.selection_set.selections → Holds (selection.InlineFragment i)
  inline-held i each ty g all items rest grown held =
      inline_held i
      (all-held i.selection_set.selections each i.selection_set.ty g all items (subst (λ (h : Gathered). Grown h (gathered all items)) (added-inline i ty g) grown))
      held

  -- a set with all the fields that come later
  pub set-held : (set : SelectionSet) (g : Gathered) (all : List Selected) → Keeps (with_set fragments set g).fields all
      → Held all set.ty (with_set fragments set g).items set.selections
  set-held set g all keeps =
      all-held set.selections (all-inside Holds field-held spread-held inline-held set.selections) set.ty g all (with_set fragments set g).items (record { fields = keeps; items = λ i has. has })
