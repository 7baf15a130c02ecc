-- The sets of a document have numbered fields.
use Rattle.std.proofs.Common.{arith, ◌≡◌, ◌<◌, ℕ, zero, suc, List, [], ◌∷◌, ◌++◌, length, map, get_or, Some, None, refl, sym, ap, ◌∙◌, subst, append_assoc}
use Rattle.std.specs.List.{Contains, slice_get}
use Rattle.std.proofs.lemmas.List.{length-map}
use Rattle.gql_document_types.specs.declared.document.ExecutableDocument.{ExecutableDocument}
use Rattle.gql_document_types.specs.declared.fragment.Fragment.{Fragment}
use Rattle.gql_document_types.specs.declared.operation.Operation.{Operation}
use Rattle.gql_document_types.specs.declared.selection.SelectionSet.{SelectionSet}
use Rattle.gql_rules_merging.specs.Numbering.{Items, Selected, Sets, with_set, with_one, with_sets, fragment_sets, operation_sets, in_fragments, in_operations, numbered}
use Rattle.gql_valid_laws.proofs.Held.{Keeps, Held, gathered, set-grows, set-held}

module _ (fragments : List Fragment) where
  abbrev pub IsHeld : List Selected → SelectionSet → Items → Type 0
  IsHeld all set items = Held fragments all set.ty items set.selections

  -- set by set what each selects
  abbrev pub AreHeld : List Selected → List SelectionSet → List Items → Type 0
  AreHeld all [] [] = Unit {0}
  AreHeld all (set ∷ sets) (items ∷ more) = IsHeld all set items × AreHeld all sets more
  AreHeld all _ _ = ⊥

  pub record AreNumbered (sets : List SelectionSet) (old new : Sets) : Type 0 where
    pub made : List Items
    pub is : new.sets ≡ old.sets ++ made
    pub fields : Keeps old.fields new.fields
    pub held : (all : List Selected) → Keeps new.fields all → AreHeld all sets made

  open_set : (set : SelectionSet) (old : Sets) → Keeps old.fields (with_one fragments set old).fields
  open_set set old = (set-grows fragments set (gathered old.fields [])).fields

  pub all-numbered : (sets : List SelectionSet) (old : Sets) → AreNumbered sets old (with_sets fragments sets old)
  all-numbered [] old = record { made = []; is = sym (append-nil-right old.sets); fields = λ a x at. at; held = λ all keeps. tt }
    where
      append-nil-right : (xs : List Items) → xs ++ [] ≡ xs
      append-nil-right [] = refl
      append-nil-right (x ∷ xs) = ap (λ l. x ∷ l) (append-nil-right xs)
  all-numbered (set ∷ sets) old =
      let inner = with_set fragments set (gathered old.fields []) in
      let next = with_one fragments set old in
      let rest = all-numbered sets next in
      record {
        made = inner.items ∷ rest.made;
        is = rest.is ∙ append_assoc old.sets (inner.items ∷ []) rest.made;
        fields = λ a x at. rest.fields a x (open_set set old a x at);
        held = λ all keeps. (set-held fragments set (gathered old.fields []) all (λ a x at. keeps a x (rest.fields a x at)), rest.held all keeps);
      }

  -- ---- one of them

  pub as-many : (all : List Selected) (sets : List SelectionSet) (made : List Items) → AreHeld all sets made → length made ≡ length sets
  as-many all [] [] held = refl
  as-many all (set ∷ sets) (items ∷ made) held = ap suc (as-many all sets made held.1)
  as-many all [] (items ∷ made) held = absurd held
  as-many all (set ∷ sets) [] held = absurd held

  pub held-at : (all : List Selected) (sets : List SelectionSet) (made : List Items) → AreHeld all sets made
      → (i : ℕ) (set : SelectionSet) → slice_get sets i ≡ Some set → (items : Items) × (slice_get made i ≡ Some items) × IsHeld all set items
  held-at all [] made held i set at = absurd (let e : None ≡ Some set = at in cc)
  held-at all (first ∷ sets) [] held i set at = absurd held
  held-at all (first ∷ sets) (items ∷ made) held zero set at =
      let same : first ≡ set = (let e : Some first ≡ Some set = at in cc) in
      (items, refl, subst (λ (s : SelectionSet). IsHeld all s items) same held.0)
  held-at all (first ∷ sets) (items ∷ made) held (suc i) set at = held-at all sets made held.1 i set at

-- ---- a document

module _ (document : ExecutableDocument) where
  abbrev pub fields : List Selected
  fields = (numbered document).fields

  fragments-numbered : AreNumbered document.fragments (fragment_sets document) (record { sets = []; fields = [] }) (in_fragments document)
  fragments-numbered = all-numbered document.fragments (fragment_sets document) (record { sets = []; fields = [] })

  operations-numbered : AreNumbered document.fragments (operation_sets document) (record { sets = []; fields = (in_fragments document).fields }) (in_operations document)
  operations-numbered = all-numbered document.fragments (operation_sets document) (record { sets = []; fields = (in_fragments document).fields })

  fragments-held : AreHeld document.fragments fields (fragment_sets document) (numbered document).fragments
  fragments-held =
      subst (AreHeld document.fragments fields (fragment_sets document)) (sym fragments-numbered.is)
      (fragments-numbered.held fields operations-numbered.fields)

  operations-held : AreHeld document.fragments fields (operation_sets document) (numbered document).operations
  operations-held =
      subst (AreHeld document.fragments fields (operation_sets document)) (sym operations-numbered.is)
      (operations-numbered.held fields (λ a x at. at))

  pub fragment-count : length (numbered document).fragments ≡ length document.fragments
  fragment-count =
      as-many document.fragments fields (fragment_sets document) (numbered document).fragments fragments-held
      ∙ length-map document.fragments (λ (fragment : Fragment). fragment.selection_set)

  mapped : {A B : Type 0} (f : A → B) (xs : List A) (i : ℕ) (x : A) → slice_get xs i ≡ Some x → slice_get (map f xs) i ≡ Some (f x)
  mapped f [] i x at = absurd (let e : None ≡ Some x = at in cc)
  mapped f (y ∷ xs) zero x at = let same : y ≡ x = (let e : Some y ≡ Some x = at in cc) in ap (λ z. Some (f z)) same
  mapped f (y ∷ xs) (suc i) x at = mapped f xs i x at

  pub fragment-held : (i : ℕ) (it : Fragment) → slice_get document.fragments i ≡ Some it
      → (items : Items) × (slice_get (numbered document).fragments i ≡ Some items) × IsHeld document.fragments fields it.selection_set items
  fragment-held i it at =
      held-at document.fragments fields (fragment_sets document) (numbered document).fragments fragments-held i it.selection_set
      (mapped (λ (fragment : Fragment). fragment.selection_set) document.fragments i it at)

  place-at : {A : Type 0} (xs : List A) (x : A) (i : ℕ) → i < length xs → get_or xs i x ≡ x → slice_get xs i ≡ Some x
  place-at [] x i within is = absurd (omega (arith, within))
  place-at (y ∷ xs) x zero within is = ap Some is
  place-at (y ∷ xs) x (suc i) within is = place-at xs x i (omega (arith, within)) is

  pub there : {A : Type 0} (xs : List A) (i : ℕ) (x : A) → slice_get xs i ≡ Some x → Contains xs x
  there [] i x at = absurd (let e : None ≡ Some x = at in cc)
  there (y ∷ xs) zero x at = let same : y ≡ x = (let e : Some y ≡ Some x = at in cc) in (0, omega arith, same)
  there (y ∷ xs) (suc i) x at = let later = there xs i x at in (suc later.0, omega (arith, later.1), later.2)

  pub operation-held : (it : Operation) → Contains document.operations it
      → (items : Items) × Contains (numbered document).operations items × IsHeld document.fragments fields it.selection_set items
  operation-held it among =
      let place = place-at document.operations it among.0 among.1 among.2 in
      let found = held-at document.fragments fields (operation_sets document) (numbered document).operations operations-held among.0 it.selection_set
      (mapped (λ (operation : Operation). operation.selection_set) document.operations among.0 it place) in
      (found.0, there (numbered document).operations among.0 found.0 found.1, found.2)
