-- The fields that are collected on an object type have numbers, and stand on types for which this type stands.
use Rattle.std.proofs.Common.{◌≡◌, ◌+◌, ℕ, zero, suc, Bool, true, false, ◌&&◌, List, [], ◌∷◌, ◌++◌, length, Option, Some, None, position, unwrap_or, refl, sym, ◌∙◌, subst}
use Rattle.std.specs.List.{AllByRecursion, Contains, find, slice_get}
use Rattle.gql_ast_base.specs.Names.{Named}
use Rattle.gql_ast_base.specs.TypeParts.{named_type}
use Rattle.gql_collect.specs.Applies.{applies, applies_if}
use Rattle.gql_collect.specs.Flat.{Shape, when, contents, body, field_of as field_in, opened, flat_within}
use Rattle.gql_collect.specs.Kept.{is_kept, Variables}
use Rattle.gql_collect.specs.Setting.{Setting}
use Rattle.gql_document_types.proofs.Variants.{out-field, out-spread, out-inline}
use Rattle.gql_document_types.specs.RootFields.{fragment_name}
use Rattle.gql_document_types.specs.declared.document.ExecutableDocument.{ExecutableDocument}
use Rattle.gql_document_types.specs.declared.fragment.Fragment.{Fragment}
use Rattle.gql_document_types.specs.declared.selection.Field.{Field}
use Rattle.gql_document_types.specs.declared.selection.FragmentSpread.{FragmentSpread}
use Rattle.gql_document_types.specs.declared.selection.InlineFragment.{InlineFragment}
use Rattle.gql_document_types.specs.declared.selection.Selection.{Selection, out-Selection}
use Rattle.gql_document_types.specs.declared.selection.Selection.TheVariants as selection
use Rattle.gql_graph.specs.Cycles.{at_once, along}
use Rattle.gql_graph.specs.Graph.{Graph}
use Rattle.gql_graph.specs.Pairs.{IsField}
use Rattle.gql_rules_merging.specs.bridge.Gathering.{selected_as}
use Rattle.gql_rules_merging.specs.Numbering.{Items, numbered}
use Rattle.gql_schema_types.proofs.Lookups.{found, missing}
use Rattle.gql_schema_types.specs.Entries.{entry, is_called}
use Rattle.gql_schema_types.specs.Schemas.{field_of}
use Rattle.gql_schema_types.specs.declared.schema.Schema.{Schema}
use Rattle.gql_schema_types.specs.declared.types.ObjectType.{ObjectType}
use Rattle.gql_valid_laws.proofs.Bases.{AreBased, IsDocumentBased, IsFieldBased, based-rest, based-field, based-inline}
use Rattle.gql_valid_laws.proofs.Held.{Held, none_held, field_held, spread_held, inline_held}
use Rattle.gql_valid_laws.proofs.Numbered.{fields, fragment-count, fragment-held}
use Rattle.gql_valid_laws.proofs.Selections.{all-both, all-map}
use Rattle.gql_valid_laws.specs.Covariant.{Stands}

and-second : (a b : Bool) → (a && b) ≡ true → b ≡ true
and-second true b is = is
and-second false b is = absurd (let e : false ≡ true = is in cc)

-- what is found stands at its place
placed : {A : Type 0} (p : A → Bool) (xs : List A) (x : A) → find p xs ≡ Some x → (i : ℕ) × (position p xs ≡ Some i) × (slice_get xs i ≡ Some x)
placed p xs x is = by (position p xs) refl
  where
    by : (o : Option ℕ) → position p xs ≡ o → (i : ℕ) × (position p xs ≡ Some i) × (slice_get xs i ≡ Some x)
    by None at = absurd (let e : None ≡ Some x = sym (missing p xs at) ∙ is in cc)
    by (Some i) at = (i, at, sym (found p xs i at) ∙ is)

module _ (schema : Schema) (document : ExecutableDocument) (are_based : IsDocumentBased schema document) where
  abbrev pub graph : Graph
  graph = (numbered document).fragments

  abbrev pub IsHeldOn : Named → Items → List Selection → Type 0
  IsHeldOn ty items xs = Held document.fragments (fields document) ty items xs

  -- a field of a set that selects these items, with each fragment entered
  pub record IsFound (T : ObjectType) (items : Items) (f : Field) : Type 0 where
    pub number : ℕ
    pub field : IsField graph items number
    pub parent : Named
    pub stands : Stands schema T parent.text
    pub own : Items
    pub at : slice_get (fields document) number ≡ Some (selected_as parent f own)
    pub inside : IsHeldOn f.selection_set.ty own f.selection_set.selections
    pub defined : field_of schema parent.text f.name.text ≡ Some f.definition
    pub type : f.selection_set.ty ≡ named_type f.definition.ty
    pub based : AreBased schema f.selection_set.ty f.selection_set.selections

  module _ (T : ObjectType) (variables : Variables) where
    abbrev s : Setting
    s = record { fragments = document.fragments; schema = schema; object = T; variables = variables }

    abbrev AreFound : Items → List Field → Type 0
    AreFound items fs = AllByRecursion (IsFound T items) fs

    none-found : (items : Items) (k : ℕ) → AreFound items (flat_within s k [])
    none-found items zero = tt
    none-found items (suc k) = tt

    when-found : (items : Items) (k : ℕ) (b : Bool) (xs : List Selection) → (b ≡ true → AreFound items (flat_within s k xs)) → AreFound items (flat_within s k (when b xs))
    when-found items k true xs each = each refl
    when-found items k false xs each = none-found items k

    -- a field of a fragment is one of each set that spreads it
    entered : (items its : Items) (i : ℕ) → Contains items i → slice_get graph i ≡ Some its → (f : Field) → IsFound T its f → IsFound T items f
    entered items its i among at f it = record {
      number = it.number;
      field = (i, among, along (subst (λ o. Contains (unwrap_or o []) it.field.0) (sym at) it.field.1) it.field.2);
      parent = it.parent;
      stands = it.stands;
      own = it.own;
      at = it.at;
      inside = it.inside;
      defined = it.defined;
      type = it.type;
      based = it.based;
    }

    stands_inside : (ty : Named) (o : Option Named) → applies_if schema.types T o ≡ true → Stands schema T ty.text → Stands schema T (unwrap_or o ty).text
    stands_inside ty None applies stands = stands
    stands_inside ty (Some name) applies stands = applies

    module _ (k : ℕ) (inside : (ty : Named) (items : Items) (xs : List Selection) → IsHeldOn ty items xs → AreBased schema ty xs → Stands schema T ty.text → AreFound items (flat_within s k xs)) where
      -- what stands in the place of one selection
      abbrev Gives : Items → Shape → Type 0
      Gives items shape = AreFound items (field_in s shape ++ flat_within s k (opened s shape))

      field-gives : (ty : Named) (items : Items) (it : Field) (xs : List Selection) (number : ℕ) (own : Items) → Contains items (length document.fragments + number)
          → slice_get (fields document) number ≡ Some (selected_as ty it own) → IsHeldOn it.selection_set.ty own it.selection_set.selections
          → AreBased schema ty (selection.Field it ∷ xs) → Stands schema T ty.text → Gives items (out-Selection (selection.Field it))
      field-gives ty items it xs number own among at held based stands =
          subst (Gives items) (sym (out-field it))
          (all-both (IsFound T items) (when (is_kept variables it.directives) (it ∷ [])) (flat_within s k []) (by (is_kept variables it.directives)) (none-found items k))
        where
          its_base : IsFieldBased schema ty it
          its_base = based-field schema ty it xs based

          one : IsFound T items it
          one = record {
            number = number;
            field = (length graph + number, subst (λ n. Contains items (n + number)) (sym (fragment-count document)) among, at_once);
            parent = ty;
            stands = stands;
            own = own;
            at = at;
            inside = held;
            defined = its_base.defined;
            type = its_base.type;
            based = its_base.inside;
          }

          by : (b : Bool) → AreFound items (when b (it ∷ []))
          by true = (one, tt)
          by false = tt

      contents-found : (items : Items) (name : List ℕ) → ((number : ℕ) → position (is_called fragment_name name) document.fragments ≡ Some number → Contains items number)
          → (o : Option Fragment) → entry fragment_name name document.fragments ≡ o → AreFound items (flat_within s k (contents s o))
      contents-found items name among None at = none-found items k
      contents-found items name among (Some it) at =
          when-found items k (applies schema.types T it.selection_set.ty.text) it.selection_set.selections (λ stands.
          let place = placed (is_called fragment_name name) document.fragments it at in
          let its = fragment-held document place.0 it place.2 in
          all-map (IsFound T its.0) (IsFound T items) (entered items its.0 place.0 (among place.0 place.1) its.1) (flat_within s k it.selection_set.selections)
          (inside it.selection_set.ty its.0 it.selection_set.selections its.2 (are_based.fragments name it at) stands))

      spread-gives : (items : Items) (it : FragmentSpread)
          → ((number : ℕ) → position (is_called fragment_name it.fragment_name.text) document.fragments ≡ Some number → Contains items number)
          → Gives items (out-Selection (selection.FragmentSpread it))
      spread-gives items it among =
          subst (Gives items) (sym (out-spread it))
          (when-found items k (is_kept variables it.directives) (body s it.fragment_name.text) (λ kept.
          contents-found items it.fragment_name.text among (entry fragment_name it.fragment_name.text document.fragments) refl))

      inline-gives : (ty : Named) (items : Items) (it : InlineFragment) (xs : List Selection) → IsHeldOn it.selection_set.ty items it.selection_set.selections
          → AreBased schema ty (selection.InlineFragment it ∷ xs) → Stands schema T ty.text → Gives items (out-Selection (selection.InlineFragment it))
      inline-gives ty items it xs held based stands =
          let its_base = based-inline schema ty it xs based in
          let kept = is_kept variables it.directives in
          let fits = applies_if schema.types T it.type_condition in
          subst (Gives items) (sym (out-inline it))
          (when-found items k (kept && fits) it.selection_set.selections (λ both.
          inside it.selection_set.ty items it.selection_set.selections held its_base.inside
          (subst (λ (name : Named). Stands schema T name.text) (sym its_base.type)
          (stands_inside ty it.type_condition (and-second kept fits both) stands))))

      level : {ty : Named} {items : Items} {xs : List Selection} → IsHeldOn ty items xs → AreBased schema ty xs → Stands schema T ty.text → AreFound items (flat_within s (suc k) xs)
      level none_held based stands = tt
      level {ty} {items} (field_held {rest = rest} it number own among at held others) based stands =
          all-both (IsFound T items) (field_in s (out-Selection (selection.Field it)) ++ flat_within s k (opened s (out-Selection (selection.Field it)))) (flat_within s (suc k) rest)
          (field-gives ty items it rest number own among at held based stands)
          (level others (based-rest schema ty (selection.Field it) rest based) stands)
      level {ty} {items} (spread_held {rest = rest} it among others) based stands =
          all-both (IsFound T items) (field_in s (out-Selection (selection.FragmentSpread it)) ++ flat_within s k (opened s (out-Selection (selection.FragmentSpread it)))) (flat_within s (suc k) rest)
          (spread-gives items it among)
          (level others (based-rest schema ty (selection.FragmentSpread it) rest based) stands)
      level {ty} {items} (inline_held {rest = rest} it held others) based stands =
          all-both (IsFound T items) (field_in s (out-Selection (selection.InlineFragment it)) ++ flat_within s k (opened s (out-Selection (selection.InlineFragment it)))) (flat_within s (suc k) rest)
          (inline-gives ty items it rest held based stands)
          (level others (based-rest schema ty (selection.InlineFragment it) rest based) stands)

    pub all-found : (k : ℕ) (ty : Named) (items : Items) (xs : List Selection) → IsHeldOn ty items xs → AreBased schema ty xs → Stands schema T ty.text
        → AllByRecursion (IsFound T items) (flat_within s k xs)
    all-found zero ty items xs held based stands = tt
    all-found (suc k) ty items xs held based stands = level k (all-found k) held based stands
