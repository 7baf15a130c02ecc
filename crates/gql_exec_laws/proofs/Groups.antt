-- Groups of expanded selections: the same groups, each expanded.
use Rattle.std.proofs.Common.{arith, ◌≡◌, ℕ, ◌+◌, Bool, true, false, cond, List, [], ◌∷◌, ◌++◌, map, Option, Some, None, refl, sym, ap, ◌∙◌}
use Rattle.std.specs.List.{find, filter}
use Rattle.std.specs.Option.{option_map}
use Rattle.std.proofs.lemmas.List.{map-append}
use Rattle.gql_document_types.specs.declared.fragment.Fragment.{Fragment}
use Rattle.gql_document_types.specs.declared.selection.Field.{Field}
use Rattle.gql_document_types.specs.declared.selection.Selection.{Selection}
use Rattle.gql_schema_types.specs.declared.schema.Schema.{Schema}
use Rattle.gql_schema_types.specs.declared.types.ObjectType.{ObjectType}
use Rattle.gql_document_types.specs.Contents.{HaveContents}
use Rattle.gql_document_types.specs.Expanded.{expanded}
use Rattle.gql_document_types.specs.bridge.Expanded.{expanded_field}
use Rattle.gql_collect.specs.Flat.{enough, flat, flat_within, flat_sets}
use Rattle.gql_collect.specs.Groups.{response_key, has_key, distinct_after, keys, FieldGroup, group_at, groups_of, is_defined, applying}
use Rattle.gql_collect.specs.Kept.{Variables}
use Rattle.gql_document_types.specs.Ranks.{AreRanked}
use Rattle.gql_collect.specs.Setting.{Setting}
use Rattle.gql_exec.specs.Group.{Group, piece_of, pieces_of, started, group_from, groups_from}
use Rattle.gql_exec_laws.proofs.Flats.{flat-agrees}
use Rattle.gql_exec_laws.proofs.Steady.{flat-more}

turned : (a b : ℕ) → a + b ≡ b + a
turned a b = omega arith

module _ (fragments : List Fragment) where
  -- what is found of expanded fields is found of the fields
  abbrev with_field : Field → Field
  with_field = expanded_field fragments

  abbrev with_fields : List Field → List Field
  with_fields fields = map with_field fields

  abbrev with_sets : List (List Selection) → List (List Selection)
  with_sets sets = map (expanded fragments) sets

  abbrev with_group : FieldGroup → FieldGroup
  with_group g = record { key = g.key; first = option_map with_field g.first; fields = with_fields g.fields }

  same-keys : (fs : List Field) → map response_key (with_fields fs) ≡ map response_key fs
  same-keys [] = refl
  same-keys (f ∷ fs) = ap (λ l. response_key f ∷ l) (same-keys fs)

  find-with : (k : List ℕ) (fs : List Field) → find (has_key k) (with_fields fs) ≡ option_map with_field (find (has_key k) fs)
  find-with k [] = refl
  find-with k (f ∷ fs) = by (has_key k f) (find-with k fs)
    where
      by : (b : Bool) → find (has_key k) (with_fields fs) ≡ option_map with_field (find (has_key k) fs)
          → cond b (Some (with_field f)) (find (has_key k) (with_fields fs)) ≡ option_map with_field (cond b (Some f) (find (has_key k) fs))
      by true later = refl
      by false later = later

  filter-with : (k : List ℕ) (fs : List Field) → filter (has_key k) (with_fields fs) ≡ with_fields (filter (has_key k) fs)
  filter-with k [] = refl
  filter-with k (f ∷ fs) = by (has_key k f) (filter-with k fs)
    where
      by : (b : Bool) → filter (has_key k) (with_fields fs) ≡ with_fields (filter (has_key k) fs)
          → cond b (with_field f ∷ filter (has_key k) (with_fields fs)) (filter (has_key k) (with_fields fs)) ≡ with_fields (cond b (f ∷ filter (has_key k) fs) (filter (has_key k) fs))
      by true later = ap (λ l. with_field f ∷ l) later
      by false later = later

  abbrev group : List ℕ → Option Field → List Field → FieldGroup
  group k first fields = record { key = k; first = first; fields = fields }

  group-with : (fs : List Field) (k : List ℕ) → group_at (with_fields fs) k ≡ with_group (group_at fs k)
  group-with fs k = ap (λ o. group k o (filter (has_key k) (with_fields fs))) (find-with k fs) ∙ ap (λ l. group k (option_map with_field (find (has_key k) fs)) l) (filter-with k fs)

  groups-at : (fs : List Field) (ks : List (List ℕ)) → map (group_at (with_fields fs)) ks ≡ map with_group (map (group_at fs) ks)
  groups-at fs [] = refl
  groups-at fs (k ∷ ks) = ap (λ g. g ∷ map (group_at (with_fields fs)) ks) (group-with fs k) ∙ ap (λ l. with_group (group_at fs k) ∷ l) (groups-at fs ks)

  groups-with : (fs : List Field) → groups_of (with_fields fs) ≡ map with_group (groups_of fs)
  groups-with fs = ap (λ ks. map (group_at (with_fields fs)) (distinct_after [] ks)) (same-keys fs) ∙ groups-at fs (keys fs)

  module _ (schema : Schema) (object : ObjectType) where
    defined-with : (g : FieldGroup) → is_defined schema object (with_group g) ≡ is_defined schema object g
    defined-with g = by g.key g.first g.fields
      where
        by : (k : List ℕ) (o : Option Field) (fs : List Field) → is_defined schema object (with_group (group k o fs)) ≡ is_defined schema object (group k o fs)
        by k None fs = refl
        by k (Some f) fs = refl

    all-defined : (gs : List FieldGroup) → filter (is_defined schema object) (map with_group gs) ≡ map with_group (filter (is_defined schema object) gs)
    all-defined [] = refl
    all-defined (g ∷ gs) =
        ap (λ b. cond b (with_group g ∷ filter (is_defined schema object) (map with_group gs)) (filter (is_defined schema object) (map with_group gs))) (defined-with g)
        ∙ by (is_defined schema object g) (all-defined gs)
      where
        by : (b : Bool) → filter (is_defined schema object) (map with_group gs) ≡ map with_group (filter (is_defined schema object) gs)
            → cond b (with_group g ∷ filter (is_defined schema object) (map with_group gs)) (filter (is_defined schema object) (map with_group gs))
            ≡ map with_group (cond b (g ∷ filter (is_defined schema object) gs) (filter (is_defined schema object) gs))
        by true later = ap (λ l. with_group g ∷ l) later
        by false later = later

  -- ---- as execution takes them

  abbrev pub with_pieces : Group → Group
  with_pieces g = record { first = with_field g.first; pieces = with_sets g.pieces }

  pieces-with : (fs : List Field) → pieces_of (with_fields fs) ≡ with_sets (pieces_of fs)
  pieces-with [] = refl
  pieces-with (f ∷ fs) = ap (λ l. expanded fragments (piece_of f) ∷ l) (pieces-with fs)

  started-with : (o : Option Field) (fs : List Field) → started (option_map with_field o) (with_fields fs) ≡ map with_pieces (started o fs)
  started-with None fs = refl
  started-with (Some f) fs = ap (λ (l : List (List Selection)). let r : Group = record { first = with_field f; pieces = l } in r ∷ []) (pieces-with fs)

  from-with : (gs : List FieldGroup) → groups_from (map with_group gs) ≡ map with_pieces (groups_from gs)
  from-with [] = refl
  from-with (g ∷ gs) =
      ap (λ l. l ++ groups_from (map with_group gs)) (started-with g.first g.fields) ∙ ap (λ l. map with_pieces (group_from g) ++ l) (from-with gs)
      ∙ sym (map-append with_pieces (group_from g) (groups_from gs))

  module _ (others : List Fragment) (schema : Schema) (object : ObjectType) (variables : Variables) (have : HaveContents fragments)
      (rank : ℕ → ℕ) (ranked : AreRanked fragments rank) (order : ℕ → ℕ) (ordered : AreRanked others order) where
    abbrev s : Setting
    s = record { fragments = fragments; schema = schema; object = object; variables = variables }

    abbrev t : Setting
    t = record { fragments = others; schema = schema; object = object; variables = variables }

    pub flat-with : (xs : List Selection) → flat t (expanded fragments xs) ≡ with_fields (flat s xs)
    flat-with xs =
        flat-more t order ordered (enough s xs) (expanded fragments xs)
        ∙ flat-agrees fragments others schema object variables have (enough s xs + enough t (expanded fragments xs)) xs
        ∙ ap (λ n. with_fields (flat_within s n xs)) (turned (enough s xs) (enough t (expanded fragments xs)))
        ∙ sym (ap with_fields (flat-more s rank ranked (enough t (expanded fragments xs)) xs))

    sets-with : (sets : List (List Selection)) → flat_sets t (with_sets sets) ≡ with_fields (flat_sets s sets)
    sets-with [] = refl
    sets-with (xs ∷ sets) =
        ap (λ l. l ++ flat_sets t (with_sets sets)) (flat-with xs) ∙ ap (λ l. with_fields (flat s xs) ++ l) (sets-with sets)
        ∙ sym (map-append with_field (flat s xs) (flat_sets s sets))

    -- the groups of expanded sets are those of the sets, expanded
    pub groups-expanded : (sets : List (List Selection)) → groups_from (applying t (with_sets sets)) ≡ map with_pieces (groups_from (applying s sets))
    groups-expanded sets =
        ap (λ fs. groups_from (filter (is_defined schema object) (groups_of fs))) (sets-with sets)
        ∙ ap (λ gs. groups_from (filter (is_defined schema object) gs)) (groups-with (flat_sets s sets))
        ∙ ap groups_from (all-defined schema object (groups_of (flat_sets s sets)))
        ∙ from-with (filter (is_defined schema object) (groups_of (flat_sets s sets)))
