-- Fields of one response key that one object can have are one field, at every depth.
use Rattle.std.proofs.Common.{arith, ◌≡◌, ◌≢◌, ◌<◌, ◌≤◌, ℕ, zero, suc, Bool, true, false, not, ◌&&◌, List, [], ◌∷◌, length, Some, unwrap_or, refl, sym, ap, ◌∙◌, subst, inl, inr, ◌⊎◌}
use Rattle.std.specs.List.{AllByRecursion, Contains, slice_get}
use Rattle.std.specs.Option.{option_map, option_map_or}
use Rattle.std.proofs.lemmas.Bool.{cases_lt}
use Rattle.std.proofs.lemmas.List.{length-map}
use Rattle.std.proofs.lemmas.List.Elements.{Contains-append_left, Contains-append_right}
use Rattle.std.proofs.lemmas.Option.{slice_get-map, slice_get_within}
use Rattle.gql_ast_base.specs.Names.{Named}
use Rattle.gql_ast_base.specs.TypeParts.{named_type}
use Rattle.gql_collect.specs.Flat.{flat, flat_within, enough}
use Rattle.gql_collect.specs.Groups.{response_key}
use Rattle.gql_collect.specs.Kept.{Variables}
use Rattle.gql_collect.specs.Setting.{Setting}
use Rattle.gql_ast.specs.declared.field_definition.FieldDefinition.{FieldDefinition}
use Rattle.gql_document_types.specs.declared.document.ExecutableDocument.{ExecutableDocument}
use Rattle.gql_document_types.specs.declared.operation.Operation.{Operation}
use Rattle.gql_document_types.specs.declared.selection.Field.{Field}
use Rattle.gql_document_types.specs.declared.selection.Selection.{Selection}
use Rattle.gql_graph.proofs.Flooded.{Contains-cons_cases, none_contained, same_or_not}
use Rattle.gql_graph.specs.Graph.{Graph}
use Rattle.gql_graph.specs.Pairs.{Sets, IsField, IsPairIn, IsSet, of_operation, of_field, IsCompared, in_set, below as under, items_below}
use Rattle.gql_graph.specs.declared.pair.Pair.{Pair}
use Rattle.gql_rules_merging.specs.ConflictingFieldType.{are_known, same_shape}
use Rattle.gql_rules_merging.specs.FieldSelectionMerging.{items, sets_of, AreConflicts}
use Rattle.gql_rules_merging.specs.bridge.Gathering.{selected_as}
use Rattle.gql_rules_merging.specs.Numbering.{Items, Selected, numbered}
use Rattle.gql_rules_merging.specs.ResponseKeys.{has_key, place_of, key_number, key_numbers}
use Rattle.gql_schema_types.specs.Schemas.{field_of}
use Rattle.gql_schema_types.specs.declared.schema.Schema.{Schema}
use Rattle.gql_schema_types.specs.declared.types.ObjectType.{ObjectType}
use Rattle.gql_valid_laws.proofs.Bases.{AreBased, IsDocumentBased}
use Rattle.gql_valid_laws.proofs.Found.{IsHeldOn, IsFound, all-found}
use Rattle.gql_valid_laws.proofs.Numbered.{fields, operation-held}
use Rattle.gql_valid_laws.proofs.Selections.{all-map}
use Rattle.gql_valid_laws.proofs.Unbroken.{below-is, unbroken, Agree, agree}
use Rattle.gql_valid_laws.specs.Covariant.{Stands}
use Rattle.gql_valid_laws.specs.Merge.{HaveOneName, AreOfOneName, MergeTo, Merge}

module _ (schema : Schema) (document : ExecutableDocument) (are_based : IsDocumentBased schema document) (none : AreConflicts schema.types document []) where
  abbrev all : List Selected
  all = fields document

  abbrev keys : List ℕ
  keys = key_numbers all

  abbrev sets : Sets
  sets = sets_of schema.types (numbered document)

  abbrev pub shapes_conflict : FieldDefinition → FieldDefinition → Bool
  shapes_conflict one other = are_known schema.types one.ty other.ty && not (same_shape schema.types one.ty other.ty)

  abbrev Found : ObjectType → Items → Field → Type 0
  Found T its f = IsFound schema document are_based T its f

  -- the types of two fields don't conflict, whichever comes first
  pub data HaveOneShape (f g : Field) : Type 0 where
    shape_in_order : shapes_conflict f.definition g.definition ≡ false → HaveOneShape f g
    shape_turned : shapes_conflict g.definition f.definition ≡ false → HaveOneShape f g
    shape_equal : f.definition ≡ g.definition → HaveOneShape f g

  -- what two fields of one response key are to each other, on an object type that stands for the types of both their sets
  pub record AreMet (f g : Field) : Type 0 where
    pub name : f.name.text ≡ g.name.text
    pub one : Named
    pub other : Named
    pub one_defined : field_of schema one.text f.name.text ≡ Some f.definition
    pub other_defined : field_of schema other.text g.name.text ≡ Some g.definition
    pub shape : HaveOneShape f g

  -- ---- sets whose pairs are compared in full

  abbrev numbers : Graph
  numbers = (numbered document).fragments

  abbrev AreFull : Items → Type 0
  AreFull its = (p : Pair) → p.in_full ≡ true → IsPairIn numbers keys its p → IsCompared sets p

  full-set : (its : Items) → IsSet sets its → AreFull its
  full-set its set p full pair = in_set set pair full

  full-below : (above : Pair) → IsCompared sets above → sets.below above ≡ Some true → AreFull (items_below sets above)
  full-below above compared is p full pair = under compared (is ∙ ap Some (sym full)) pair

  -- ---- two fields

  abbrev key_at : List ℕ → ℕ
  key_at key = unwrap_or (place_of (has_key key) all) 0

  its-key : (a : ℕ) (parent : Named) (f : Field) (own : Items) → slice_get all a ≡ Some (selected_as parent f own) → slice_get keys a ≡ Some (key_at (response_key f))
  its-key a parent f own at = slice_get-map (key_number all) all a ∙ ap (option_map (key_number all)) at

  within-more : (part its : Items) (a : ℕ) → ((i : ℕ) → Contains part i → Contains its i) → IsField numbers part a → IsField numbers its a
  within-more part its a more field = (field.0, more field.0 field.1, field.2)

  its-items : (a : ℕ) (x : Selected) → slice_get all a ≡ Some x → items all a ≡ x.items
  its-items a x at = ap (λ o. option_map_or (λ (field : Selected). field.items) o []) at

  abbrev pair : ℕ → ℕ → Pair
  pair a b = record { first = a; second = b; in_full = true }

  module _ (T : ObjectType) (its : Items) (full : AreFull its) where
    abbrev Within : Items → Type 0
    Within part = (i : ℕ) → Contains part i → Contains its i

    compared-pair : (f g : Field) (one other : Items) → Within one → Within other → (x : Found T one f) (y : Found T other g) → x.number < y.number → response_key f ≡ response_key g
        → IsCompared sets (pair x.number y.number)
    compared-pair f g one other one_within other_within x y less same = full (pair x.number y.number) refl (record {
      alike = record {
        first = within-more one its x.number one_within x.field;
        second = within-more other its y.number other_within y.field;
        key = key_at (response_key f);
        first_key = its-key x.number x.parent f x.own x.at;
        second_key = its-key y.number y.parent g y.own y.at ∙ ap (λ k. Some (key_at k)) (sym same);
      };
      ordered = less;
    })

    agreed : (f g : Field) (one other : Items) → Within one → Within other → (x : Found T one f) (y : Found T other g) → x.number < y.number → response_key f ≡ response_key g
        → Agree schema T (selected_as x.parent f x.own) (selected_as y.parent g y.own)
    agreed f g one other one_within other_within x y less same =
        agree schema T (selected_as x.parent f x.own) (selected_as y.parent g y.own) x.stands y.stands
        (unbroken schema.types document none (pair x.number y.number) (selected_as x.parent f x.own) (selected_as y.parent g y.own)
        (compared-pair f g one other one_within other_within x y less same) x.at y.at)

    -- what the sets of both select, taken together, is compared in full again
    record AreJoined (one other : Items) : Type 0 where
      whole : Items
      full_again : AreFull whole
      of_one : (i : ℕ) → Contains one i → Contains whole i
      of_other : (i : ℕ) → Contains other i → Contains whole i

    joined : (f g : Field) (one other : Items) → Within one → Within other → (x : Found T one f) (y : Found T other g) → x.number < y.number → response_key f ≡ response_key g
        → AreJoined x.own y.own
    joined f g one other one_within other_within x y less same =
        let p = pair x.number y.number in
        let both = agreed f g one other one_within other_within x y less same in
        record {
          whole = items_below sets p;
          full_again =
              full-below p (compared-pair f g one other one_within other_within x y less same)
              (below-is schema.types document none p (selected_as x.parent f x.own) (selected_as y.parent g y.own) x.at y.at ∙ both.below);
          of_one = λ i has.
              Contains-append_left (items all x.number) (items all y.number) i (subst (λ l. Contains l i) (sym (its-items x.number (selected_as x.parent f x.own) x.at)) has);
          of_other = λ i has.
              Contains-append_right (items all x.number) (items all y.number) i (subst (λ l. Contains l i) (sym (its-items y.number (selected_as y.parent g y.own) y.at)) has);
        }

    -- of one response key
    record AreOne (f g : Field) (one other : Items) : Type 0 where
      met : AreMet f g
      below : AreJoined one other

    in-order : (f g : Field) (one other : Items) → Within one → Within other → (x : Found T one f) (y : Found T other g) → x.number < y.number → response_key f ≡ response_key g
        → AreOne f g x.own y.own
    in-order f g one other one_within other_within x y less same =
        let both = agreed f g one other one_within other_within x y less same in
        record {
          met = record {
            name = both.name;
            one = x.parent;
            other = y.parent;
            one_defined = x.defined;
            other_defined = y.defined;
            shape = shape_in_order both.types;
          };
          below = joined f g one other one_within other_within x y less same;
        }

    in-turn : (f g : Field) (one other : Items) → Within one → Within other → (x : Found T one f) (y : Found T other g) → y.number < x.number → response_key f ≡ response_key g
        → AreOne f g x.own y.own
    in-turn f g one other one_within other_within x y less same =
        let both = agreed g f other one other_within one_within y x less (sym same) in
        let under_both = joined g f other one other_within one_within y x less (sym same) in
        record {
          met = record {
            name = sym both.name;
            one = x.parent;
            other = y.parent;
            one_defined = x.defined;
            other_defined = y.defined;
            shape = shape_turned both.types;
          };
          below = record { whole = under_both.whole; full_again = under_both.full_again; of_one = under_both.of_other; of_other = under_both.of_one };
        }

    -- a field with itself
    in-one : (f g : Field) (one other : Items) (x : Found T one f) (y : Found T other g) → x.number ≡ y.number → AreOne f g x.own y.own
    in-one f g one other x y same =
        let e : Some (selected_as x.parent f x.own) ≡ Some (selected_as y.parent g y.own) = sym x.at ∙ ap (slice_get all) same ∙ y.at in
        let it : selected_as x.parent f x.own ≡ selected_as y.parent g y.own = cc in
        let own : x.own ≡ y.own = ap (λ (z : Selected). z.items) it in
        let there : x.number < length keys = subst (λ n. x.number < n) (sym (length-map all (key_number all))) (slice_get_within all x.number (selected_as x.parent f x.own) x.at) in
        record {
          met = record {
            name = ap (λ (z : Selected). z.name.text) it;
            one = x.parent;
            other = y.parent;
            one_defined = x.defined;
            other_defined = y.defined;
            shape = shape_equal (ap (λ (z : Selected). z.definition) it);
          };
          below = record {
            whole = x.own;
            full_again = subst AreFull (its-items x.number (selected_as x.parent f x.own) x.at) (full-set (items all x.number) (of_field x.number there));
            of_one = λ i has. has;
            of_other = λ i has. subst (λ l. Contains l i) (sym own) has;
          };
        }

    are-one : (f g : Field) (one other : Items) → Within one → Within other → (x : Found T one f) (y : Found T other g) → response_key f ≡ response_key g → AreOne f g x.own y.own
    are-one f g one other one_within other_within x y same = by (same_or_not x.number y.number)
      where
        by_order : x.number ≢ y.number → (x.number < y.number) ⊎ (y.number ≤ x.number) → AreOne f g x.own y.own
        by_order apart (inl less) = in-order f g one other one_within other_within x y less same
        by_order apart (inr more) = in-turn f g one other one_within other_within x y (omega (arith, more, apart)) same

        by : (x.number ≡ y.number) ⊎ (x.number ≢ y.number) → AreOne f g x.own y.own
        by (inl number) = in-one f g one other x y number
        by (inr apart) = by_order apart (cases_lt x.number y.number)

  -- ---- sets

  module _ (Alike : Field → Field → Type 0) (alike : (f g : Field) → AreMet f g → Alike f g) (variables : Variables) where
    abbrev on : ObjectType → Setting
    on T = record { fragments = document.fragments; schema = schema; object = T; variables = variables }

    -- a set on a type, with the items that it selects
    record IsSetOn (T : ObjectType) (its : Items) (xs : List Selection) : Type 0 where
      ty : Named
      own : Items
      within : (i : ℕ) → Contains own i → Contains its i
      held : IsHeldOn schema document are_based ty own xs
      based : AreBased schema ty xs
      stands : Stands schema T ty.text

    abbrev Merges : ℕ → Type 0
    Merges n =
        (T : ObjectType) (its : Items) → AreFull its → (one other : List Selection) → IsSetOn T its one → IsSetOn T its other
        → MergeTo Alike schema document.fragments variables n T one other

    abbrev Likes : ℕ → Field → Field → Type 0
    Likes n f g =
        response_key f ≡ response_key g
        → Alike f g × ((V : ObjectType) → Stands schema V (named_type f.definition.ty).text → Stands schema V (named_type g.definition.ty).text
        → MergeTo Alike schema document.fragments variables n V f.selection_set.selections g.selection_set.selections)

    below-on : (V T : ObjectType) (own whole : Items) (f : Field) (x : Found T own f) → ((i : ℕ) → Contains x.own i → Contains whole i)
        → Stands schema V (named_type f.definition.ty).text → IsSetOn V whole f.selection_set.selections
    below-on V T own whole f x within stands = record {
      ty = f.selection_set.ty;
      own = x.own;
      within = within;
      held = x.inside;
      based = x.based;
      stands = subst (λ (name : Named). Stands schema V name.text) (sym x.type) stands;
    }

    likes : (n : ℕ) → Merges n → (T : ObjectType) (its : Items) → AreFull its → (own more : Items) → ((i : ℕ) → Contains own i → Contains its i) → ((i : ℕ) → Contains more i → Contains its i)
        → (f : Field) → Found T own f → (g : Field) → Found T more g → Likes n f g
    likes n deeper T its full own more own_within more_within f x g y same =
        let one = are-one T its full f g own more own_within more_within x y same in (
          alike f g one.met,
          λ V first second.
              deeper V one.below.whole one.below.full_again f.selection_set.selections g.selection_set.selections
              (below-on V T own one.below.whole f x one.below.of_one first)
              (below-on V T more one.below.whole g y one.below.of_other second),
        )

    -- with so many fragments inside one another
    all-like : (n : ℕ) → Merges n → (k l : ℕ) (T : ObjectType) (its : Items) → AreFull its → (one other : List Selection) → IsSetOn T its one → IsSetOn T its other
        → AllByRecursion (λ f. AllByRecursion (Likes n f) (flat_within (on T) l other)) (flat_within (on T) k one)
    all-like n deeper k l T its full one other x y =
        all-map (Found T x.own) (λ f. AllByRecursion (Likes n f) (flat_within (on T) l other))
        (λ f found.
        all-map (Found T y.own) (Likes n f) (λ g found_too. likes n deeper T its full x.own y.own x.within y.within f found g found_too) (flat_within (on T) l other)
        (all-found schema document are_based T variables l y.ty y.own other y.held y.based y.stands))
        (flat_within (on T) k one)
        (all-found schema document are_based T variables k x.ty x.own one x.held x.based x.stands)

    next-merges : (n : ℕ) → Merges n → Merges (suc n)
    unfolding flat
    next-merges n deeper T its full one other x y = all-like n deeper (enough (on T) one) (enough (on T) other) T its full one other x y

    merges : (n : ℕ) → Merges n
    merges zero = λ T its full one other x y. tt
    merges (suc n) = next-merges n (merges n)

    -- ---- operations

    operation-on : (operation : Operation) (T : ObjectType) → Stands schema T operation.selection_set.ty.text
        → AreBased schema operation.selection_set.ty operation.selection_set.selections → (its : Items)
        → IsHeldOn schema document are_based operation.selection_set.ty its operation.selection_set.selections → IsSetOn T its operation.selection_set.selections
    operation-on operation T stands based its held = record {
      ty = operation.selection_set.ty;
      own = its;
      within = λ i has. has;
      held = held;
      based = based;
      stands = stands;
    }

    based-operation : (operations : List Operation) → AllByRecursion (λ (it : Operation). AreBased schema it.selection_set.ty it.selection_set.selections) operations
        → (it : Operation) → Contains operations it → AreBased schema it.selection_set.ty it.selection_set.selections
    based-operation [] each it among = absurd (none_contained it among)
    based-operation (first ∷ operations) each it among = by (λ later. based-operation operations each.1 it later) (Contains-cons_cases first operations it among)
      where
        by : (Contains operations it → AreBased schema it.selection_set.ty it.selection_set.selections) → (first ≡ it) ⊎ Contains operations it
            → AreBased schema it.selection_set.ty it.selection_set.selections
        by later (inl here) = subst (λ (o : Operation). AreBased schema o.selection_set.ty o.selection_set.selections) here each.0
        by later (inr there) = later there

    module _ (operation : Operation) (among : Contains document.operations operation) (T : ObjectType) (stands : Stands schema T operation.selection_set.ty.text) where
      abbrev selections : List Selection
      selections = operation.selection_set.selections

      abbrev its : Items
      its = (operation-held document operation among).0

      full-root : AreFull its
      full-root = full-set its (of_operation (operation-held document operation among).1)

      root-on : IsSetOn T its selections
      root-on =
          operation-on operation T stands (based-operation document.operations are_based.operations operation among) its (operation-held document operation among).2

      pub operation-merges : Merge Alike schema document.fragments variables T selections selections
      operation-merges n = merges n T its full-root selections selections root-on root-on

      pub operation-like : (k : ℕ) → AllByRecursion (λ f. AllByRecursion (λ g. response_key f ≡ response_key g → Alike f g) (flat_within (on T) k selections)) (flat_within (on T) k selections)
      operation-like k =
          all-map (λ f. AllByRecursion (Likes 0 f) (flat_within (on T) k selections)) (λ f. AllByRecursion (λ g. response_key f ≡ response_key g → Alike f g) (flat_within (on T) k selections))
          (λ f each. all-map (Likes 0 f) (λ g. response_key f ≡ response_key g → Alike f g) (λ g like same. (like same).0) (flat_within (on T) k selections) each)
          (flat_within (on T) k selections)
          (all-like 0 (merges 0) k k T its full-root selections selections root-on root-on)

  -- ---- names

  module _ (operation : Operation) (among : Contains document.operations operation) (T : ObjectType) (stands : Stands schema T operation.selection_set.ty.text) (variables : Variables) where
    pub names-merge : Merge HaveOneName schema document.fragments variables T operation.selection_set.selections operation.selection_set.selections
    names-merge = operation-merges HaveOneName (λ f g met. met.name) variables operation among T stands

    pub one-name : (k : ℕ) → AreOfOneName (flat_within (on HaveOneName (λ f g met. met.name) variables T) k operation.selection_set.selections)
    one-name = operation-like HaveOneName (λ f g met. met.name) variables operation among T stands
