-- The ways that the execution of the self-test's operation opens: to the root, and to the items.
use Rattle.std.proofs.Common.{rules, ◌≡◌, ◌≤◌, ◌+◌, ◌*◌, ◌⊎◌, inl, inr, ℕ, Bool, true, false, if◌then◌else◌, List, [], ◌∷◌, length, Option, Some, None, refl, sym, ap, ◌∙◌, subst, arith}
use Rattle.std.specs.List.{AllByRecursion, filter}
use Rattle.std.specs.Option.{unwrap_or, option_and_then}
use Rattle.std.specs.Prelude.{codes}
use Rattle.std.specs.Str.{bytes_eq}
use Rattle.std.proofs.lemmas.Slice.Eq.{bytes_eq-Decides}
use Rattle.gql_ast_base.specs.declared.type_ref.TypeRef.{TypeRef, roll-TypeRef, out-TypeRef, the_lemmas as type_lemmas}
use Rattle.gql_ast_base.specs.declared.type_ref.TypeRef.TheOpen.{TypeRef-F}
use Rattle.gql_ast.specs.declared.field_definition.FieldDefinition.{FieldDefinition}
use Rattle.gql_ast_base.specs.TypeParts.{named_type}
use Rattle.gql_document_types.specs.declared.document.ExecutableDocument.{ExecutableDocument}
use Rattle.gql_document_types.specs.declared.fragment.Fragment.{Fragment}
use Rattle.gql_document_types.specs.declared.operation.Operation.{Operation}
use Rattle.gql_document_types.specs.declared.selection.Field.{Field}
use Rattle.gql_document_types.specs.declared.selection.Selection.{Selection, the_lemmas as selection_lemmas}
use Rattle.gql_document_types.specs.declared.selection.Selection.TheVariants as selection
use Rattle.gql_schema_types.specs.Schemas.{object_of}
use Rattle.gql_schema_types.specs.Types.{is_composite, type_called, as_object}
use Rattle.gql_schema_types.specs.declared.schema.Schema.{Schema}
use Rattle.gql_schema_types.specs.declared.types.ExtendedType.{ExtendedType}
use Rattle.gql_schema_types.specs.declared.types.ExtendedType.TheVariants as type
use Rattle.gql_schema_types.specs.declared.types.ObjectType.{ObjectType}
use Rattle.gql_source.specs.File.{Files}
use Rattle.gql_resolvers.specs.Fit.{object_at, object_misfit, wrong}
use Rattle.gql_resolvers.specs.Lists.{is_list}
use Rattle.gql_resolvers.specs.Messages as message
use Rattle.gql_collect.specs.Flat.{flat, flat_sets}
use Rattle.gql_collect.specs.Groups.{groups_of, is_defined}
use Rattle.gql_collect.specs.Sizes.{own}
use Rattle.gql_document_types.proofs.Variants.{out-field}
use Rattle.gql_resolvers.specs.Resolved.{Meaning, Meanings, Outcome, answered, refused, gives_leaf, gives_object, gives_list, gives_skip, fails_with, no_answer, answer_then}
use Rattle.gql_resolvers.specs.Types.{item_level, item_type}
use Rattle.gql_resolvers.specs.World.{World, key_of}
use Rattle.gql_collect.proofs.Views.{view-field, view-node}
use Rattle.gql_collect.specs.Lists.{AreApart}
use Rattle.gql_collect.specs.Room.{all_selections}
use Rattle.gql_collect.specs.Ways.{Way}
use Rattle.gql_exec.specs.Looks.{AreLooks}
use Rattle.gql_exec.specs.Opened.{AnyGives, AnyGroup, Brings, Gives, Opens}
use Rattle.gql_exec.specs.Group.{Group, groups_from}
use Rattle.gql_exec.specs.Request.{Members, Request}
use Rattle.gql_exec.specs.RequestWorld.{plain_world, setting_on}
use Rattle.gql_engine.specs.Meaning.{AreTypes, IsLeaf, IsSelfTest, Places, inner, outer, selected}

-- ---- the items of a list are of the same name

level_named : (x : TypeRef-F TypeRef) → named_type (item_level (roll-TypeRef x) x) ≡ named_type (roll-TypeRef x)
level_named (TypeRef-F.Named name) = refl
level_named (TypeRef-F.NonNullNamed name) = refl
level_named (TypeRef-F.List item) = let rolled : named_type (roll-TypeRef (TypeRef-F.List item)) ≡ named_type item = search (rules, type_lemmas) in sym rolled
level_named (TypeRef-F.NonNullList item) = let rolled : named_type (roll-TypeRef (TypeRef-F.NonNullList item)) ≡ named_type item = search (rules, type_lemmas) in sym rolled

item_named : (ty : TypeRef) → named_type (item_type ty) ≡ named_type ty
item_named ty =
    let rolled : roll-TypeRef (out-TypeRef ty) ≡ ty = search (rules, type_lemmas) in
    subst (λ t. named_type (item_level t (out-TypeRef ty)) ≡ named_type t) rolled (level_named (out-TypeRef ty))

-- ---- what an answer brings

module _ {X T G S : Type 0} (w : World X T G S) (P : X → Type 0) (name : List ℕ) where
  -- an object that fits a type of the name, and of which this holds
  record Brought : Type 0 where
    y : X
    ty : TypeRef
    named : (named_type ty).text ≡ name
    fits : w.misfit ty (gives_object y) ≡ None
    holds : P y

  mutual
    given : (m : Meaning X) (ty : TypeRef) → (named_type ty).text ≡ name → Gives w P ty m → Brought
    given (gives_object x) ty named h = record { y = x; ty = ty; named = named; fits = h.0; holds = h.1 }
    given (gives_list ms) ty named h = given_any ms (item_type ty) (ap (λ n. n.text) (item_named ty) ∙ named) h.1
    given (gives_leaf v) ty named h = absurd h
    given gives_skip ty named h = absurd h
    given (fails_with text) ty named h = absurd h

    given_any : (ms : Meanings X) (ty : TypeRef) → (named_type ty).text ≡ name → AnyGives w P ty ms → Brought
    given_any no_answer ty named h = absurd h
    given_any (answer_then m ms) ty named (inl h) = given m ty named h
    given_any (answer_then m ms) ty named (inr h) = given_any ms ty named h

  brought : (o : Outcome X) (ty : TypeRef) → (named_type ty).text ≡ name → Brings w P ty o → Brought
  brought (answered m) ty named h = given m ty named h
  brought (refused fault) ty named h = absurd h

-- ---- which objects fit

module _ (S : Schema) (found : List ℕ) where
  at_name : (ty : TypeRef) → object_misfit S ty found ≡ None → object_at S (type_called (named_type ty).text S.types) (named_type ty).text found ≡ None
  at_name ty = by_test (is_list ty)
    where
      by_test : (b : Bool) → (if b then Some (wrong (message.other_at_list ty)) else object_at S (type_called (named_type ty).text S.types) (named_type ty).text found) ≡ None
          → object_at S (type_called (named_type ty).text S.types) (named_type ty).text found ≡ None
      by_test true none = absurd cc
      by_test false none = none

  -- an object fits no type without fields
  no_leaf : (o : Option ExtendedType) (name : List ℕ) → ((ty : ExtendedType) → o ≡ Some ty → is_composite ty ≡ false) → object_at S o name found ≡ None → ⊥
  no_leaf None name leaf none = cc
  no_leaf (Some (type.Scalar it)) name leaf none = cc
  no_leaf (Some (type.Enum it)) name leaf none = cc
  no_leaf (Some (type.InputObject it)) name leaf none = cc
  no_leaf (Some (type.Object it)) name leaf none = let c : true ≡ false = leaf (type.Object it) refl in cc
  no_leaf (Some (type.Interface it)) name leaf none = let c : true ≡ false = leaf (type.Interface it) refl in cc
  no_leaf (Some (type.Union it)) name leaf none = let c : true ≡ false = leaf (type.Union it) refl in cc

  -- and only objects of an object type fit this
  same_name : (it : ObjectType) (name : List ℕ) → object_at S (Some (type.Object it)) name found ≡ None → found ≡ name
  same_name it name = by_test (bytes_eq found name) refl
    where
      by_test : (b : Bool) → bytes_eq found name ≡ b → (if b then None else Some (wrong (message.other_object found name))) ≡ None → found ≡ name
      by_test true is none = (bytes_eq-Decides found name).0 is
      by_test false is none = absurd cc

-- ---- the operation's groups

own-field : (f : Field) → own (selection.Field f) ≡ 1
own-field f = search (rules, selection_lemmas)

ruleset of_fields = (out-field, own-field)

same_some : {A : Type 0} (x y : A) → Some x ≡ Some y → x ≡ y
same_some x y h = cc

-- of two things no more than two are apart
at_most_two : {A : Type 0} (a b : A) (xs : List A) → AreApart xs → AllByRecursion (λ x. (x ≡ a) ⊎ (x ≡ b)) xs → length xs ≤ 2
at_most_two a b [] apart h = omega arith
at_most_two a b (x ∷ []) apart h = omega arith
at_most_two a b (x ∷ y ∷ []) apart h = omega arith
at_most_two a b (x ∷ y ∷ z ∷ rest) apart h = absurd (twice h.0 h.1.0 h.1.1.0)
  where
    twice : (x ≡ a) ⊎ (x ≡ b) → (y ≡ a) ⊎ (y ≡ b) → (z ≡ a) ⊎ (z ≡ b) → ⊥
    twice (inl p) (inl q) s = apart.0 (inl (p ∙ sym q))
    twice (inr p) (inr q) s = apart.0 (inl (p ∙ sym q))
    twice (inl p) (inr q) (inl s) = apart.0 (inr (inl (p ∙ sym s)))
    twice (inr p) (inl q) (inr s) = apart.0 (inr (inl (p ∙ sym s)))
    twice (inl p) (inr q) (inr s) = apart.1.0 (inl (q ∙ sym s))
    twice (inr p) (inl q) (inl s) = apart.1.0 (inl (q ∙ sym s))

module _ {X : Type 0} (S : Schema) (t : AreTypes S) (at : Places) (sources : Files) (variables : Members) (types : X → List ℕ)
    (answers : ObjectType → X → List ℕ → Members → Meaning X) where
  abbrev r : Request X
  r = record { schema = S; sources = sources; fragments = []; variables = variables; type_of = types; answers = answers }

  abbrev w : World X ObjectType Group (List (List Selection))
  w = plain_world r

  abbrev items : Field
  items = selected (codes "items") t.items (inner t at) at.items_name at.items

  abbrev id : Field
  id = selected (codes "id") t.id [] at.id_name at.id

  abbrev tags : Field
  tags = selected (codes "tags") t.tags [] at.tags_name at.tags

  abbrev of_items : Group
  of_items = record { first = items; pieces = inner t at ∷ [] }

  abbrev of_id : Group
  of_id = record { first = id; pieces = [] ∷ [] }

  abbrev of_tags : Group
  of_tags = record { first = tags; pieces = [] ∷ [] }

  outer_fields : flat_sets (setting_on r t.query) (outer t at ∷ []) ≡ items ∷ []
  unfolding flat
  outer_fields = simp of_fields

  inner_fields : flat_sets (setting_on r t.item) (inner t at ∷ []) ≡ id ∷ tags ∷ []
  unfolding flat
  inner_fields = simp of_fields

  outer_groups : w.groups t.query (outer t at ∷ []) ≡ of_items ∷ []
  outer_groups =
      ap (λ fs. groups_from (filter (is_defined S t.query) (groups_of fs))) outer_fields
      ∙ rw t.items_there refl

  inner_groups : w.groups t.item (inner t at ∷ []) ≡ of_id ∷ of_tags ∷ []
  inner_groups =
      ap (λ fs. groups_from (filter (is_defined S t.item) (groups_of fs))) inner_fields
      ∙ rw (t.id_there, t.tags_there) refl

  -- ---- the ways

  -- no way leads on through a field without fields
  no_way : (P : X → Type 0) (x : X) (g : Group) (definition : FieldDefinition) → w.type_at t.item g ≡ definition.ty → IsLeaf S definition
      → Brings w P (w.type_at t.item g) (w.asks t.item x g) → ⊥
  no_way P x g definition is leaf h =
      let b = brought w P (named_type definition.ty).text (w.asks t.item x g) (w.type_at t.item g) (ap (λ ty. (named_type ty).text) is) h in
      let fits = at_name S (types b.y) b.ty b.fits in
      no_leaf S (types b.y) (type_called (named_type definition.ty).text S.types) (named_type definition.ty).text leaf
      (subst (λ n. object_at S (type_called n S.types) n (types b.y) ≡ None) b.named fits)

  -- what a group has to bring for a way on
  abbrev Onward : List ℕ × ObjectType → Way → Group → X → Type 0
  Onward step way g y = (w.type_of y ≡ Some step.1) × Opens w way step.1 y (w.below g)

  abbrev Leads : List ℕ × ObjectType → Way → ObjectType → X → Group → Type 0
  Leads step way U x g = (key_of w g ≡ step.0) × Brings w (Onward step way g) (w.type_at U g) (w.asks U x g)

  from_item : (way : Way) (x : X) → Opens w way t.item x (inner t at ∷ []) → way ≡ []
  from_item [] x h = refl
  from_item (step ∷ way) x h = absurd (none (subst (AnyGroup (Leads step way t.item x)) inner_groups h))
    where
      none : AnyGroup (Leads step way t.item x) (of_id ∷ of_tags ∷ []) → ⊥
      none (inl k) = no_way (Onward step way of_id) x of_id t.id (ap (λ o. (unwrap_or o t.id).ty) t.id_there) t.id_leaf k.1
      none (inr (inl k)) = no_way (Onward step way of_tags) x of_tags t.tags (ap (λ o. (unwrap_or o t.tags).ty) t.tags_there) t.tags_leaf k.1
      none (inr (inr k)) = k

  -- the way to the items
  abbrev to_items : Way
  to_items = (codes "items", t.item) ∷ []

  from_query : (way : Way) (x : X) → Opens w way t.query x (outer t at ∷ []) → (way ≡ []) ⊎ (way ≡ to_items)
  from_query [] x h = inl refl
  from_query (step ∷ way) x h = inr (one (subst (AnyGroup (Leads step way t.query x)) outer_groups h))
    where
      one : AnyGroup (Leads step way t.query x) (of_items ∷ []) → step ∷ way ≡ to_items
      one (inl k) =
          let typed : (named_type (w.type_at t.query of_items)).text ≡ codes "Item" = ap (λ o. (named_type (unwrap_or o t.items).ty).text) t.items_there ∙ t.items_type in
          let b = brought w (Onward step way of_items) (codes "Item") (w.asks t.query x of_items) (w.type_at t.query of_items) typed k.1 in
          let fits = subst (λ n. object_at S (type_called n S.types) n (types b.y) ≡ None) b.named (at_name S (types b.y) b.ty b.fits) in
          let name = same_name S (types b.y) t.item (codes "Item") (subst (λ o. object_at S o (codes "Item") (types b.y) ≡ None) t.is_item fits) in
          let same = same_some t.item step.1 (sym (ap (option_and_then as_object) t.is_item) ∙ ap (object_of S) (sym name) ∙ b.holds.0) in
          let rest = from_item way b.y (subst (λ U. Opens w way U b.y (inner t at ∷ [])) (sym same) b.holds.1) in
          let first : (codes "items", t.item) ≡ step = λ i. (k.0 i, same i) in
          ap (λ v. step ∷ v) rest ∙ ap (λ s. s ∷ []) (sym first)
      one (inr k) = absurd k

  ways_known : (x : X) (ways : List Way) → AllByRecursion (λ way. Opens w way t.query x (outer t at ∷ [])) ways
      → AllByRecursion (λ way. (way ≡ []) ⊎ (way ≡ to_items)) ways
  ways_known x [] h = tt
  ways_known x (way ∷ ways) h = (from_query way x h.0, ways_known x ways h.1)

  -- ---- the looks

  three : all_selections [] (outer t at) ≡ 3
  three = simp (view-field, view-node)

  six : (x : X) (before after : ℕ) → AreLooks r t.query x (outer t at) before after → after ≤ before + 6
  six x before after h =
      let two = at_most_two [] to_items h.ways h.apart (ways_known x h.ways h.opened) in
      let most = subst (λ n. after ≤ before + length h.ways * n) three h.most in
      omega (arith, two, most)

-- ---- of a document and its operation

module _ (S : Schema) (D : ExecutableDocument) (o : Operation) (m : IsSelfTest S D o) where
  pub few_selections : all_selections D.fragments o.selection_set.selections ≡ 3
  few_selections =
      ap (λ fragments. all_selections fragments o.selection_set.selections) m.no_fragments
      ∙ ap (all_selections []) m.selections
      ∙ simp (view-field, view-node)

  pub few_looks : {X : Type 0} (variables : Members) (types : X → List ℕ) (answers : ObjectType → X → List ℕ → Members → Meaning X) (T : ObjectType) (x : X)
      (before after : ℕ) → object_of S o.selection_set.ty.text ≡ Some T
      → AreLooks (record { schema = S; sources = D.sources; fragments = D.fragments; variables = variables; type_of = types; answers = answers }) T x
      o.selection_set.selections before after → after ≤ before + 6
  few_looks variables types answers T x before after is h =
      let asked = λ (fragments : List Fragment) (selections : List Selection) (U : ObjectType).
      AreLooks (record { schema = S; sources = D.sources; fragments = fragments; variables = variables; type_of = types; answers = answers }) U x selections before after in
      let root = same_some T m.types.query (sym is ∙ m.on_query) in
      six S m.types m.at D.sources variables types answers x before after
      (subst (λ fragments. asked fragments (outer m.types m.at) m.types.query) m.no_fragments
      (subst (λ selections. asked D.fragments selections m.types.query) m.selections (subst (asked D.fragments o.selection_set.selections) root h)))
