-- Where nothing is asked, nothing that an execution reaches by what was told is left out.
use Rattle.std.proofs.Common.{◌≡◌, ◌⊎◌, ℕ, zero, suc, ◌+◌, Bool, true, false, if◌then◌else◌, List, [], ◌∷◌, Option, Some, None, Result, Ok, Err, refl, sym, ap, ◌∙◌, subst, codes, inl, inr}
use Rattle.std.specs.List.{AllByRecursion, flat_map}
use Rattle.std.specs.Map.{lookup}
use Rattle.std.specs.Str.{bytes_eq}
use Rattle.jb_tree.specs.declared.value.Value.{Value}
use Rattle.jb_tree.specs.declared.value.Value.TheVariants as json
use Rattle.gql_ast_base.specs.declared.type_ref.TypeRef.{TypeRef}
use Rattle.gql_ast.specs.declared.field_definition.FieldDefinition.{FieldDefinition}
use Rattle.gql_coerce.specs.declared.told.ArgumentFault.{ArgumentFault}
use Rattle.gql_document_types.specs.declared.document.ExecutableDocument.{ExecutableDocument}
use Rattle.gql_document_types.specs.declared.selection.Field.{Field}
use Rattle.gql_document_types.specs.declared.selection.Selection.{Selection}
use Rattle.gql_exec.specs.Mapped.{mapped, all_mapped}
use Rattle.gql_exec.specs.Asks.{answer, asked, asks, definition_on, fault_of}
use Rattle.gql_exec.specs.Executing.{Resolving, answers_by, is_hidden, request_by}
use Rattle.gql_exec.specs.Group.{Group}
use Rattle.gql_exec.specs.Request.{Members, Request}
use Rattle.gql_exec.specs.RequestWorld.{plain_world}
use Rattle.gql_resolvers.specs.Reached.{IsAmong, Reaches, at_inside, at_root, fields_if, fields_of, inside, items_of}
use Rattle.gql_resolvers.specs.Resolved.{Meaning, Meanings, gives_leaf, gives_object, gives_list, gives_skip, fails_with, no_answer, answer_then}
use Rattle.gql_resolvers.specs.Resolved.{Misfit, Outcome, answered, refused}
use Rattle.gql_resolvers.specs.Skips.{ReachesNoSkip, SkipsNothing, SkipNothing}
use Rattle.gql_resolvers.specs.Spot.{Spot, field_spot, item_spot, trail}
use Rattle.gql_resolvers.specs.Trail.{Trail}
use Rattle.gql_resolvers.specs.Types.{item_type}
use Rattle.gql_resolvers.specs.World.{World}
use Rattle.gql_schema_types.specs.Schemas.{field_of, object_of}
use Rattle.gql_schema_types.specs.declared.schema.Schema.{Schema}
use Rattle.gql_schema_types.specs.declared.types.ObjectType.{ObjectType}
use Rattle.gql_rounds.specs.Asked.{IsOneOf}
use Rattle.gql_rounds.specs.Key.{key}
use Rattle.gql_rounds.specs.Known.{Known}
use Rattle.gql_rounds.specs.Levels.{if_fits, given, all_given, below_group, below_stand, brought, level, typed}
use Rattle.gql_rounds.specs.Table.{Table}
use Rattle.gql_rounds.specs.ToldMeaning.{told_by, told_or_skip}
use Rattle.gql_rounds.specs.Wanted.{KnownStand, ask_for, is_left_out, is_skip, root_stand, wanted, wanted_at, wanted_by_group}
use Rattle.gql_rounds.specs.bridge.Wanted.{KnownWorld}
use Rattle.gql_rounds.proofs.LeftOut.{IsFixed, IsTheirs, arguments_of, by, theirs-asked, which}
use Rattle.gql_rounds.proofs.Noted.{all-back, all-front, all-own, all-weaker}
use Rattle.gql_rounds.proofs.ToldWhole.{value-whole}
use Rattle.gql_rounds.proofs.TwoTables.{AreOf, flat-none, one-flat}

all-at : {A : Type 0} (P : A → Type 0) (xs : List A) (x : A) → AllByRecursion P xs → IsOneOf x xs → P x
all-at P [] x all one = absurd one
all-at P (y ∷ ys) x all (inl same) = subst P (sym same) all.0
all-at P (y ∷ ys) x all (inr later) = all-at P ys x all.1 later

-- ---- answers whose objects are all of a kind, and which leave nothing out

module _ {Y : Type 0} (Kind : Y → Type 0) where
  abbrev mutual
    pub AllOf : Meaning Y → Type 0
    AllOf (gives_leaf v) = Unit {0}
    AllOf (gives_object y) = Kind y
    AllOf (gives_list ms) = EachOf ms
    AllOf gives_skip = ⊥
    AllOf (fails_with text) = Unit {0}

    pub EachOf : Meanings Y → Type 0
    EachOf no_answer = Unit {0}
    EachOf (answer_then m ms) = AllOf m × EachOf ms

  mutual
    pub mapped-of : {X : Type 0} (stands : X → Y) → ((x : X) → Kind (stands x)) → (m : Meaning X) → SkipsNothing m → AllOf (mapped stands m)
    mapped-of stands kind (gives_leaf v) whole = tt
    mapped-of stands kind (gives_object x) whole = kind x
    mapped-of stands kind (gives_list ms) whole = all-mapped-of stands kind ms whole
    mapped-of stands kind gives_skip whole = absurd whole
    mapped-of stands kind (fails_with text) whole = tt

    all-mapped-of : {X : Type 0} (stands : X → Y) → ((x : X) → Kind (stands x)) → (ms : Meanings X) → SkipNothing ms → EachOf (all_mapped stands ms)
    all-mapped-of stands kind no_answer whole = tt
    all-mapped-of stands kind (answer_then m ms) whole = (mapped-of stands kind m whole.0, all-mapped-of stands kind ms whole.1)

-- ---- an execution whose objects stand for those of the caller, or are of the library

module _ {Y : Type 0} (introspection : Bool) (schema : Schema) (document : ExecutableDocument) (variables : Members) (table : Table)
    (types : Y → List ℕ) (resolves : Resolving Y) (stands : Known → Y) (Library : Y → Type 0)
    (types-same : (x : Known) → types (stands x) ≡ x.type_name)
    (own : (U : ObjectType) (x : Known) (f : List ℕ) (arguments : Members)
    → (answers_by introspection resolves schema U (stands x) f arguments ≡ mapped stands (answers_by false (told_by table) schema U x f arguments))
    ⊎ AllOf Library (answers_by introspection resolves schema U (stands x) f arguments))
    (library : (U : ObjectType) (y : Y) (f : List ℕ) (arguments : Members) → Library y → AllOf Library (answers_by introspection resolves schema U y f arguments))
    (root : ObjectType) (selections : List Selection) where
  abbrev theirs : Request Known
  theirs = by schema document variables table

  abbrev ours : Request Y
  ours = request_by introspection schema document variables types resolves

  abbrev u : KnownWorld
  u = plain_world theirs

  abbrev v : World Y ObjectType Group (List (List Selection))
  v = plain_world ours

  abbrev here : KnownStand
  here = root_stand root selections

  abbrev groups_on : KnownStand → List Group
  groups_on s = u.groups s.type s.selection

  module _ (quiet : (n : ℕ) → wanted theirs (level u here n) ≡ []) where
    -- what a place gives that stands for an answer of the caller's: its objects are at some level
    record FromKnown (spot : Spot Group) (m : Meaning Y) : Type 0 where
      known : Meaning Known
      same : m ≡ mapped stands known
      whole : SkipsNothing known
      depth : ℕ
      reached : AreOf (given u spot.group.pieces spot.type known) (level u here depth)

    abbrev Inv : Spot Group → Outcome Y → Type 0
    Inv spot (refused fault) = Unit {0}
    Inv spot (answered m) = AllOf Library m ⊎ FromKnown spot m

    -- ---- fields of the caller's objects

    module _ (n : ℕ) (s : KnownStand) (there : IsOneOf s (level u here n)) (g : Group) (among : IsOneOf g (groups_on s)) where
      silent : wanted_by_group theirs s.type s.object g ≡ []
      silent =
          all-at (λ h. wanted_by_group theirs s.type s.object h ≡ []) (groups_on s) g
          (flat-none (wanted_by_group theirs s.type s.object) (groups_on s)
          (all-at (λ t. wanted_at theirs t ≡ []) (level u here n) s (flat-none (wanted_at theirs) (level u here n) (quiet n)) there))
          among

      kept : is_left_out (u.asks s.type s.object g) ≡ false
      kept = by_left (is_left_out (u.asks s.type s.object g)) refl
        where
          by_which : is_left_out (u.asks s.type s.object g) ≡ true
              → IsFixed schema document variables s.type s.object g.first ⊎ ((arguments : Members) × IsTheirs schema document variables s.type g.first arguments)
              → true ≡ false
          by_which left (inl fixed) = sym left ∙ ap is_left_out (fixed.is table) ∙ fixed.stays
          by_which left (inr its) =
              let none : ask_for theirs s.type s.object g.first ≡ [] =
              ap (λ (b : Bool). if b then ask_for theirs s.type s.object g.first else []) (sym left) ∙ silent in
              let e = sym (theirs-asked schema document variables s.type s.object g.first its.0 its.1 table) ∙ none in absurd cc

          by_left : (b : Bool) → is_left_out (u.asks s.type s.object g) ≡ b → b ≡ false
          by_left true left = by_which left (which schema document variables s.type s.object g.first)
          by_left false left = refl

      -- what the group brings stands a level below
      below : (m : Meaning Known) → u.asks s.type s.object g ≡ answered m → AreOf (given u g.pieces (u.type_at s.type g) m) (level u here (suc n))
      below m is =
          all-weaker (λ t. IsOneOf t (given u g.pieces (u.type_at s.type g) m)) (λ t. IsOneOf t (level u here (suc n)))
          (λ t one.
          one-flat (below_stand u) s (level u here n) t there
          (one-flat (below_group u s.type s.object) g (groups_on s) t among
          (subst (λ o. IsOneOf t (brought u g.pieces (u.type_at s.type g) o)) (sym is) one)))
          (given u g.pieces (u.type_at s.type g) m) (all-own (given u g.pieces (u.type_at s.type g) m))

      name : List ℕ
      name = g.first.name.text

      -- the caller's own answer leaves nothing out
      told-whole : (arguments : Members) → is_skip (answers_by false (told_by table) schema s.type s.object g.first.name.text arguments) ≡ false
          → SkipsNothing (answers_by false (told_by table) schema s.type s.object g.first.name.text arguments)
      told-whole arguments stays = by_hidden (is_hidden false schema s.type g.first.name.text) stays
        where
          by_found : (found : Option Value) → is_skip (told_or_skip schema (field_of schema s.type.name.text g.first.name.text) found) ≡ false
              → SkipsNothing (told_or_skip schema (field_of schema s.type.name.text g.first.name.text) found)
          by_found (Some value) kept_so = value-whole schema (field_of schema s.type.name.text g.first.name.text) value
          by_found None kept_so = absurd (let e : true ≡ false = kept_so in cc)

          by_hidden : (b : Bool)
              → is_skip (if b then fails_with (codes "schema introspection is disabled") else told_by table schema s.type s.object g.first.name.text arguments) ≡ false
              → SkipsNothing (if b then fails_with (codes "schema introspection is disabled") else told_by table schema s.type s.object g.first.name.text arguments)
          by_hidden true kept_so = tt
          by_hidden false kept_so = by_found (lookup (bytes_eq (key s.object.number g.first.name.text arguments)) table) kept_so

      field-is : (outer : Trail) → Inv (field_spot v s.type outer g) (v.asks s.type (stands s.object) g)
      field-is outer = by_arguments (arguments_of schema document variables s.type g.first) refl
        where
          spot : Spot Group
          spot = field_spot v s.type outer g

          by_name : (arguments : Members) → u.asks s.type s.object g ≡ answered (answer theirs s.type s.object g.first.name.text arguments) → (b : Bool)
              → bytes_eq g.first.name.text (codes "__typename") ≡ b
              → Inv spot (answered (if b then gives_leaf (json.String s.type.name.text) else ours.answers s.type (stands s.object) g.first.name.text arguments))
          by_name arguments is true named = inl tt
          by_name arguments is false named = by_own (own s.type s.object g.first.name.text arguments)
            where
              its : u.asks s.type s.object g ≡ answered (answers_by false (told_by table) schema s.type s.object g.first.name.text arguments)
              its =
                  is
                  ∙ ap (λ (b : Bool). answered (if b then gives_leaf (json.String s.type.name.text) else theirs.answers s.type s.object g.first.name.text arguments)) named

              by_own : (ours.answers s.type (stands s.object) g.first.name.text arguments ≡ mapped stands (answers_by false (told_by table) schema s.type s.object g.first.name.text arguments))
                  ⊎ AllOf Library (ours.answers s.type (stands s.object) g.first.name.text arguments)
                  → AllOf Library (ours.answers s.type (stands s.object) g.first.name.text arguments) ⊎ FromKnown spot (ours.answers s.type (stands s.object) g.first.name.text arguments)
              by_own (inr all) = inl all
              by_own (inl same) = inr (record {
                known = answers_by false (told_by table) schema s.type s.object g.first.name.text arguments;
                same = same;
                whole = told-whole arguments (ap is_left_out (sym its) ∙ kept);
                depth = suc n;
                reached = below (answers_by false (told_by table) schema s.type s.object g.first.name.text arguments) its;
              })

          by_arguments : (made : Result Members ArgumentFault) → arguments_of schema document variables s.type g.first ≡ made
              → Inv spot (v.asks s.type (stands s.object) g)
          by_arguments (Ok arguments) coerced =
              subst (Inv spot) (sym (ap (asked ours s.type (stands s.object) g.first.name.text) coerced))
              (by_name arguments (ap (asked theirs s.type s.object g.first.name.text) coerced) (bytes_eq g.first.name.text (codes "__typename")) refl)
          by_arguments (Err fault) coerced = subst (Inv spot) (sym (ap (asked ours s.type (stands s.object) g.first.name.text) coerced)) tt

    fields-are : (n : ℕ) (s : KnownStand) → IsOneOf s (level u here n) → (outer : Trail) (gs : List Group) → AreOf gs (groups_on s)
        → (spot : Spot Group) (outcome : Outcome Y) → IsAmong spot outcome (fields_of v s.type (stands s.object) outer gs) → Inv spot outcome
    fields-are n s there outer [] among spot outcome h = absurd h
    fields-are n s there outer (g ∷ gs) among spot outcome (inl h) =
        subst (Inv spot) (sym h.1)
        (subst (λ (p : Spot Group). Inv p (v.asks s.type (stands s.object) g)) (sym h.0) (field-is n s there g among.0 outer))
    fields-are n s there outer (g ∷ gs) among spot outcome (inr h) = fields-are n s there outer gs among.1 spot outcome h

    -- ---- fields of the library's objects

    library-field : (U : ObjectType) (y : Y) → Library y → (spot : Spot Group) (f : Field) (made : Result Members ArgumentFault)
        → Inv spot (asked ours U y f.name.text made)
    library-field U y its spot f (Err fault) = tt
    library-field U y its spot f (Ok arguments) = by_name (bytes_eq f.name.text (codes "__typename"))
      where
        by_name : (b : Bool) → Inv spot (answered (if b then gives_leaf (json.String U.name.text) else ours.answers U y f.name.text arguments))
        by_name true = inl tt
        by_name false = inl (library U y f.name.text arguments its)

    library-fields : (U : ObjectType) (y : Y) → Library y → (outer : Trail) (gs : List Group) (spot : Spot Group) (outcome : Outcome Y)
        → IsAmong spot outcome (fields_of v U y outer gs) → Inv spot outcome
    library-fields U y its outer [] spot outcome h = absurd h
    library-fields U y its outer (g ∷ gs) spot outcome (inl h) =
        subst (Inv spot) (sym h.1) (library-field U y its spot g.first (arguments_of schema document variables U g.first))
    library-fields U y its outer (g ∷ gs) spot outcome (inr h) = library-fields U y its outer gs spot outcome h

    library-items : (outer : Spot Group) (i : ℕ) (ms : Meanings Y) → EachOf Library ms → (spot : Spot Group) (outcome : Outcome Y)
        → IsAmong spot outcome (items_of outer i ms) → Inv spot outcome
    library-items outer i no_answer its spot outcome h = absurd h
    library-items outer i (answer_then m ms) its spot outcome (inl h) = subst (Inv spot) (sym h.1) (inl its.0)
    library-items outer i (answer_then m ms) its spot outcome (inr h) = library-items outer (i + 1) ms its.1 spot outcome h

    library-inside : (outer : Spot Group) (m : Meaning Y) → AllOf Library m → (spot : Spot Group) (outcome : Outcome Y)
        → IsAmong spot outcome (inside v outer m) → Inv spot outcome
    library-inside outer (gives_leaf value) its spot outcome h = absurd h
    library-inside outer (gives_object y) its spot outcome h = by_type (v.type_of y) h
      where
        by_type : (type : Option ObjectType) → IsAmong spot outcome (fields_if v type y outer) → Inv spot outcome
        by_type None h = absurd h
        by_type (Some U) h = library-fields U y its (trail outer) (v.groups U (v.below outer.group)) spot outcome h
    library-inside outer (gives_list ms) its spot outcome h = library-items outer 0 ms its spot outcome h
    library-inside outer gives_skip its spot outcome h = absurd its
    library-inside outer (fails_with text) its spot outcome h = absurd h

    -- ---- inside what the caller told

    items-are : (outer : Spot Group) (depth : ℕ) (i : ℕ) (ms : Meanings Known) → SkipNothing ms
        → AreOf (all_given u outer.group.pieces (item_type outer.type) ms) (level u here depth)
        → (spot : Spot Group) (outcome : Outcome Y) → IsAmong spot outcome (items_of outer i (all_mapped stands ms)) → Inv spot outcome
    items-are outer depth i no_answer whole reached spot outcome h = absurd h
    items-are outer depth i (answer_then m ms) whole reached spot outcome (inl h) =
        subst (Inv spot) (sym h.1)
        (subst (λ (p : Spot Group). Inv p (answered (mapped stands m))) (sym h.0)
        (inr (record {
          known = m;
          same = refl;
          whole = whole.0;
          depth = depth;
          reached = all-front (λ t. IsOneOf t (level u here depth)) (given u outer.group.pieces (item_type outer.type) m)
              (all_given u outer.group.pieces (item_type outer.type) ms) reached;
        })))
    items-are outer depth i (answer_then m ms) whole reached spot outcome (inr h) =
        items-are outer depth (i + 1) ms whole.1
        (all-back (λ t. IsOneOf t (level u here depth)) (given u outer.group.pieces (item_type outer.type) m)
        (all_given u outer.group.pieces (item_type outer.type) ms) reached)
        spot outcome h

    known-inside : (outer : Spot Group) (known : Meaning Known) → SkipsNothing known → (depth : ℕ)
        → AreOf (given u outer.group.pieces outer.type known) (level u here depth) → v.misfit outer.type (mapped stands known) ≡ None
        → (spot : Spot Group) (outcome : Outcome Y) → IsAmong spot outcome (inside v outer (mapped stands known)) → Inv spot outcome
    known-inside outer (gives_leaf value) whole depth reached fits spot outcome h = absurd h
    known-inside outer (gives_object x) whole depth reached fits spot outcome h =
        by_type (object_of schema x.type_name)
        (subst (λ (name : List ℕ). IsAmong spot outcome (fields_if v (object_of schema name) (stands x) outer)) (types-same x) h)
        (subst (λ (stands_there : List KnownStand). AreOf stands_there (level u here depth))
        (ap (λ (m : Option Misfit). if_fits m (typed outer.group.pieces x (object_of schema x.type_name))) its) reached)
      where
        its : u.misfit outer.type (gives_object x) ≡ None
        its = subst (λ (name : List ℕ). object_misfit_of name ≡ None) (types-same x) fits
          where
            object_misfit_of : List ℕ → Option Misfit
            object_misfit_of name = u.misfit outer.type (gives_object (record { number = 0; type_name = name }))

        by_type : (type : Option ObjectType) → IsAmong spot outcome (fields_if v type (stands x) outer)
            → AreOf (typed outer.group.pieces x type) (level u here depth) → Inv spot outcome
        by_type None h found = absurd h
        by_type (Some U) h found =
            let s : KnownStand = record { type = U; object = x; selection = outer.group.pieces } in
            fields-are depth s found.0 (trail outer) (groups_on s) (all-own (groups_on s)) spot outcome h
    known-inside outer (gives_list ms) whole depth reached fits spot outcome h =
        items-are outer depth 0 ms whole
        (subst (λ (stands_there : List KnownStand). AreOf stands_there (level u here depth))
        (ap (λ (m : Option Misfit). if_fits m (all_given u outer.group.pieces (item_type outer.type) ms)) fits) reached)
        spot outcome h
    known-inside outer gives_skip whole depth reached fits spot outcome h = absurd whole
    known-inside outer (fails_with text) whole depth reached fits spot outcome h = absurd h

    inside-is : (outer : Spot Group) (m : Meaning Y) → Inv outer (answered m) → v.misfit outer.type m ≡ None → (spot : Spot Group) (outcome : Outcome Y)
        → IsAmong spot outcome (inside v outer m) → Inv spot outcome
    inside-is outer m (inl its) fits spot outcome h = library-inside outer m its spot outcome h
    inside-is outer m (inr from) fits spot outcome h =
        known-inside outer from.known from.whole from.depth from.reached
        (subst (λ (it : Meaning Y). v.misfit outer.type it ≡ None) from.same fits) spot outcome
        (subst (λ (it : Meaning Y). IsAmong spot outcome (inside v outer it)) from.same h)

    reached-is : {spot : Spot Group} {outcome : Outcome Y} → Reaches v root (stands here.object) (selections ∷ []) spot outcome → Inv spot outcome
    reached-is {spot = spot} {outcome = outcome} (at_root h) =
        fields-are 0 here (inl refl) [] (groups_on here) (all-own (groups_on here)) spot outcome h
    reached-is {spot = spot} {outcome = outcome} (at_inside outer m r fits h) = inside-is outer m (reached-is r) fits spot outcome h

    never-skips : (known : Meaning Known) → SkipsNothing known → gives_skip ≡ mapped stands known → ⊥
    never-skips (gives_leaf value) whole same = cc
    never-skips (gives_object x) whole same = cc
    never-skips (gives_list ms) whole same = cc
    never-skips gives_skip whole same = whole
    never-skips (fails_with text) whole same = cc

    pub none-skipped : ReachesNoSkip v root (stands here.object) (selections ∷ [])
    none-skipped spot reaches = by_inv (reached-is reaches)
      where
        by_inv : AllOf Library gives_skip ⊎ FromKnown spot gives_skip → ⊥
        by_inv (inl none) = none
        by_inv (inr from) = never-skips from.known from.whole from.same
