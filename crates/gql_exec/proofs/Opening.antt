-- Ways that are opened: by more objects, by groups that are alike, and by those that were collected.
use Rattle.std.proofs.Common.{◌≡◌, inl, inr, ℕ, zero, suc, List, [], ◌∷◌, drop, Some, subst}
use Rattle.gql_ast_base.specs.declared.type_ref.TypeRef.{TypeRef}
use Rattle.gql_document_types.specs.declared.selection.Selection.{Selection}
use Rattle.gql_schema_types.specs.declared.types.ObjectType.{ObjectType}
use Rattle.gql_collect.specs.Grouping.{groups_seen}
use Rattle.gql_collect.specs.Groups.{SameGroups, applying}
use Rattle.gql_collect.specs.Same.{SameFirst}
use Rattle.gql_collect.specs.declared.group.Group.{Group as FieldsOfKey}
use Rattle.gql_resolvers.specs.Resolved.{Meaning, Meanings, gives_leaf, gives_object, gives_list, gives_skip, fails_with, no_answer, answer_then}
use Rattle.gql_resolvers.specs.Resolved.{Outcome, answered, refused}
use Rattle.gql_resolvers.specs.Types.{item_type}
use Rattle.gql_resolvers.specs.World.{World, key_of}
use Rattle.gql_exec.specs.Group.{Group}
use Rattle.gql_exec.specs.Request.{Request}
use Rattle.gql_exec.specs.RequestWorld.{plain_world, setting_on}
use Rattle.gql_exec.proofs.Alike.{IsAlike, AreAlike, groups-alike, sets-alike}
use Rattle.gql_exec.specs.Opened.{Way, AnyGroup, Gives, AnyGives, Brings, Opens}
use Rattle.gql_exec.specs.bridge.Opened.{OpensBy}
use Rattle.gql_exec.proofs.Views.{views, views-from}

module _ {X T G S : Type 0} (w : World X T G S) (P Q : X → Type 0) (more : (y : X) → P y → Q y) where
  mutual
    gives-more : (ty : TypeRef) (m : Meaning X) → Gives w P ty m → Gives w Q ty m
    gives-more ty (gives_object x) gives = (gives.0, more x gives.1)
    gives-more ty (gives_list ms) gives = (gives.0, any-more (item_type ty) ms gives.1)
    gives-more ty (gives_leaf v) gives = absurd gives
    gives-more ty gives_skip gives = absurd gives
    gives-more ty (fails_with text) gives = absurd gives

    any-more : (ty : TypeRef) (ms : Meanings X) → AnyGives w P ty ms → AnyGives w Q ty ms
    any-more ty no_answer gives = absurd gives
    any-more ty (answer_then m ms) (inl here) = inl (gives-more ty m here)
    any-more ty (answer_then m ms) (inr later) = inr (any-more ty ms later)

  brings-more : (ty : TypeRef) (outcome : Outcome X) → Brings w P ty outcome → Brings w Q ty outcome
  brings-more ty (answered m) brings = gives-more ty m brings
  brings-more ty (refused fault) brings = absurd brings

any-alike : (P Q : Group → Type 0) → ((g h : Group) → IsAlike g h → P g → Q h) → (gs hs : List Group) → AreAlike gs hs → AnyGroup P gs → AnyGroup Q hs
any-alike P Q as_well [] hs alike any = absurd any
any-alike P Q as_well (g ∷ gs) [] alike any = absurd alike
any-alike P Q as_well (g ∷ gs) (h ∷ hs) alike (inl here) = inl (as_well g h alike.0 here)
any-alike P Q as_well (g ∷ gs) (h ∷ hs) alike (inr later) = inr (any-alike P Q as_well gs hs alike.1 later)

module _ {X : Type 0} (r : Request X) where
  abbrev w : World X ObjectType Group (List (List Selection))
  w = plain_world r

  -- sets that are the same once repeats are left out open the same ways
  abbrev IsBlind : Way ObjectType → Type 0
  IsBlind way = (V : ObjectType) (y : X) (ps qs : List (List Selection)) → SameFirst ps qs → Opens w way V y ps → Opens w way V y qs

  abbrev Step : Type 0
  Step = List ℕ × ObjectType

  abbrev Takes : Way ObjectType → Step → ObjectType → X → Group → Type 0
  Takes way step U x g =
      (key_of w g ≡ step.0) × Brings w (λ y. (w.type_of y ≡ Some step.1) × Opens w way step.1 y (w.below g)) (w.type_at U g) (w.asks U x g)

  takes-alike : (way : Way ObjectType) → IsBlind way → (step : Step) (U : ObjectType) (x : X) (g h : Group) → IsAlike g h → Takes way step U x g → Takes way step U x h
  takes-alike way blind step U x g h alike takes =
      let moved : Group = record { first = g.first; pieces = h.pieces } in
      let there : Takes way step U x moved = (
        takes.0,
        brings-more w (λ y. (w.type_of y ≡ Some step.1) × Opens w way step.1 y g.pieces) (λ y. (w.type_of y ≡ Some step.1) × Opens w way step.1 y h.pieces)
            (λ y turns. (turns.0, blind step.1 y g.pieces h.pieces alike.1 turns.1)) (w.type_at U g) (w.asks U x g) takes.1,
      ) in
      subst (λ f. Takes way step U x (record { first = f; pieces = h.pieces })) alike.0 there

  abbrev IsBlindBy : Way ObjectType → Type 0
  IsBlindBy way = (U : ObjectType) (x : X) (gs hs : List Group) → AreAlike gs hs → OpensBy w gs U x way → OpensBy w hs U x way

  blind-by : (way : Way ObjectType) → IsBlindBy way → IsBlind way
  blind-by [] alike V y ps qs same opens = tt
  blind-by (step ∷ way) alike V y ps qs same opens = alike V y (w.groups V ps) (w.groups V qs) (sets-alike r V ps qs same) opens

  opens-alike : (way : Way ObjectType) → IsBlindBy way
  opens-alike [] U x gs hs alike opens = tt
  opens-alike (step ∷ way) U x gs hs alike opens =
      any-alike (Takes way step U x) (Takes way step U x) (takes-alike way (blind-by way (opens-alike way)) step U x) gs hs alike opens

  -- groups that were collected open what is opened where nothing is remembered
  pub opens-collected : (U : ObjectType) (groups : List FieldsOfKey) (sets : List (List Selection)) → SameGroups (groups_seen groups) (applying (setting_on r U) sets)
      → (x : X) (way : Way ObjectType) → OpensBy w (views groups) U x way → Opens w way U x sets
  opens-collected U groups sets same x [] opens = tt
  opens-collected U groups sets same x (step ∷ way) opens =
      opens-alike (step ∷ way) U x (views groups) (w.groups U sets) (subst (λ gs. AreAlike gs (w.groups U sets)) (views-from groups) (groups-alike same)) opens

-- a group among those from an index on
pub any-drop : (P : Group → Type 0) (groups : List FieldsOfKey) (i : ℕ) → AnyGroup P (views (drop i groups)) → AnyGroup P (views groups)
any-drop P [] zero any = absurd any
any-drop P [] (suc i) any = absurd any
any-drop P (g ∷ gs) zero any = any
any-drop P (g ∷ gs) (suc i) any = inr (any-drop P gs i any)
