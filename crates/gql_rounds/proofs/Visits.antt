-- What a visit adds and notes, part by part.
use Rattle.std.proofs.Common.{◌≡◌, ℕ, zero, suc, ◌+◌, List, [], ◌∷◌, ◌++◌, take, slice_get, Option, Some, None, refl, sym, ap, ◌∙◌, subst, append_assoc, add-one}
use Rattle.std.proofs.lemmas.List.{append-nil}
use Rattle.std.proofs.lemmas.List.Concat.{flat_map-append}
use Rattle.std.specs.List.{AllByRecursion}
use Rattle.gql_ast_base.specs.declared.type_ref.TypeRef.{TypeRef}
use Rattle.gql_collect.specs.Grouping.{groups_seen}
use Rattle.gql_collect.specs.Groups.{SameGroups, applying}
use Rattle.gql_collect.specs.Plan.{group_in, groups_in}
use Rattle.gql_collect.specs.bridge.Plan.{HaveNodes, IsWithin, sets_below}
use Rattle.gql_collect.specs.declared.group.Group.{Group as FieldsOfKey}
use Rattle.gql_collect.specs.declared.plan.Part.{Part}
use Rattle.gql_document_types.specs.declared.selection.Selection.{Selection}
use Rattle.gql_exec.proofs.Alike.{AreAlike, groups-alike}
use Rattle.gql_exec.proofs.Views.{views, views-from}
use Rattle.gql_exec.specs.Group.{Group}
use Rattle.gql_exec.specs.bridge.Planning.{ground_in}
use Rattle.gql_exec.specs.Request.{Request}
use Rattle.gql_exec.specs.RequestWorld.{plain_world, setting_on}
use Rattle.gql_exec.specs.Trails.{group_of}
use Rattle.gql_exec.specs.declared.executing.Executing.{Executing}
use Rattle.gql_resolvers.specs.Resolved.{Meaning, Meanings, gives_leaf, gives_object, gives_list, gives_skip, fails_with, no_answer, answer_then}
use Rattle.gql_resolvers.specs.Resolved.{Misfit, Outcome, answered, refused}
use Rattle.gql_resolvers.specs.Types.{item_type}
use Rattle.gql_schema_types.specs.declared.types.ObjectType.{ObjectType}
use Rattle.gql_rounds.specs.Known.{Known}
use Rattle.gql_rounds.specs.Levels.{if_fits, typed, given, all_given, brought, below_group, below_groups, below_stand, below_stands}
use Rattle.gql_rounds.specs.bridge.Walked.{AreWithin, Grows, SameStands, stand_of, stands_of}
use Rattle.gql_rounds.specs.declared.walk.Visit.{Visit}
use Rattle.gql_rounds.specs.Wanted.{KnownStand, wanted, wanted_at, wanted_by_group, wanted_by_groups}
use Rattle.gql_rounds.specs.bridge.Wanted.{KnownWorld, all_noted}
use Rattle.gql_rounds.proofs.Noted.{Entries, all-append, noted-append}
use Rattle.gql_rounds.proofs.Same.{groups-same, same-append, wanted-same}

module _ (r : Request Known) where
  abbrev w : KnownWorld
  w = plain_world r

  -- the stands so far with those that are left, and the asks so far with those that are left, make the whole
  pub record IsVisiting (U : ObjectType) (x : Known) (now old : List KnownStand) (asks before : Entries) (left all : List Group) : Type 0 where
    pub below : now ++ below_groups w U x left ≡ old ++ below_groups w U x all
    pub asks_so_far : all_noted asks (wanted_by_groups r U x left) ≡ all_noted before (wanted_by_groups r U x all)

  module _ (U : ObjectType) (x : Known) where
    pub visiting-begun : (old : List KnownStand) (before : Entries) (left all : List Group) → left ≡ all → IsVisiting U x old old before before left all
    visiting-begun old before left all is = record {
      below = ap (λ gs. old ++ below_groups w U x gs) is;
      asks_so_far = ap (λ gs. all_noted before (wanted_by_groups r U x gs)) is;
    }

    -- one group further
    pub visiting-more : (now new old : List KnownStand) (asks noted before : Entries) (left rest all : List Group) (g : Group) → left ≡ g ∷ rest
        → new ≡ now ++ below_group w U x g → noted ≡ all_noted asks (wanted_by_group r U x g)
        → IsVisiting U x now old asks before left all → IsVisiting U x new old noted before rest all
    visiting-more now new old asks noted before left rest all g is added more so_far = record {
      below =
          ap (λ l. l ++ below_groups w U x rest) added
          ∙ append_assoc now (below_group w U x g) (below_groups w U x rest)
          ∙ ap (λ gs. now ++ below_groups w U x gs) (sym is)
          ∙ so_far.below;
      asks_so_far =
          ap (λ es. all_noted es (wanted_by_groups r U x rest)) more
          ∙ sym (noted-append asks (wanted_by_group r U x g) (wanted_by_groups r U x rest))
          ∙ ap (λ gs. all_noted asks (wanted_by_groups r U x gs)) (sym is)
          ∙ so_far.asks_so_far;
    }

    pub visited-below : (now old : List KnownStand) (asks before : Entries) (left all : List Group) → left ≡ [] → IsVisiting U x now old asks before left all
        → now ≡ old ++ below_groups w U x all
    visited-below now old asks before left all none so_far = sym (append-nil now) ∙ ap (λ gs. now ++ below_groups w U x gs) (sym none) ∙ so_far.below

    pub visited-asks : (now old : List KnownStand) (asks before : Entries) (left all : List Group) → left ≡ [] → IsVisiting U x now old asks before left all
        → asks ≡ all_noted before (wanted_by_groups r U x all)
    visited-asks now old asks before left all none so_far = ap (λ gs. all_noted asks (wanted_by_groups r U x gs)) (sym none) ∙ so_far.asks_so_far

    -- parts of a selection are alike what is collected
    module _ (groups : List FieldsOfKey) (sets : List (List Selection)) (same : SameGroups (groups_seen groups) (applying (setting_on r U) sets)) where
      alike : AreAlike (views groups) (w.groups U sets)
      alike = subst (λ gs. AreAlike gs (w.groups U sets)) (views-from groups) (groups-alike same)

      pub visited-grows : (now old : List KnownStand) → now ≡ old ++ below_groups w U x (views groups) → Grows old now (below_groups w U x (w.groups U sets))
      visited-grows now old is others they =
          subst (λ l. SameStands l (others ++ below_groups w U x (w.groups U sets))) (sym is)
          (same-append old others (below_groups w U x (views groups)) (below_groups w U x (w.groups U sets)) they
          (groups-same r U x (views groups) (w.groups U sets) alike))

      pub visited-wanted : (asks before : Entries) → asks ≡ all_noted before (wanted_by_groups r U x (views groups))
          → asks ≡ all_noted before (wanted_by_groups r U x (w.groups U sets))
      visited-wanted asks before is = is ∙ ap (all_noted before) (wanted-same r U x (views groups) (w.groups U sets) alike)

  -- ---- what is selected on them

  module _ (Q : List (List Selection) → Type 0) where
    abbrev Holds : KnownStand → Type 0
    Holds stand = Q stand.selection

    module _ (s : List (List Selection)) (here : Q s) where
      fits-all : (o : Option Misfit) (xs : List KnownStand) → AllByRecursion Holds xs → AllByRecursion Holds (if_fits o xs)
      fits-all None xs all = all
      fits-all (Some misfit) xs all = tt

      typed-all : (x : Known) (o : Option ObjectType) → AllByRecursion Holds (typed s x o)
      typed-all x None = tt
      typed-all x (Some U) = (here, tt)

      mutual
        given-all : (ty : TypeRef) (m : Meaning Known) → AllByRecursion Holds (given w s ty m)
        given-all ty (gives_object x) = fits-all (w.misfit ty (gives_object x)) (typed s x (w.type_of x)) (typed-all x (w.type_of x))
        given-all ty (gives_list ms) = fits-all (w.misfit ty (gives_list ms)) (all_given w s (item_type ty) ms) (items-all (item_type ty) ms)
        given-all ty (gives_leaf v) = tt
        given-all ty gives_skip = tt
        given-all ty (fails_with text) = tt

        items-all : (ty : TypeRef) (ms : Meanings Known) → AllByRecursion Holds (all_given w s ty ms)
        items-all ty no_answer = tt
        items-all ty (answer_then m ms) = all-append Holds (given w s ty m) (all_given w s ty ms) (given-all ty m) (items-all ty ms)

      pub brought-all : (ty : TypeRef) (outcome : Outcome Known) → AllByRecursion Holds (brought w s ty outcome)
      brought-all ty (answered m) = given-all ty m
      brought-all ty (refused fault) = tt

    pub parts-all : (U : ObjectType) (x : Known) (parts : List Part) → AllByRecursion (λ part. Q (sets_below (group_in part))) parts
        → AllByRecursion Holds (below_groups w U x (views (groups_in parts)))
    parts-all U x [] all = tt
    parts-all U x (part ∷ parts) all =
        let g = group_of (group_in part) in
        all-append Holds (below_group w U x g) (below_groups w U x (views (groups_in parts)))
        (brought-all (sets_below (group_in part)) all.0 (w.type_at U g) (w.asks U x g)) (parts-all U x parts all.1)

  pub visited-within : (e : Executing) (U : ObjectType) (x : Known) (parts : List Part) (now old : List KnownStand) → HaveNodes (ground_in e) parts
      → now ≡ old ++ below_groups w U x (views (groups_in parts)) → AreWithin e old → AreWithin e now
  visited-within e U x parts now old have is within =
      subst (AreWithin e) (sym is)
      (all-append (λ (stand : KnownStand). IsWithin (ground_in e) stand.selection) old (below_groups w U x (views (groups_in parts))) within
      (parts-all (IsWithin (ground_in e)) U x parts (have 0)))

  -- ---- level by level

  -- one more stand is visited
  pub grows-more : (mid new xs ys : List KnownStand) → Grows [] mid xs → Grows mid new ys → Grows [] new (xs ++ ys)
  grows-more mid new xs ys one other others they =
      subst (SameStands new) (append_assoc others xs ys) (other (others ++ xs) (one others they))

  -- what is below the stands that were passed, and what they ask for
  pub record IsOnLevel (e : Executing) (now passed : List KnownStand) (asks before : Entries) : Type 0 where
    pub grows : Grows [] now (below_stands w passed)
    pub noted : asks ≡ all_noted before (wanted r passed)
    pub within : AreWithin e now

  module _ (e : Executing) where
    pub level-begun : (now : List KnownStand) (before : Entries) → now ≡ [] → IsOnLevel e now [] before before
    level-begun now before none = record {
      grows = λ others they. subst (SameStands now) (sym (append-nil others)) (subst (λ l. SameStands l others) (sym none) they);
      noted = refl;
      within = subst (AreWithin e) (sym none) tt;
    }

    pub level-more : (now new passed : List KnownStand) (s : KnownStand) (asks noted before : Entries) → IsOnLevel e now passed asks before
        → Grows now new (below_stand w s) → noted ≡ all_noted asks (wanted_at r s) → (AreWithin e now → AreWithin e new)
        → IsOnLevel e new (passed ++ s ∷ []) noted before
    level-more now new passed s asks noted before so_far grows is within = record {
      grows =
          subst (Grows [] new)
          (ap (λ l. below_stands w passed ++ l) (sym (append-nil (below_stand w s))) ∙ sym (flat_map-append (below_stand w) passed (s ∷ [])))
          (grows-more now new (below_stands w passed) (below_stand w s) so_far.grows grows);
      noted =
          is
          ∙ ap (λ es. all_noted es (wanted_at r s)) so_far.noted
          ∙ sym (noted-append before (wanted r passed) (wanted_at r s))
          ∙ ap (all_noted before) (ap (λ l. wanted r passed ++ l) (sym (append-nil (wanted_at r s))) ∙ sym (flat_map-append (wanted_at r) passed (s ∷ [])));
      within = within so_far.within;
    }

-- the stands of one more visit
take-suc : (visits : List Visit) (i : ℕ) (visit : Visit) → slice_get visits i ≡ Some visit → stands_of (take (suc i) visits) ≡ stands_of (take i visits) ++ stand_of visit ∷ []
take-suc [] i visit there = absurd (let e : None ≡ Some visit = there in cc)
take-suc (v ∷ vs) zero visit there = ap (λ x. stand_of x ∷ []) (let e : Some v ≡ Some visit = there in let same : v ≡ visit = cc in same)
take-suc (v ∷ vs) (suc i) visit there = ap (λ l. stand_of v ∷ l) (take-suc vs i visit there)

pub take-stand : (visits : List Visit) (i : ℕ) (visit : Visit) → slice_get visits i ≡ Some visit → stands_of (take (i + 1) visits) ≡ stands_of (take i visits) ++ stand_of visit ∷ []
take-stand visits i visit there = ap (λ k. stands_of (take k visits)) (add-one i) ∙ take-suc visits i visit there

pub visit-within : (e : Executing) (visits : List Visit) (i : ℕ) (visit : Visit) → slice_get visits i ≡ Some visit → AreWithin e (stands_of visits)
    → IsWithin (ground_in e) (stand_of visit).selection
visit-within e [] i visit there all = absurd (let o : None ≡ Some visit = there in cc)
visit-within e (v ∷ vs) zero visit there all =
    subst (λ x. IsWithin (ground_in e) (stand_of x).selection) (let o : Some v ≡ Some visit = there in let same : v ≡ visit = cc in same) all.0
visit-within e (v ∷ vs) (suc i) visit there all = visit-within e vs i visit there all.1
