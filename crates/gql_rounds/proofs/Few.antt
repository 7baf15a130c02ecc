-- Levels end where selections do.
use Rattle.std.proofs.Common.{arith, ◌≡◌, ◌⊎◌, ℕ, zero, suc, ◌+◌, ◌<◌, ◌≤◌, List, [], ◌∷◌, ◌++◌, refl, ap, ◌∙◌, subst, inl, inr}
use Rattle.std.proofs.lemmas.Bool.{cases_lt}
use Rattle.std.specs.List.{AllByRecursion}
use Rattle.gql_document_types.specs.Ranks.{AreRanked}
use Rattle.gql_document_types.specs.declared.selection.Selection.{Selection}
use Rattle.gql_exec.proofs.Nests.{suffices}
use Rattle.gql_exec.specs.Group.{Group}
use Rattle.gql_exec.specs.Nesting.{nesting}
use Rattle.gql_exec.specs.Request.{Request}
use Rattle.gql_exec.specs.RequestWorld.{plain_world}
use Rattle.gql_resolvers.specs.Depth.{AllGroups, Suffices}
use Rattle.gql_schema_types.specs.declared.types.ObjectType.{ObjectType}
use Rattle.gql_rounds.specs.Asked.{AreAsked, IsOneOf, IsWanted, wanted_on}
use Rattle.gql_rounds.specs.Known.{Known}
use Rattle.gql_rounds.specs.Levels.{below_group, below_groups, below_stand, below_stands, level}
use Rattle.gql_rounds.specs.Table.{Table}
use Rattle.gql_rounds.specs.Telling.{IsNextRound, LacksNothing, Subject}
use Rattle.gql_rounds.specs.Wanted.{KnownStand, root_stand, wanted, wanted_by_groups}
use Rattle.gql_rounds.specs.bridge.Wanted.{KnownWorld}
use Rattle.gql_rounds.proofs.Noted.{Entries, all-append}
use Rattle.gql_rounds.proofs.Rounds.{no-more}
use Rattle.gql_rounds.proofs.TwoTables.{deeper}
use Rattle.gql_rounds.proofs.Visits.{brought-all}

module _ (r : Request Known) where
  abbrev w : KnownWorld
  w = plain_world r

  -- what is selected on it goes no deeper
  abbrev IsDeep : ℕ → List (List Selection) → Type 0
  IsDeep d sets = (W : ObjectType) → Suffices w d W sets

  groups-deep : (d : ℕ) (U : ObjectType) (x : Known) (gs : List Group) → AllGroups w (λ g. IsDeep d (w.below g)) gs
      → AllByRecursion (λ (s : KnownStand). IsDeep d s.selection) (below_groups w U x gs)
  groups-deep d U x [] all = tt
  groups-deep d U x (g ∷ gs) all =
      all-append (λ (s : KnownStand). IsDeep d s.selection) (below_group w U x g) (below_groups w U x gs)
      (brought-all r (IsDeep d) (w.below g) all.0 (w.type_at U g) (w.asks U x g)) (groups-deep d U x gs all.1)

  stands-deep : (d : ℕ) (ss : List KnownStand) → AllByRecursion (λ (s : KnownStand). IsDeep (suc d) s.selection) ss
      → AllByRecursion (λ (s : KnownStand). IsDeep d s.selection) (below_stands w ss)
  stands-deep d [] all = tt
  stands-deep d (s ∷ ss) all =
      all-append (λ (t : KnownStand). IsDeep d t.selection) (below_stand w s) (below_stands w ss)
      (groups-deep d s.type s.object (w.groups s.type s.selection) (all.0 s.type)) (stands-deep d ss all.1)

  level-deep : (root : KnownStand) (n d : ℕ) → IsDeep (n + d) root.selection → AllByRecursion (λ (s : KnownStand). IsDeep d s.selection) (level w root n)
  level-deep root zero d deep = let same : zero + d ≡ d = omega arith in (subst (λ k. IsDeep k root.selection) same deep, tt)
  level-deep root (suc n) d deep =
      let same : suc n + d ≡ n + suc d = omega arith in
      stands-deep d (level w root n) (level-deep root n (suc d) (subst (λ k. IsDeep k root.selection) same deep))

  -- stands that select nothing bring nothing and ask for nothing
  bare-below : (ss : List KnownStand) → AllByRecursion (λ (s : KnownStand). IsDeep zero s.selection) ss → below_stands w ss ≡ []
  bare-below [] all = refl
  bare-below (s ∷ ss) all = ap (λ gs. below_groups w s.type s.object gs ++ below_stands w ss) (all.0 s.type) ∙ bare-below ss all.1

  bare-wanted : (ss : List KnownStand) → AllByRecursion (λ (s : KnownStand). IsDeep zero s.selection) ss → wanted r ss ≡ []
  bare-wanted [] all = refl
  bare-wanted (s ∷ ss) all = ap (λ gs. wanted_by_groups r s.type s.object gs ++ wanted r ss) (all.0 s.type) ∙ bare-wanted ss all.1

  module _ (root : ObjectType) (selections : List Selection) where
    abbrev here : KnownStand
    here = root_stand root selections

    -- where selections are so deep and the levels above lack nothing, none lacks anything
    whole : (depth round : ℕ) → IsDeep depth (selections ∷ []) → depth ≤ round → ((k : ℕ) → k < round → wanted_on r root selections k ≡ [])
        → (n : ℕ) → wanted_on r root selections n ≡ []
    whole depth round deep later quiet n = by_round (cases_lt n round)
      where
        bare : AllByRecursion (λ (s : KnownStand). IsDeep zero s.selection) (level w here depth)
        bare =
            let same : depth ≡ depth + zero = omega arith in
            level-deep here depth zero (subst (λ k. IsDeep k (selections ∷ [])) same deep)

        by_depth : depth ≤ n → (depth < n) ⊎ (n ≤ depth) → wanted_on r root selections n ≡ []
        by_depth past (inl below) = no-more r root selections (suc depth) n (omega (arith, below)) (bare-below (level w here depth) bare)
        by_depth past (inr same) =
            let is : depth ≡ n = omega (arith, past, same) in
            subst (λ k. wanted_on r root selections k ≡ []) is (bare-wanted (level w here depth) bare)

        by_round : (n < round) ⊎ (round ≤ n) → wanted_on r root selections n ≡ []
        by_round (inl before) = quiet n before
        by_round (inr after) = by_depth (omega (arith, later, after)) (cases_lt depth n)

    -- where nothing is lacking nothing is asked
    pub nothing-asked : ((n : ℕ) → wanted_on r root selections n ≡ []) → (asks : Entries) → AreAsked r root selections asks → asks ≡ []
    nothing-asked quiet [] are = refl
    nothing-asked quiet (entry ∷ asks) are =
        let first : IsWanted r root selections entry = are.wanted.0 in
        absurd (subst (IsOneOf entry.1) (quiet first.depth) first.among)

    pub few : (rank : ℕ → ℕ) → AreRanked r.fragments rank → (round : ℕ) → nesting r.fragments (selections ∷ []) ≤ round
        → ((k : ℕ) → k < round → wanted_on r root selections k ≡ []) → (asks : Entries) → AreAsked r root selections asks → asks ≡ []
    few rank ranked round later quiet =
        nothing-asked (whole (nesting r.fragments (selections ∷ [])) round (λ W. suffices r rank ranked W (selections ∷ [])) later quiet)

module _ (subject : Subject) where
  pub rounds-deeper : (old new : Table) (depth : ℕ) → LacksNothing subject old depth → IsNextRound subject old new → LacksNothing subject new (suc depth)
  rounds-deeper old new depth quiet next =
      deeper subject.schema subject.document subject.variables old new next.more (root_stand subject.root subject.selections) depth quiet next.told

  pub rounds-so-far : (tables : ℕ → Table) → ((round : ℕ) → IsNextRound subject (tables round) (tables (suc round))) → (round : ℕ)
      → LacksNothing subject (tables round) round
  rounds-so-far tables next zero = λ k less. absurd (omega (arith, less))
  rounds-so-far tables next (suc round) = rounds-deeper (tables round) (tables (suc round)) round (rounds-so-far tables next round) (next round)
