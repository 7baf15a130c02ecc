-- A walk level by level.
use Rattle.std.proofs.Common.{◌≡◌, ℕ, ◌+◌, List, [], ◌∷◌, refl, sym, ap, ◌∙◌, subst, add-one}
use Rattle.gql_collect.proofs.Room.{room-root}
use Rattle.gql_exec.specs.Request.{Request}
use Rattle.gql_exec.specs.RequestWorld.{plain_world}
use Rattle.gql_exec.specs.declared.executing.Executing.{Executing}
use Rattle.gql_schema_types.specs.declared.types.ObjectType.{ObjectType}
use Rattle.gql_rounds.specs.Known.{Known}
use Rattle.gql_rounds.specs.Levels.{below_stands, level}
use Rattle.gql_rounds.specs.bridge.Walked.{AreWithin, Grows, SameStands}
use Rattle.gql_rounds.specs.Wanted.{KnownStand, root_stand, wanted}
use Rattle.gql_rounds.specs.bridge.Wanted.{KnownWorld, all_noted, wanted_above}
use Rattle.gql_rounds.proofs.Noted.{Entries, noted-append}
use Rattle.gql_rounds.proofs.Same.{same-refl, same-trans, stands-same, wanted-stands}

module _ (r : Request Known) (e : Executing) (root : KnownStand) where
  abbrev w : KnownWorld
  w = plain_world r

  -- these stand at the depth, and what is above them was asked for
  pub record IsAtLevel (depth : ℕ) (now : List KnownStand) (asks : Entries) : Type 0 where
    pub same : SameStands now (level w root depth)
    pub noted : asks ≡ all_noted [] (wanted_above r root depth)
    pub within : AreWithin e now

  pub level-begun : (now : List KnownStand) (asks : Entries) → now ≡ root ∷ [] → asks ≡ [] → AreWithin e now → IsAtLevel 0 now asks
  level-begun now asks is none within = record {
    same = subst (λ l. SameStands l (root ∷ [])) (sym is) (same-refl (root ∷ []));
    noted = none;
    within = within;
  }

  pub level-next : (depth : ℕ) (now below : List KnownStand) (asks more : Entries) → IsAtLevel depth now asks → Grows [] below (below_stands w now)
      → more ≡ all_noted asks (wanted r now) → AreWithin e below → IsAtLevel (depth + 1) below more
  level-next depth now below asks more so_far grows is within = record {
    same =
        subst (λ n. SameStands below (level w root n)) (sym (add-one depth))
        (same-trans below (below_stands w now) (below_stands w (level w root depth)) (grows [] tt) (stands-same r now (level w root depth) so_far.same));
    noted =
        is
        ∙ ap (λ es. all_noted es (wanted r now)) so_far.noted
        ∙ ap (all_noted (all_noted [] (wanted_above r root depth))) (wanted-stands r now (level w root depth) so_far.same)
        ∙ sym (noted-append [] (wanted_above r root depth) (wanted r (level w root depth)))
        ∙ ap (λ n. all_noted [] (wanted_above r root n)) (sym (add-one depth));
    within = within;
  }

  -- where nothing stands, the level is empty
  nothing-same : (ss : List KnownStand) → SameStands [] ss → ss ≡ []
  nothing-same [] same = refl
  nothing-same (s ∷ ss) same = absurd same

  pub level-ended : (depth : ℕ) (now : List KnownStand) (asks : Entries) → now ≡ [] → IsAtLevel depth now asks → level w root depth ≡ []
  level-ended depth now asks none so_far = nothing-same (level w root depth) (subst (λ l. SameStands l (level w root depth)) none so_far.same)

-- the root is collected within what the operation has
pub root-within : (e : Executing) (root : ObjectType) (now : List KnownStand) → now ≡ root_stand root e.operation.now.selection_set.selections ∷ [] → AreWithin e now
root-within e root now is = subst (AreWithin e) (sym is) (room-root e.request.document.now.fragments e.operation.now.selection_set.selections, tt)
