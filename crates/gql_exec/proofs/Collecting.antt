-- Groups as they are collected, and what it is to execute them.
use Rattle.std.proofs.Common.{◌≡◌, ℕ, ◌+◌, ◌<◌, true, List, [], ◌∷◌, ◌++◌, length, ◌≤◌, get_or, drop, is_some, refl, ap, ◌∙◌, subst, Bor}
use Rattle.std.proofs.lemmas.List.{at_drop_all}
use Rattle.gql_document_types.specs.declared.selection.Selection.{Selection}
use Rattle.gql_document_types.specs.declared.selection.SelectionSet.{SelectionSet}
use Rattle.gql_schema_types.specs.Schemas.{field_of}
use Rattle.gql_schema_types.specs.declared.types.ObjectType.{ObjectType}
use Rattle.gql_collect.specs.Collected.{sets_of}
use Rattle.gql_collect.specs.Grouping.{groups_seen}
use Rattle.gql_collect.specs.Groups.{SameGroups, applying}
use Rattle.gql_document_types.specs.Ranks.{AreRanked}
use Rattle.gql_collect.specs.declared.group.Group.{Group as FieldsOfKey}
use Rattle.gql_resolvers.specs.Depth.{Suffices}
use Rattle.gql_resolvers.specs.World.{DistinctKeys}
use Rattle.gql_exec.specs.Nesting.{nesting}
use Rattle.gql_exec.specs.Request.{Request}
use Rattle.gql_exec.specs.RequestWorld.{plain_world, setting_on}
use Rattle.gql_exec.specs.Runs.{RunsAs}
use Rattle.gql_exec.proofs.Alike.{collected-distinct, collected-runs}
use Rattle.gql_exec.proofs.Nests.{groups-below}
use Rattle.gql_exec.specs.Trails.{group_of}
use Rattle.gql_exec.proofs.Measures.{below-at, drop-item}
use Rattle.gql_exec.proofs.Views.{views, views-from}

-- a set that is collected alone
pub one-set : (none one : List (Bor SelectionSet)) (set : Bor SelectionSet) → none ≡ [] → one ≡ none ++ set ∷ [] → sets_of one ≡ set.now.selections ∷ []
one-set none one set empty added = ap sets_of (added ∙ ap (λ sets. sets ++ set ∷ []) empty)

module _ {X : Type 0} (r : Request X) (U : ObjectType) (groups : List FieldsOfKey) (sets : List (List Selection))
    (same : SameGroups (groups_seen groups) (applying (setting_on r U) sets)) where
  pub views-run : (depth : ℕ) → Suffices (plain_world r) depth U sets → RunsAs (plain_world r) depth U sets (views groups)
  views-run depth enough = subst (λ gs. RunsAs (plain_world r) depth U sets gs) (views-from groups) (collected-runs r U (groups_seen groups) sets same depth enough)

  pub views-apart : DistinctKeys (plain_world r) (views groups)
  views-apart = subst (λ gs. DistinctKeys (plain_world r) gs) (views-from groups) (collected-distinct r U (groups_seen groups) sets same)

  -- each goes less deep, and its field is defined
  pub view-below : (rank : ℕ → ℕ) → AreRanked r.fragments rank → (i : ℕ) (g : FieldsOfKey) → i < length groups → g ≡ get_or groups i g
      → (nesting r.fragments (group_of g).pieces < nesting r.fragments sets) × (is_some (field_of r.schema U.name.text g.first.now.name.text) ≡ true)
  view-below rank ranked i g within is =
      below-at r.schema U r.fragments (nesting r.fragments sets) groups i g within is (groups-below (setting_on r U) rank ranked (groups_seen groups) sets same)
      g.first.now refl

-- the groups from an index on begin with that at the index
pub views-step : (groups : List FieldsOfKey) (i : ℕ) (g : FieldsOfKey) → i < length groups → g ≡ get_or groups i g
    → views (drop i groups) ≡ group_of g ∷ views (drop (i + 1) groups)
views-step groups i g within is = ap views (drop-item groups i g within is)

pub views-end : (groups : List FieldsOfKey) (i : ℕ) → length groups ≤ i → views (drop i groups) ≡ []
views-end groups i past = at_drop_all views groups i past
