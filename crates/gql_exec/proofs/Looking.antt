-- How many selections an execution has looked at, by the ways of its plan.
use Rattle.std.proofs.Common.{arith, ◌≡◌, ◌≤◌, ◌+◌, ◌*◌, inl, inr, ℕ, List, [], ◌∷◌, length, sym, ap, subst}
use Rattle.std.proofs.Math.Nat.{add-mul}
use Rattle.gql_document_types.specs.declared.selection.Selection.{Selection}
use Rattle.gql_schema_types.specs.declared.types.ObjectType.{ObjectType}
use Rattle.gql_collect.specs.Sizes.{outer_size}
use Rattle.gql_exec.specs.ThingMeaning.{Resolving}
use Rattle.gql_resolvers.specs.World.{World}
use Rattle.gql_collect.specs.bridge.Growth.{AreFresh}
use Rattle.gql_collect.specs.Lists.{IsOneOf}
use Rattle.gql_collect.specs.Plan.{fields_in, groups_in}
use Rattle.gql_collect.specs.bridge.Plan.{ArePartsOf, HaveNodes, most_looks}
use Rattle.gql_collect.specs.Ways.{Way}
use Rattle.gql_collect.specs.bridge.Ways.{ways_to}
use Rattle.gql_collect.specs.declared.plan.Part.{Part}
use Rattle.gql_collect.proofs.Joined.{all-of}
use Rattle.gql_collect.proofs.Nodes.{same-collected}
use Rattle.gql_collect.proofs.Ways.{fresh-ways}
use Rattle.gql_exec.specs.Group.{Group}
use Rattle.gql_exec.specs.RequestWorld.{plain_world}
use Rattle.gql_exec.specs.bridge.Executing.{request_of}
use Rattle.gql_exec.specs.Looks.{AreLooks}
use Rattle.gql_exec.specs.bridge.Looks.{PartsGrow}
use Rattle.gql_exec.specs.Opened.{Opens}
use Rattle.gql_exec.specs.bridge.Opened.{OpensBy}
use Rattle.gql_exec.specs.bridge.Planning.{ground_in}
use Rattle.gql_exec.specs.declared.executing.Executing.{Executing}
use Rattle.gql_exec.proofs.Apart.{all-apart}
use Rattle.gql_exec.proofs.Opening.{opens-collected}
use Rattle.gql_exec.proofs.Views.{views}

module _ {X : Type 0} (e : Executing) (types : X → List ℕ) (resolves : Resolving X) (U : ObjectType) (x : X) (sets : List (List Selection))
    (alone : sets ≡ e.operation.now.selection_set.selections ∷ []) (before between after : ℕ) (parts now : List Part) (planned : ArePartsOf (ground_in e) U sets parts)
    (fresh : AreFresh parts) (few : between ≤ before + most_looks (ground_in e)) (least : before + outer_size sets ≤ between) (same : fields_in now ≡ fields_in parts)
    (have : HaveNodes (ground_in e) now)
    (grows : PartsGrow e between after parts now (OpensBy (plain_world (request_of e types resolves)) (views (groups_in parts)) U x)) where
  abbrev w : World X ObjectType Group (List (List Selection))
  w = plain_world (request_of e types resolves)

  abbrev operation : List Selection
  operation = e.operation.now.selection_set.selections

  abbrev ways : List Way
  ways = [] ∷ ways_to grows.levels now

  opens : (way : Way) → IsOneOf way ways → Opens w way U x (operation ∷ [])
  opens way (inl root) = subst (λ (v : Way). Opens w v U x (operation ∷ [])) (sym root) tt
  opens way (inr below) = elim (grows.holds grows.levels way below) [
    | inl was ↦ absurd (subst (IsOneOf way) (fresh-ways grows.levels parts fresh) was)
    | inr holds ↦ subst (Opens w way U x) alone (opens-collected (request_of e types resolves) U (groups_in parts) sets planned.0.groups x way holds)
  ]

  abbrev most : ℕ
  most = most_looks (ground_in e)

  abbrev others : ℕ
  others = length (ways_to grows.levels now)

  more : after ≤ before + length ways * most
  more =
      let whole : length ways ≡ 1 + others = omega arith in
      omega (
        arith,
        few,
        grows.looks grows.levels (omega arith),
        ap (λ (l : List Way). length l * most) (fresh-ways grows.levels parts fresh),
        ap (λ n. n * most) whole,
        add-mul 1 others most,
      )

  pub looks-of : AreLooks (request_of e types resolves) U x operation before after
  looks-of = record {
    least = omega (arith, least, grows.rises, ap outer_size alone);
    ways = ways;
    apart = all-apart e types resolves grows.levels U sets now (same-collected (ground_in e) U sets now parts same planned.0) have;
    opened = all-of _ ways opens;
    most = more;
  }
