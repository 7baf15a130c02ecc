-- The data of a response have at most as many nodes as the cost of the operation.
use Rattle.std.proofs.Common.{arith, ◌≡◌, ℕ, ◌≤◌, Bool, true, false, if◌then◌else◌, List, [], ◌∷◌, Some, None, refl, ap, ◌∙◌}
use Rattle.gql_ast_base.specs.TypeParts.{named_type}
use Rattle.gql_ast_base.specs.declared.type_ref.TypeRef.{TypeRef}
use Rattle.gql_document_types.specs.Spreads.{spread_graph}
use Rattle.gql_document_types.specs.declared.selection.Selection.{Selection}
use Rattle.gql_exec.proofs.Lawful.{lawful}
use Rattle.gql_exec.specs.Group.{Group}
use Rattle.gql_exec.specs.Request.{Request}
use Rattle.gql_exec.specs.RequestWorld.{plain_world}
use Rattle.gql_exec.specs.Response.{IsExecuted}
use Rattle.gql_resolvers.proofs.OneRun.{one_run}
use Rattle.gql_resolvers.specs.Execute.{Made, Member, execute}
use Rattle.gql_resolvers.specs.Fit.{wrong, list_misfit, object_misfit, object_at}
use Rattle.gql_resolvers.specs.Lists.{is_list}
use Rattle.gql_resolvers.specs.Messages as message
use Rattle.gql_resolvers.specs.World.{World}
use Rattle.gql_response.specs.declared.execution_response.ExecutionResponse.{ExecutionResponse}
use Rattle.gql_graph.specs.Ranks.{IsRanked}
use Rattle.gql_schema_types.specs.Schemas.{type_named}
use Rattle.gql_schema_types.specs.declared.schema.Schema.{Schema}
use Rattle.gql_schema_types.specs.declared.types.ObjectType.{ObjectType}
use Rattle.gql_cost.specs.Even.{AreEven}
use Rattle.gql_cost.specs.HasNodes.{HasNodes}
use Rattle.gql_cost.specs.Nodes.{nodes}
use Rattle.gql_cost.specs.Short.{AreShort}
use Rattle.gql_cost.specs.Sum.{fragment_most, cost}
use Rattle.gql_cost.specs.bridge.Sum.{sets_sum}
use Rattle.gql_cost.proofs.Bound.{nodes-bounded}
use Rattle.gql_cost.proofs.Fixed.{most-fixed}
use Rattle.gql_cost.proofs.Rooms.{has-room}
use Rattle.gql_cost.proofs.Standing.{by_unless}

list-fits : (ty : TypeRef) → list_misfit ty ≡ None → is_list ty ≡ true
list-fits ty fits = by_unless (is_list ty) (wrong (message.list_at_other ty)) fits

object-fits : (schema : Schema) (ty : TypeRef) (found : List ℕ) → object_misfit schema ty found ≡ None → is_list ty ≡ false
object-fits schema ty found fits = by (is_list ty) fits
  where
    by : (b : Bool) → (if b then Some (wrong (message.other_at_list ty)) else object_at schema (type_named schema ty) (named_type ty).text found) ≡ None → b ≡ false
    by true e = absurd (let f : Some (wrong (message.other_at_list ty)) ≡ None = e in cc)
    by false e = refl

module _ {X : Type 0} (items : ℕ) (r : Request X) (root : ObjectType) (initial : X) (selections : List Selection)
    (rank : ℕ → ℕ) (ranked : IsRanked (spread_graph r.fragments) rank) (even : AreEven r root initial selections)
    (short : AreShort items (plain_world r) root initial (selections ∷ [])) where
  abbrev w : World X ObjectType Group (List (List Selection))
  w = plain_world r

  pub nodes-at : (d : ℕ) → nodes w d root initial (selections ∷ []) (execute w d root initial [] (selections ∷ [])).0 ≤ cost items r.fragments selections
  nodes-at d =
      let fixed = λ (name : List ℕ). most-fixed items r.fragments rank ranked name in
      omega (
        arith,
        nodes-bounded w items (sets_sum items (fragment_most items r.fragments)) (lawful r)
            (λ ty ms fits. list-fits ty fits)
            (λ ty x fits. object-fits r.schema ty (r.type_of x) fits)
            (λ ty. refl)
            root initial (selections ∷ []) short
            (λ spot x U reached fits typed.
            has-room items (fragment_most items r.fragments) r U (λ name. omega (arith, fixed name)) spot.group.pieces (even.below spot x U reached fits typed))
            d
            (has-room items (fragment_most items r.fragments) r root (λ name. omega (arith, fixed name)) (selections ∷ []) even.at_root),
      )

  pub nodes-cost : (response : ExecutionResponse) → IsExecuted r root initial selections response
      → (count : ℕ) → HasNodes r root initial selections response.root count → count ≤ cost items r.fragments selections
  nodes-cost response executed count has =
      let same : response.root ≡ (execute w has.depth root initial [] (selections ∷ [])).0 =
      ap (λ (o : ExecutionResponse). o.root) executed.is
      ∙ ap (λ (m : Made Member). m.0) (one_run w executed.depth has.depth root (selections ∷ []) executed.enough has.enough initial []) in
      omega (arith, has.is, ap (nodes w has.depth root initial (selections ∷ [])) same, nodes-at has.depth)
