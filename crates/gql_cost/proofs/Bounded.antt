-- The data of a response have at most as many nodes as the operation costs.
use Rattle.std.proofs.Common.{arith, ◌≡◌, ◌≤◌, ℕ, Bool, true, false, List, [], ◌∷◌, Some}
use Rattle.std.specs.List.{Contains}
use Rattle.gql_document_types.specs.Spreads.{AreAcyclic, spread_graph}
use Rattle.gql_document_types.specs.Typed.{AreFragmentsTyped, AreTyped, IsDocumentTyped}
use Rattle.gql_document_types.specs.declared.document.ExecutableDocument.{ExecutableDocument}
use Rattle.gql_document_types.specs.declared.operation.Operation.{Operation}
use Rattle.gql_document_types.specs.declared.selection.SelectionSet.{SelectionSet}
use Rattle.gql_exec.specs.Thing.{of_user, type_of_thing}
use Rattle.gql_exec.specs.ThingMeaning.{Resolving, thing_meaning}
use Rattle.gql_exec.specs.Executing.{request_by}
use Rattle.gql_exec.specs.Request.{Members, Request}
use Rattle.gql_exec.specs.RequestWorld.{plain_world}
use Rattle.gql_exec.specs.Response.{IsExecuted}
use Rattle.gql_graph.specs.Cycles.{IsOnCycle}
use Rattle.gql_graph.specs.Graph.{Graph}
use Rattle.gql_graph.specs.Ranks.{IsRanked}
use Rattle.gql_parser.specs.DocumentText.{DocumentText}
use Rattle.gql_parser.specs.SchemaText.{SchemaText}
use Rattle.gql_response.specs.declared.execution_response.ExecutionResponse.{ExecutionResponse}
use Rattle.gql_schema_types.specs.Schemas.{object_of}
use Rattle.gql_schema_types.specs.declared.schema.Schema.{Schema}
use Rattle.gql_schema_types.specs.declared.types.ObjectType.{ObjectType}
use Rattle.gql_engine.specs.Answered.{Answered, IsResponseBy}
use Rattle.gql_engine.specs.Ready.{Ready}
use Rattle.gql_engine.specs.Wanted.{Wanted}
use Rattle.gql_cost.proofs.Costs.{nodes-cost}
use Rattle.gql_cost.proofs.Evens.{set-even}
use Rattle.gql_cost.proofs.Standing.{stands-own}
use Rattle.gql_valid_laws.specs.Covariant.{IsCovariant}
use Rattle.gql_cost.specs.HasNodes.{HasNodes}
use Rattle.gql_valid_laws.specs.Merge.{HaveOneName, Merge, OperationsMerge}
use Rattle.gql_cost.specs.Short.{AreShort}
use Rattle.gql_cost.specs.Sum.{cost}
use Rattle.gql_cost.specs.Limited.{AnsweredWithin}
use Rattle.gql_cost.specs.ReachedNodes.{AreShortBy, HasDataNodes, HasNodesBy, HasShortLists, cost_of}
use Rattle.gql_cost.specs.declared.cost_limit.CostLimit.{CostLimit}
use Rattle.gql_cost.proofs.Chosen.{chosen-among, holds-among}
use Rattle.gql_cost.proofs.Exact.{one-cost}

-- what validation gives of a document
pub record IsValidated (schema : Schema) (document : ExecutableDocument) : Type 0 where
  pub ranks : (rank : ℕ → ℕ) × IsRanked (spread_graph document.fragments) rank
  pub typed : IsDocumentTyped schema document
  pub covariant : IsCovariant schema
  pub merge : OperationsMerge HaveOneName schema document

module _ {X : Type 0} (items : ℕ) (r : Request X) (root : ObjectType) (initial : X) (set : SelectionSet) (response : ExecutionResponse) where
  set-bounded : (ranks : (rank : ℕ → ℕ) × IsRanked (spread_graph r.fragments) rank) → AreFragmentsTyped r.schema r.fragments → IsCovariant r.schema
      → object_of r.schema set.ty.text ≡ Some root → AreTyped r.schema set.ty set.selections
      → Merge HaveOneName r.schema r.fragments r.variables root set.selections set.selections
      → IsExecuted r root initial set.selections response → AreShort items (plain_world r) root initial (set.selections ∷ [])
      → (count : ℕ) → HasNodes r root initial set.selections response.root count → count ≤ cost items r.fragments set.selections
  set-bounded ranks fragments covariant is typed merge executed short count has =
      nodes-cost items r root initial set.selections ranks.0 ranks.1
      (set-even r fragments covariant root initial set.ty set.selections is typed merge) short response executed count has

module _ {X : Type 0} (items : ℕ) (type_of : X → List ℕ) (resolves : Resolving X) (root : X) (schema : Schema) (document : ExecutableDocument)
    (operation : Operation) (variables : Members) (root_type : ObjectType) (response : ExecutionResponse) where
  mode-bounded : (introspection : Bool) → IsValidated schema document → Contains document.operations operation
      → object_of schema operation.selection_set.ty.text ≡ Some root_type
      → IsResponseBy introspection type_of resolves root schema document operation variables root_type response
      → AreShortBy type_of resolves root schema document operation variables root_type items introspection
      → (count : ℕ) → HasNodesBy type_of resolves root schema document operation variables root_type count introspection response
      → count ≤ cost items document.fragments operation.selection_set.selections
  mode-bounded true valid among is given short count has =
      set-bounded items (request_by true schema document variables (type_of_thing type_of) (thing_meaning resolves)) root_type (of_user schema root)
      operation.selection_set response valid.ranks valid.typed.fragments valid.covariant is
      (holds-among (λ (it : Operation). AreTyped schema it.selection_set.ty it.selection_set.selections) document.operations operation valid.typed.operations among)
      (valid.merge operation among root_type (stands-own schema operation.selection_set.ty.text root_type is) variables) given.executed short count has
  mode-bounded false valid among is given short count has =
      set-bounded items (request_by false schema document variables type_of resolves) root_type root
      operation.selection_set response valid.ranks valid.typed.fragments valid.covariant is
      (holds-among (λ (it : Operation). AreTyped schema it.selection_set.ty it.selection_set.selections) document.operations operation valid.typed.operations among)
      (valid.merge operation among root_type (stands-own schema operation.selection_set.ty.text root_type is) variables) given.executed short count has

-- ---- the same of texts

pub record TextLaws : Type 0 where
  pub acyclic : (schema : Schema) (text : List ℕ) (document : ExecutableDocument) → DocumentText schema text document → AreAcyclic document.fragments
  pub ranks : (g : Graph) → ((v : ℕ) → IsOnCycle g v → ⊥) → (rank : ℕ → ℕ) × IsRanked g rank
  pub typed : (schema : Schema) (text : List ℕ) (document : ExecutableDocument) → DocumentText schema text document → IsDocumentTyped schema document
  pub covariant : (text : List ℕ) (schema : Schema) → SchemaText text schema → IsCovariant schema
  pub merge : (schema : Schema) (text : List ℕ) (document : ExecutableDocument) → DocumentText schema text document
      → OperationsMerge HaveOneName schema document

module _ {X : Type 0} {type_of : X → List ℕ} {resolves : Resolving X} {root : X} {wanted : Wanted} {bytes : List ℕ}
    (answered : Answered type_of resolves root wanted bytes) (laws : TextLaws) where
  pub response-bounded : (items : ℕ) → HasShortLists answered items → (count : ℕ) → HasDataNodes answered count → count ≤ cost_of items answered.ready
  response-bounded items short count has =
      let schema = answered.ready.meant.schema in
      let document = answered.ready.meant.document in
      let means = answered.ready.meant.are.is_document in
      mode-bounded items type_of resolves root schema document answered.ready.operation answered.ready.variables answered.executed.root_type
      answered.executed.response wanted.introspection
      (record {
        ranks = laws.ranks (spread_graph document.fragments) (laws.acyclic schema wanted.query document means);
        typed = laws.typed schema wanted.query document means;
        covariant = laws.covariant wanted.schema schema answered.ready.meant.are.is_schema;
        merge = laws.merge schema wanted.query document means;
      })
      (chosen-among wanted.operation_name document.operations answered.ready.operation answered.ready.is_chosen)
      answered.executed.is_root answered.executed.is_response short count has

  -- a response whose cost, by another way in which what is wanted is ready, is within a limit
  module _ (one-document : (one other : Ready wanted) → one.meant.document ≡ other.meant.document)
      (one-operation : (one other : Ready wanted) → one.operation ≡ other.operation) (limit : CostLimit) where
    pub answered-within : (ready : Ready wanted) → cost_of limit.items ready ≤ limit.nodes → AnsweredWithin type_of resolves root limit wanted bytes
    answered-within ready low =
        let same : cost_of limit.items answered.ready ≡ cost_of limit.items ready = one-cost wanted one-document one-operation limit answered.ready ready in
        record {
          answered = answered;
          costs = omega (arith, low, same);
          nodes = λ short count has. omega (arith, low, same, response-bounded limit.items short count has);
        }
