-- The full query has one answer on a schema.
use Rattle.std.proofs.Common.{◌≡◌, ◌⊎◌, ◌↔◌, inl, inr, ℕ, Bool, true, false, IsTrue, List, [], ◌∷◌, Option, Some, None, refl, sym, ap, ◌∙◌, subst}
use Rattle.jb_tree.specs.declared.value.Value.{Value}
use Rattle.gql_document_types.specs.Spreads.{AreAcyclic, TellsAcyclic}
use Rattle.gql_document_types.specs.declared.document.ExecutableDocument.{ExecutableDocument}
use Rattle.gql_document_types.specs.declared.fragment.Fragment.{Fragment}
use Rattle.gql_document_types.specs.declared.operation.Operation.{Operation}
use Rattle.gql_exec.specs.Partial.{request_of_schema}
use Rattle.gql_exec.specs.Thing.{Thing, of_user}
use Rattle.gql_exec.specs.Response.{IsExecuted}
use Rattle.gql_exec.specs.Request.{Request}
use Rattle.gql_exec.specs.RequestWorld.{plain_world}
use Rattle.gql_resolvers.proofs.OneRun.{one_run}
use Rattle.gql_response.specs.Response.{data_value}
use Rattle.gql_response.specs.declared.execution_response.ExecutionResponse.{ExecutionResponse}
use Rattle.gql_schema_types.specs.Schemas.{object_of}
use Rattle.gql_schema_types.specs.declared.schema.Schema.{Schema}
use Rattle.gql_schema_types.specs.declared.types.ObjectType.{ObjectType}
use Rattle.gql_document_types.specs.declared.selection.Selection.{Selection}
use Rattle.gql_client_schema.specs.Answers.{GivesAgain, IsAnsweredWith, IsQueryOn}
use Rattle.gql_client_schema.specs.bridge.Answers.{IsAnswerIn, IsBuiltIn, IsQueryIn, IsSame}
use Rattle.gql_client_schema.specs.Query.{full_query}
use Rattle.gql_client_schema.proofs.OneQuery.{DocumentsLaw, one_built}

executed_once : {X : Type 0} (r : Request X) (root : ObjectType) (x : X) (selections : List Selection) (one other : ExecutionResponse)
    → IsExecuted r root x selections one → IsExecuted r root x selections other → one ≡ other
executed_once r root x selections one other h k =
    h.is
    ∙ ap (λ (made : Option (List (List ℕ × Value)) × List _). record { errors = made.1; root = made.0 })
    (one_run (plain_world r) h.depth k.depth root (selections ∷ []) h.enough k.enough x [])
    ∙ sym k.is

same_operation : (one other : Operation) → Some one ≡ Some other → one ≡ other
same_operation one other h = cc

same_type : (one other : ObjectType) → Some one ≡ Some other → one ≡ other
same_type one other h = cc

module _ (schema : Schema) (document : ExecutableDocument) where
  pub one_answer : (one other : ExecutionResponse) → IsAnsweredWith schema document one → IsAnsweredWith schema document other → one ≡ other
  one_answer one other h k =
      let operation : h.operation ≡ k.operation = same_operation h.operation k.operation (sym h.is_only ∙ k.is_only) in
      let root : h.root ≡ k.root =
      same_type h.root k.root
      (sym (subst (λ (o : Operation). object_of schema o.selection_set.ty.text ≡ Some h.root) operation h.is_root) ∙ k.is_root) in
      executed_once (request_of_schema schema document []) k.root (of_user schema tt) k.operation.selection_set.selections one other
      (subst (λ (T : ObjectType). IsExecuted (request_of_schema schema document []) T (of_user schema tt) k.operation.selection_set.selections one) root
      (subst (λ (o : Operation). IsExecuted (request_of_schema schema document []) h.root (of_user schema tt) o.selection_set.selections one) operation h.executed))
      k.executed

module _ (law : DocumentsLaw) (schema : Schema) where
  one_query : (one other : ExecutableDocument) → IsQueryOn schema one → IsQueryOn schema other → one ≡ other
  one_query one other h k = one_built schema full_query law one other h.built k.built

  -- a document in which fragments lead back to themselves is none
  pub cyclic_none : (document : ExecutableDocument) → IsBuiltIn schema (Some document) → (acyclic : Bool) → TellsAcyclic document.fragments acyclic → acyclic ≡ false
      → IsQueryIn schema None
  cyclic_none document built acyclic tells is other h =
      let same : other ≡ document = one_built schema full_query law other document h.built built in
      let cycle = tells.some is in
      subst (λ (d : ExecutableDocument). AreAcyclic d.fragments) same h.acyclic cycle.0 cycle.1

  module _ (given : Option Value) where
    pub no_query : IsQueryIn schema None → GivesAgain schema given → ⊥
    no_query none g = none g.document g.query

    pub no_answer : (document : ExecutableDocument) → IsQueryOn schema document → IsAnswerIn schema document None → GivesAgain schema given → ⊥
    no_answer document query none g =
        none g.response (subst (λ (d : ExecutableDocument). IsAnsweredWith schema d g.response) (one_query g.document document g.query query) g.answers)

    pub again_iff : (document : ExecutableDocument) → IsQueryOn schema document → (response : ExecutionResponse) → IsAnsweredWith schema document response
        → (same : Bool) → (IsTrue same ↔ IsSame response given) → IsTrue same ↔ GivesAgain schema given
    again_iff document query response answers same iff = (
      (λ t. let s = iff.0 t in record {
        document = document;
        query = query;
        response = response;
        answers = answers;
        no_errors = s.no_errors;
        again = s.again;
      }),
      (λ g. iff.1 (same_response g
          (one_answer schema document g.response response
          (subst (λ (d : ExecutableDocument). IsAnsweredWith schema d g.response) (one_query g.document document g.query query) g.answers) answers))),
    )
      where
        same_response : (g : GivesAgain schema given) → g.response ≡ response → IsSame response given
        same_response g is = record {
          no_errors = subst (λ (r : ExecutionResponse). r.errors ≡ []) is g.no_errors;
          again = subst (λ (r : ExecutionResponse). given ≡ Some (data_value r.root)) is g.again;
        }
