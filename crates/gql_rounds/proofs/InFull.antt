-- Where nothing is asked, a response is explained with no premise.
use Rattle.std.proofs.Common.{◌≡◌, ℕ, Bool, true, false, List, [], ◌∷◌, Some, sym, ap, ◌∙◌, subst}
use Rattle.gql_rounds.specs.Asked.{AreAsked}
use Rattle.gql_rounds.specs.Known.{type_of_entity}
use Rattle.gql_rounds.specs.Table.{Table}
use Rattle.gql_rounds.specs.Telling.{AskedWith, Subject}
use Rattle.gql_rounds.specs.ToldMeaning.{told}
use Rattle.gql_rounds.specs.Wanted.{request_by_table}
use Rattle.gql_document_types.specs.declared.document.ExecutableDocument.{ExecutableDocument}
use Rattle.gql_document_types.specs.declared.operation.Operation.{Operation}
use Rattle.gql_engine.specs.Answered.{Answered, IsAnsweredInFull, IsFullyExplainedBy, IsResponseBy, IsRoot}
use Rattle.gql_engine.specs.Ready.{Ready}
use Rattle.gql_engine.specs.Wanted.{Wanted}
use Rattle.gql_exec.specs.Thing.{of_user, type_of_thing}
use Rattle.gql_exec.specs.ThingMeaning.{thing_meaning}
use Rattle.gql_exec.specs.Executing.{request_by}
use Rattle.gql_exec.specs.RequestWorld.{plain_world}
use Rattle.gql_resolvers.specs.Meaning.{Members}
use Rattle.gql_resolvers.specs.Skips.{ReachesNoSkip}
use Rattle.gql_response.specs.declared.execution_response.ExecutionResponse.{ExecutionResponse}
use Rattle.gql_schema_types.specs.Schemas.{object_of}
use Rattle.gql_schema_types.specs.declared.schema.Schema.{Schema}
use Rattle.gql_schema_types.specs.declared.types.ObjectType.{ObjectType}
use Rattle.gql_rounds.specs.Rounds.{AreAskedOf, root_of}

pub record InFullLaws : Type 0 where
  pub schema : (wanted : Wanted) (one other : Ready wanted) → one.meant.schema ≡ other.meant.schema
  pub document : (wanted : Wanted) (one other : Ready wanted) → one.meant.document ≡ other.meant.document
  pub operation : (wanted : Wanted) (one other : Ready wanted) → one.operation ≡ other.operation
  pub variables : (wanted : Wanted) (one other : Ready wanted) → one.variables ≡ other.variables
  pub plain : (subject : Subject) (table : Table) → AskedWith subject table []
      → ReachesNoSkip (plain_world (request_by false subject.schema subject.document subject.variables type_of_entity told)) subject.root (root_of table)
      (subject.selections ∷ [])
  pub introspected : (subject : Subject) (table : Table) → AskedWith subject table []
      → ReachesNoSkip (plain_world (request_by true subject.schema subject.document subject.variables (type_of_thing type_of_entity) (thing_meaning told)))
      subject.root (of_user subject.schema (root_of table)) (subject.selections ∷ [])

module _ (laws : InFullLaws) (table : Table) where
  module _ (schema : Schema) (document : ExecutableDocument) (variables : Members) (operation : Operation) (root_type : ObjectType)
      (are : AreAsked (request_by_table schema document variables table) root_type operation.selection_set.selections []) where
    abbrev subject : Subject
    subject = record { schema = schema; document = document; variables = variables; root = root_type; selections = operation.selection_set.selections }

    in-full : (response : ExecutionResponse) (introspection : Bool)
        → IsResponseBy introspection type_of_entity told (root_of table) schema document operation variables root_type response
        → IsFullyExplainedBy introspection type_of_entity told (root_of table) schema document operation variables root_type response
    in-full response true given = record {
      true_faults = given.explained.true_faults;
      distinct = given.explained.distinct;
      explained = given.explained.explained (laws.introspected subject table are);
    }
    in-full response false given = record {
      true_faults = given.explained.true_faults;
      distinct = given.explained.distinct;
      explained = given.explained.explained (laws.plain subject table are);
    }

  module _ (wanted : Wanted) (bytes : List ℕ) (answered : Answered type_of_entity told (root_of table) wanted bytes) (nothing : AreAskedOf table wanted []) where
    abbrev one : Ready wanted
    one = nothing.ready

    abbrev other : Ready wanted
    other = answered.ready

    abbrev Asks : Schema → ExecutableDocument → Members → ObjectType → Operation → Type 0
    Asks schema document variables T operation = AreAsked (request_by_table schema document variables table) T operation.selection_set.selections []

    same-root : nothing.root_type ≡ answered.executed.root_type
    same-root =
        let begins : IsRoot other.meant.schema other.operation nothing.root_type =
        subst (λ (o : Operation). IsRoot other.meant.schema o nothing.root_type) (laws.operation wanted one other)
        (subst (λ (s : Schema). IsRoot s one.operation nothing.root_type) (laws.schema wanted one other) nothing.is_root) in
        let e : Some nothing.root_type ≡ Some answered.executed.root_type = sym begins ∙ answered.executed.is_root in cc

    asks-here : Asks other.meant.schema other.meant.document other.variables answered.executed.root_type other.operation
    asks-here =
        subst (λ (o : Operation). Asks other.meant.schema other.meant.document other.variables answered.executed.root_type o) (laws.operation wanted one other)
        (subst (λ (T : ObjectType). Asks other.meant.schema other.meant.document other.variables T one.operation) same-root
        (subst (λ (ms : Members). Asks other.meant.schema other.meant.document ms nothing.root_type one.operation) (laws.variables wanted one other)
        (subst (λ (d : ExecutableDocument). Asks other.meant.schema d one.variables nothing.root_type one.operation) (laws.document wanted one other)
        (subst (λ (s : Schema). Asks s one.meant.document one.variables nothing.root_type one.operation) (laws.schema wanted one other) nothing.are))))

    pub answered-in-full : IsAnsweredInFull answered
    answered-in-full =
        in-full other.meant.schema other.meant.document other.variables other.operation answered.executed.root_type asks-here answered.executed.response
        wanted.introspection answered.executed.is_response
