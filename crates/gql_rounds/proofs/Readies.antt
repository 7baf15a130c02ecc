-- What is ready over a schema and a document.
use Rattle.std.proofs.Common.{arith, ◌≡◌, ◌<◌, ◌≤◌, ℕ, List, Option, Some, None, Result, Ok, refl, sym, ap, ◌∙◌, subst}
use Rattle.jb_text.specs.declared.refused.Refused.{Refused}
use Rattle.gql_coerce.specs.Variables.{coerced_variables}
use Rattle.std.specs.Borrow.{Bor}
use Rattle.gql_document_types.specs.ChosenOperation.{IsChosen, chosen}
use Rattle.gql_document_types.specs.declared.document.ExecutableDocument.{ExecutableDocument}
use Rattle.gql_document_types.specs.declared.operation.Operation.{Operation}
use Rattle.gql_engine.specs.Answered.{IsRoot}
use Rattle.gql_engine.specs.Depths.{IsShallow}
use Rattle.gql_engine.specs.Ready.{Ready}
use Rattle.gql_engine.specs.Wanted.{Wanted}
use Rattle.gql_parser.specs.DocumentText.{DocumentText}
use Rattle.gql_parser.specs.SchemaText.{SchemaText}
use Rattle.gql_resolvers.specs.Meaning.{Members}
use Rattle.gql_response.specs.declared.request_error.RequestError.{RequestError}
use Rattle.gql_schema_types.specs.declared.schema.Schema.{Schema}
use Rattle.gql_rounds.specs.bridge.Ready.{FindsOperation, FindsReady, IsPassed}
use Rattle.gql_rounds.specs.declared.ready.Ready.{Ready as ReadyHere}

-- the same over this schema and this document
pub record IsHere (wanted : Wanted) (schema : Schema) (document : ExecutableDocument) : Type 0 where
  pub operation : Operation
  pub is_chosen : chosen wanted.operation_name document.operations ≡ Some operation
  pub is_shallow : IsShallow wanted.introspection document operation
  pub variables : Members
  pub are_coerced : coerced_variables schema.types operation.variables wanted.variables ≡ Ok variables

abbrev pub OneSchema : Type 0
OneSchema = (text : List ℕ) (one other : Schema) → SchemaText text one → SchemaText text other → one ≡ other

abbrev pub OneDocument : Type 0
OneDocument = (schema : Schema) (text : List ℕ) (one other : ExecutableDocument) → DocumentText schema text one → DocumentText schema text other → one ≡ other

module _ (one_schema : OneSchema) (one_document : OneDocument) (wanted : Wanted) (schema : Schema) (document : ExecutableDocument)
    (is_schema : SchemaText wanted.schema schema) (is_document : DocumentText schema wanted.query document) where
  pub ready-here : Ready wanted → IsHere wanted schema document
  ready-here ready =
      let same = one_schema wanted.schema ready.meant.schema schema ready.meant.are.is_schema is_schema in
      let read = subst (λ (S : Schema). DocumentText S wanted.query ready.meant.document) same ready.meant.are.is_document in
      let there : IsHere wanted ready.meant.schema ready.meant.document = record {
        operation = ready.operation;
        is_chosen = ready.is_chosen;
        is_shallow = ready.is_shallow;
        variables = ready.variables;
        are_coerced = ready.are_coerced;
      } in
      subst (IsHere wanted schema) (one_document schema wanted.query ready.meant.document document read is_document)
      (subst (λ (S : Schema). IsHere wanted S ready.meant.document) same there)

  -- there is no such operation
  pub none-chosen : chosen wanted.operation_name document.operations ≡ None → ¬ (Ready wanted)
  none-chosen none ready =
      let it = ready-here ready in
      let e : Some it.operation ≡ None = sym it.is_chosen ∙ none in
      cc

  module _ (operation : Operation) (is_chosen : chosen wanted.operation_name document.operations ≡ Some operation) where
    same-operation : (it : IsHere wanted schema document) → it.operation ≡ operation
    same-operation it = let e : Some it.operation ≡ Some operation = sym it.is_chosen ∙ is_chosen in cc

    -- it goes too deep
    pub not-shallow : ¬ (IsShallow wanted.introspection document operation) → ¬ (Ready wanted)
    not-shallow deep ready =
        let it = ready-here ready in
        deep (subst (IsShallow wanted.introspection document) (same-operation it) it.is_shallow)

    -- and its variables
    pub finds-ready : IsShallow wanted.introspection document operation → (found : Option ReadyHere) → FindsOperation schema operation wanted.variables found
        → FindsReady wanted schema document found
    finds-ready shallow (Some ready) is = record {
      is_chosen = is_chosen ∙ ap Some (sym is.0);
      is_shallow = subst (IsShallow wanted.introspection document) (sym is.0) shallow;
      are_coerced = subst (λ (o : Operation). coerced_variables schema.types o.variables wanted.variables ≡ Ok ready.variables) (sym is.0) is.1;
      is_root = subst (λ (o : Operation). IsRoot schema o ready.root_type.now) (sym is.0) is.2;
    }
    finds-ready shallow None fails = λ ready.
        let it = ready-here ready in
        fails it.variables (subst (λ (o : Operation). coerced_variables schema.types o.variables wanted.variables ≡ Ok it.variables) (same-operation it) it.are_coerced)

-- ---- steps

-- a step of a choice
pub none-passed : (name : Option (List ℕ)) (operations : List Operation) (chose : Result (Bor Operation) (Refused RequestError)) → IsChosen name operations chose
    → IsPassed {A = Bor Operation} chose None → chosen name operations ≡ None
none-passed name operations chose is passed = (subst (IsChosen name operations) passed.1 is).0

pub chosen-passed : (name : Option (List ℕ)) (operations : List Operation) (chose : Result (Bor Operation) (Refused RequestError)) → IsChosen name operations chose
    → (operation : Bor Operation) → IsPassed chose (Some operation) → chosen name operations ≡ Some operation.now
chosen-passed name operations chose is operation passed = subst (IsChosen name operations) passed is
