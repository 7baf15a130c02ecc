-- The looks that a self-test takes, and what it tells.
use Rattle.std.proofs.Common.{◌≡◌, ◌<◌, ◌≤◌, ◌+◌, ◌^◌, ℕ, Bool, true, false, List, length, Option, Some, Result, Ok, Err, IfOk, ap, subst, arith}
use Rattle.gql_engine.specs.Answered.{ExecutionLooks, IsRoot}
use Rattle.gql_engine.specs.Depths.{depth_looks}
use Rattle.gql_engine.specs.Wanted.{Members}
use Rattle.gql_parser.specs.DocumentText.{DocumentText}
use Rattle.gql_document_types.specs.ChosenOperation.{chosen}
use Rattle.gql_document_types.specs.declared.document.ExecutableDocument.{ExecutableDocument}
use Rattle.gql_document_types.specs.declared.operation.Operation.{Operation}
use Rattle.gql_exec.specs.Thing.{of_user, type_of_thing}
use Rattle.gql_exec.specs.ThingMeaning.{Resolving, thing_meaning}
use Rattle.gql_exec.specs.Executing.{answers_by}
use Rattle.gql_resolvers.specs.Data.{Data}
use Rattle.gql_resolvers.specs.DataMeaning.{data_meaning}
use Rattle.gql_engine.specs.NotAsked.{IsAsked}
use Rattle.gql_engine.specs.Request.{Asked}
use Rattle.gql_engine.specs.SelfTest.{self_test}
use Rattle.gql_engine.specs.declared.request_form.RequestForm.TheVariants.{Plain}
use Rattle.gql_parser.specs.SchemaText.{SchemaText}
use Rattle.gql_schema_types.specs.declared.schema.Schema.{Schema}
use Rattle.gql_schema_types.specs.declared.types.ObjectType.{ObjectType}
use Rattle.gql_engine.specs.Meaning.{IsSelfTest}
use Rattle.gql_engine.specs.Texts.{query_text, schema_text}
use Rattle.gql_engine.proofs.Ways.{few_looks, few_selections}
use Rattle.gql_engine.specs.Output.{Line, Measures, summary}
use Rattle.gql_engine.specs.bridge.Output.{IsMeasured}
use Rattle.gql_engine.specs.Reply.{Answers, root_of}
use Rattle.gql_engine.specs.bridge.Reply.{RespondsTo}
use Rattle.gql_engine.specs.declared.response_bytes.Written.{Written}
use Rattle.gql_resolvers.proofs.DataSkips.{data-whole}

abbrev pub AsksLaw : Type 0
AsksLaw = (items : ℕ) (request : Asked) → items < 2 ^ 64 → IsAsked Plain (self_test items) request → (request.schema ≡ schema_text) × (request.query ≡ query_text)

abbrev pub MeansLaw : Type 0
MeansLaw = (schema : Schema) (document : ExecutableDocument) (name : Option (List ℕ)) (operation : Operation) → SchemaText schema_text schema
    → DocumentText schema query_text document → chosen name document.operations ≡ Some operation → IsSelfTest schema document operation

module _ (S : Schema) (D : ExecutableDocument) (o : Operation) (m : IsSelfTest S D o) where
  three_at_most : (introspection : Bool) → depth_looks introspection D o ≤ 3
  three_at_most true = omega (arith, few_selections S D o m)
  three_at_most false = omega arith

  six_at_most : {X : Type 0} (introspection : Bool) (types : X → List ℕ) (resolves : Resolving X) (root : X) (variables : Members) (T : ObjectType) (before after : ℕ)
      → IsRoot S o T → ExecutionLooks introspection types resolves root S D o variables T before after → after ≤ before + 6
  six_at_most true types resolves root variables T before after is h =
      few_looks S D o m variables (type_of_thing types) (answers_by true (thing_meaning resolves) S) T (of_user S root) before after is h
  six_at_most false types resolves root variables T before after is h =
      few_looks S D o m variables types (answers_by false resolves S) T root before after is h

pub nine_at_most : AsksLaw → MeansLaw → (items before after : ℕ) (text : List ℕ) → items < 2 ^ 64 → Answers before after (self_test items) text → after ≤ before + 9
nine_at_most asks means items before after text low h =
    let texts = asks items h.request low h.asks in
    let ready = h.answered.ready in
    let schema = ready.meant.schema in
    let document = ready.meant.document in
    let operation = ready.operation in
    let m = means schema document h.request.operation_name operation
    (subst (λ (t : List ℕ). SchemaText t schema) texts.0 ready.meant.are.is_schema)
    (subst (λ (t : List ℕ). DocumentText schema t document) texts.1 ready.meant.are.is_document) ready.is_chosen in
    let three = three_at_most schema document operation m h.request.introspection in
    let six = six_at_most schema document operation m h.request.introspection (λ (object : Data). object.type_name) data_meaning (root_of h.request) ready.variables h.answered.executed.root_type h.looks.between after
    h.answered.executed.is_root h.looks.execution in
    omega (arith, three, six, h.looks.depth)

-- what the response to it tells
told_of : AsksLaw → MeansLaw → (items before after : ℕ) → items < 2 ^ 64 → (request : Asked) → IsAsked Plain (self_test items) request → (written : Written)
    → RespondsTo request before after written → Measures before after items (summary items (length written.bytes) written.errors)
told_of asks means items before after low request is written h =
    let answers : Answers before after (self_test items) written.bytes = record {
      request = request;
      asks = is;
      answered = h.answered;
      explained = h.answered.executed.in_full data-whole;
      looks = h.looks;
    } in
    record {
      response = written.bytes;
      answers = answers;
      few = nine_at_most asks means items before after written.bytes low answers;
      told = ap (summary items (length written.bytes)) h.errors;
    }

pub measured : {E : Type 0} → AsksLaw → MeansLaw → (items before after : ℕ) → items < 2 ^ 64 → (request : Asked) → IsAsked Plain (self_test items) request → (written : Written)
    → RespondsTo request before after written → (result : Result (List ℕ) E) → IfOk result (IsMeasured items written)
    → IfOk result (Line (Measures before after items))
measured asks means items before after low request is written h (Ok text) k =
    record { within = summary items (length written.bytes) written.errors; holds = told_of asks means items before after low request is written h; is = k }
measured asks means items before after low request is written h (Err e) k = tt
