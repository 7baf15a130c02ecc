-- What is answered to what is wanted, step by step.
use Rattle.std.proofs.Common.{◌≡◌, ◌≢◌, ◌≤◌, ◌+◌, ℕ, Bool, true, false, List, length, Option, Some, None, is_some, Result, Ok, Err, IfOk, IfErr, IsErrAnd, refl, sym, ap, subst, inl, inr, arith}
use Rattle.std.specs.Borrow.{Bor}
use Rattle.jb_text.specs.declared.refused.Refused.{Refused}
use Rattle.jb_text.specs.declared.refused.Refused.TheVariants.{Fault, Memory}
use Rattle.gql_coerce.specs.Outcome.{Answers as CoercionAnswers, Outcome, told_as as outcome_told}
use Rattle.gql_coerce.specs.Variables.{coerced_variables}
use Rattle.gql_coerce.specs.declared.fault.CoercionFault.{CoercionFault}
use Rattle.gql_response.specs.RequestFault.{request_error}
use Rattle.gql_response.specs.declared.request_error.RequestError.{RequestError}
use Rattle.gql_document_types.specs.ChosenOperation.{IsChosen as IsChosenAnswer}
use Rattle.gql_document_types.specs.declared.document.ExecutableDocument.{ExecutableDocument}
use Rattle.gql_document_types.specs.declared.operation.Operation.{Operation}
use Rattle.gql_collect.specs.Refusal.{IsTooDeep as IsDepthRefused}
use Rattle.gql_exec.specs.Thing.{of_user, type_of_thing}
use Rattle.gql_exec.specs.ThingMeaning.{Resolving, thing_meaning}
use Rattle.gql_exec.specs.Execution.{Answers as ExecutionAnswers, Counts as ExecutionCounts, IsAnswer as IsExecutionAnswer, Looks as ExecutionLooksOf}
use Rattle.gql_exec.specs.Execution.{Prepared, on_root, request_in, started, undefined_root, with_implementers, with_introspection, with_operation, with_values}
use Rattle.gql_exec.proofs.ThingSkips.{things-never-skip}
use Rattle.gql_exec.proofs.Skipless.{fully-explained, request-never}
use Rattle.gql_exec.specs.Executing.{request_by}
use Rattle.gql_exec.specs.Looks.{AreLooks}
use Rattle.gql_exec.specs.NeverSkips.{NeverSkips}
use Rattle.gql_exec.specs.declared.execution.Execution.{Execution}
use Rattle.gql_exec.specs.declared.execution.Given.TheVariants.{Coerced}
use Rattle.gql_collect.specs.RequestErrors.{request_error as fault_told}
use Rattle.gql_exec.specs.Response.{IsExecuted, IsExplained}
use Rattle.gql_response.specs.declared.execution_response.ExecutionResponse.{ExecutionResponse}
use Rattle.gql_schema_types.specs.Schemas.{object_of}
use Rattle.gql_schema_types.specs.declared.implementers.Implementers.{Implementers}
use Rattle.gql_schema_types.specs.declared.schema.Schema.{Schema}
use Rattle.gql_schema_types.specs.declared.types.ObjectType.{ObjectType}
use Rattle.gql_engine.specs.declared.answer_error.AnswerError.{AnswerError}
use Rattle.gql_engine.specs.declared.answer_error.AnswerError.TheVariants as error
use Rattle.gql_engine.specs.declared.answer_error.RequestKind.TheVariants as kind
use Rattle.gql_engine.specs.declared.answer_error.RequestKind.{RequestKind}
use Rattle.gql_engine.specs.declared.ready.ReadyOperation.{ReadyOperation}
use Rattle.gql_engine.specs.declared.response_bytes.Written.{Written}
use Rattle.gql_engine.specs.AnswerError.{Call, ComesFor, HasCause, IsObjectText, IsValid, wanted_with}
use Rattle.gql_parser.specs.Selecting.{SelectsSomething}
use Rattle.gql_engine.specs.Answered.{Answered, ExecutionLooks, IsFullyExplainedBy, IsResponseBy, IsResponseOver, IsResultOf, IsRoot}
use Rattle.gql_engine.specs.bridge.Answered.{IsPrint}
use Rattle.gql_engine.specs.Answering.{Answers, AnswersWithin}
use Rattle.gql_engine.specs.Depths.{IsShallow, all_selections, depth_looks}
use Rattle.gql_engine.specs.Ready.{IsChosen, MeantBy}
use Rattle.gql_engine.specs.Phases.{IsReady}
use Rattle.gql_engine.specs.bridge.Phases.{ready_as}
use Rattle.gql_engine.specs.Responding.{AnsweredWithin, HasCauseOf, IsRefusedAt, OrCause, Responds}
use Rattle.gql_engine.specs.bridge.Responding.{IsOfStep}
use Rattle.gql_engine.specs.Unanswered.{IsTooDeep, IsUnchosen, IsUncoerced}
use Rattle.gql_source.specs.File.{Files}
use Rattle.gql_engine.specs.Wanted.{Members, Wanted, wanted_over}
use Rattle.gql_engine.specs.declared.wanted.Wanted.{Wanted as WantedHere}
use Rattle.gql_engine.proofs.Causes.{has_cause}
use Rattle.gql_engine.proofs.Results.{same_ok, same_err, ok_or_err, true_or_false}

-- ---- the execution

module _ (schema : Bor Schema) (document : Bor ExecutableDocument) (implementers : Bor (List (List ℕ × Implementers))) (operation : Bor Operation) (values : Bor Members) (introspection : Bool) where
  abbrev pub asked : Execution
  asked = with_introspection (with_values (with_operation (with_implementers (started schema document) implementers) operation) (Coerced values)) introspection

  -- the response to what was prepared is that of the operation on its root type
  executed_over : {X : Type 0} (types : X → List ℕ) (resolves : Resolving X) (root : X) (found : Option ObjectType) (response : ExecutionResponse)
      → IsExecutionAnswer asked types resolves root (on_root schema.now (Coerced values) operation.now found) (Ok response)
      → (T : ObjectType) × (found ≡ Some T) × IsResponseOver introspection types resolves root schema.now document.now operation.now values.now T response
  executed_over types resolves root None response h = absurd (ok_or_err (on_root schema.now (Coerced values) operation.now None) h.0 undefined_root h.1 refl)
  executed_over types resolves root (Some T) response h =
      let made : Prepared = record { operation = operation.now; root = T; variables = values.now } in
      let same : h.0 ≡ made = same_ok (on_root schema.now (Coerced values) operation.now (Some T)) h.0 made h.1 refl in (
        T,
        refl,
        record {
          executed = subst (λ (p : Prepared). IsExecuted (request_in asked p.variables types resolves) p.root root p.operation.selection_set.selections response) same h.2;
          explained = subst (λ (p : Prepared). IsExplained (request_in asked p.variables types resolves) p.root root p.operation.selection_set.selections response) same h.3;
        },
      )

  -- so are its looks
  looked_over : {X : Type 0} (types : X → List ℕ) (resolves : Resolving X) (root : X) (before after : ℕ) (found : Option ObjectType) (T : ObjectType) → found ≡ Some T
      → (response : ExecutionResponse) → ExecutionLooksOf asked types resolves root before after (on_root schema.now (Coerced values) operation.now found) (Ok response)
      → AreLooks (request_in asked values.now types resolves) T root operation.now.selection_set.selections before after
  looked_over types resolves root before after found T is response h =
      let made : Prepared = record { operation = operation.now; root = T; variables = values.now } in
      let there = subst (λ o. ExecutionLooksOf asked types resolves root before after (on_root schema.now (Coerced values) operation.now o) (Ok response)) is h in
      let same : there.0 ≡ made = same_ok (on_root schema.now (Coerced values) operation.now (Some T)) there.0 made there.1 refl in
      subst (λ (p : Prepared). AreLooks (request_in asked p.variables types resolves) p.root root p.operation.selection_set.selections before after) same there.2

module _ {X : Type 0} (types : X → List ℕ) (resolves : Resolving X) (root : X) (schema : Bor Schema) (document : Bor ExecutableDocument) (implementers : Bor (List (List ℕ × Implementers))) (operation : Bor Operation)
    (values : Bor Members) where
  looked_by : (introspection : Bool) (before after : ℕ) (T : ObjectType) → IsRoot schema.now operation.now T → (response : ExecutionResponse)
      → ExecutionCounts (asked schema document implementers operation values introspection) types resolves root before after (Ok response)
      → ExecutionLooks introspection types resolves root schema.now document.now operation.now values.now T before after
  looked_by true before after T is response h =
      looked_over schema document implementers operation values true (type_of_thing types) (thing_meaning resolves) (of_user schema.now root) before after
      (object_of schema.now operation.now.selection_set.ty.text) T is response h
  looked_by false before after T is response h =
      looked_over schema document implementers operation values false types resolves root before after (object_of schema.now operation.now.selection_set.ty.text) T is response h

  executed_by : (introspection : Bool) (response : ExecutionResponse) → ExecutionAnswers (asked schema document implementers operation values introspection) types resolves root (Ok response)
      → (T : ObjectType) × IsRoot schema.now operation.now T × IsResponseBy introspection types resolves root schema.now document.now operation.now values.now T response
  executed_by true response h =
      executed_over schema document implementers operation values true (type_of_thing types) (thing_meaning resolves) (of_user schema.now root)
      (object_of schema.now operation.now.selection_set.ty.text) response h
  executed_by false response h =
      executed_over schema document implementers operation values false types resolves root (object_of schema.now operation.now.selection_set.ty.text) response h

  -- and it is explained with no premise where the user's resolver leaves nothing out
  fully_by : (introspection : Bool) (T : ObjectType) (response : ExecutionResponse)
      → IsResponseBy introspection types resolves root schema.now document.now operation.now values.now T response → NeverSkips resolves
      → IsFullyExplainedBy introspection types resolves root schema.now document.now operation.now values.now T response
  fully_by true T response is never =
      let r = request_by true schema.now document.now values.now (type_of_thing types) (thing_meaning resolves) in
      fully-explained r (request-never true schema.now document.now values.now (type_of_thing types) (thing_meaning resolves) (things-never-skip resolves never))
      T (of_user schema.now root) operation.now.selection_set.selections response is.explained
  fully_by false T response is never =
      let r = request_by false schema.now document.now values.now types resolves in
      fully-explained r (request-never false schema.now document.now values.now types resolves never) T root operation.now.selection_set.selections response is.explained

  refused_by_none : (found : Option ObjectType) → is_some found ≡ true → (e : RequestError) → on_root schema.now (Coerced values) operation.now found ≡ Err e → ⊥
  refused_by_none None some e h = true_or_false (is_some {T = ObjectType} None) some refl
  refused_by_none (Some T) some e h =
      let made : Prepared = record { operation = operation.now; root = T; variables = values.now } in ok_or_err (on_root schema.now (Coerced values) operation.now (Some T)) made e refl h

  refused_by_asked : (introspection : Bool) → is_some (object_of schema.now operation.now.selection_set.ty.text) ≡ true → (e : RequestError)
      → ExecutionAnswers (asked schema document implementers operation values introspection) types resolves root (Err (Fault e)) → ⊥
  refused_by_asked true some e h = refused_by_none (object_of schema.now operation.now.selection_set.ty.text) some e h
  refused_by_asked false some e h = refused_by_none (object_of schema.now operation.now.selection_set.ty.text) some e h

  -- an operation that begins at an object type is not refused
  pub never_refused : (introspection : Bool) (execution : Execution) → execution ≡ asked schema document implementers operation values introspection
      → is_some (object_of schema.now operation.now.selection_set.ty.text) ≡ true → (why : Refused RequestError) (e : RequestError) → why ≡ Fault e
      → ExecutionAnswers execution types resolves root (Err why) → ⊥
  never_refused introspection execution is some why e fault h =
      let told : ExecutionAnswers execution types resolves root (Err (Fault e)) = subst (λ (x : Refused RequestError). ExecutionAnswers execution types resolves root (Err x)) fault h in
      refused_by_asked introspection some e (subst (λ (x : Execution). ExecutionAnswers x types resolves root (Err (Fault e))) is told)

  -- and so are the bytes that print it
  pub executed_bytes : {E : Type 0} (introspection : Bool) (execution : Execution) → execution ≡ asked schema document implementers operation values introspection
      → (before after : ℕ) (response : ExecutionResponse) (result : Result Written E) → ExecutionAnswers execution types resolves root (Ok response)
      → ExecutionCounts execution types resolves root before after (Ok response) → IfOk result (IsPrint response)
      → IfOk result (IsResultOf introspection types resolves root schema.now document.now operation.now values.now before after)
  executed_bytes introspection execution is before after response (Ok written) h counts print =
      let made = executed_by introspection response (subst (λ (e : Execution). ExecutionAnswers e types resolves root (Ok response)) is h) in
      record {
        is = record {
          root_type = made.0;
          is_root = made.1;
          response = response;
          is_response = made.2;
          in_full = fully_by introspection made.0 response made.2;
          written = print.bytes;
        };
        errors = print.errors;
        looks = looked_by introspection before after made.0 made.1 response
            (subst (λ (e : Execution). ExecutionCounts e types resolves root before after (Ok response)) is counts);
      }
  executed_bytes introspection execution is before after response (Err e) h counts print = tt

-- ---- the steps before it

one_fault : {E : Type 0} (e x : E) → ◌≡◌ {A = Refused E} (Fault e) (Fault x) → e ≡ x
one_fault e x h = cc h

pub was_coerced : {A E : Type 0} (tell : CoercionFault → E) (made : Outcome A) (a : A) → outcome_told tell made ≡ Ok a → made ≡ Ok a
was_coerced {A = A} tell (Ok b) a h = ap (λ (x : A). Ok x) (same_ok (outcome_told tell (Ok b)) b a refl h)
was_coerced tell (Err fault) a h = absurd (ok_or_err (outcome_told tell (Err fault)) a (tell fault) h refl)

-- what a step is refused for is a cause, or want of memory
of_step : (w : Wanted) (step : RequestKind) (sources : Files) (why : Refused RequestError) (answer : AnswerError)
    → ((e : RequestError) → why ≡ Fault e → IsRefusedAt w step (request_error e sources)) → IsOfStep step sources why answer → HasCauseOf w answer
of_step w step sources (Fault e) answer cause (inl is) = subst (HasCauseOf w) (sym is) (cause e refl)
of_step w step sources (Fault e) answer cause (inr is) = subst (HasCauseOf w) (sym is) tt
of_step w step sources Memory answer cause is = subst (HasCauseOf w) (sym is) tt

module _ (w : Wanted) (meant : MeantBy w) where
  -- the document has no such operation
  pub unchosen : (why : Refused RequestError) (answer : AnswerError) → IsChosenAnswer w.operation_name meant.document.operations (Err why)
      → IsOfStep kind.Operation meant.document.sources why answer → HasCauseOf w answer
  unchosen (Fault e) answer h k =
      of_step w kind.Operation meant.document.sources (Fault e) answer
      (λ x same. subst (λ (x : RequestError). IsUnchosen w (request_error x meant.document.sources)) (one_fault e x same)
      (record { meant = meant; none = h.0; told = ap (λ (x : RequestError). request_error x meant.document.sources) h.1 })) k
  unchosen Memory answer h k = subst (HasCauseOf w) (sym k) tt

  module _ (o : Operation) (is_chosen : IsChosen w meant o) where
    -- the operation goes too deep
    pub too_deep_at : w.introspection ≡ true → (why : Refused RequestError) (answer : AnswerError)
        → IsDepthRefused meant.document.fragments o.selection_set.selections why → IsOfStep kind.Depth meant.document.sources why answer → HasCauseOf w answer
    too_deep_at on (Fault e) answer h k =
        of_step w kind.Depth meant.document.sources (Fault e) answer
        (λ x same. subst (λ (x : RequestError). IsTooDeep w (request_error x meant.document.sources)) (one_fault e x same)
        (record {
          meant = meant;
          operation = o;
          is_chosen = is_chosen;
          on = on;
          place = h.0;
          deep = h.1;
          told = ap (λ (x : RequestError). request_error x meant.document.sources) h.2;
        })) k
    too_deep_at on Memory answer h k = subst (HasCauseOf w) (sym k) tt

    -- a variable of the operation is not coerced
    uncoerced : IsShallow w.introspection meant.document o → (made : Outcome Members) → coerced_variables meant.schema.types o.variables w.variables ≡ made
        → (e : RequestError) → outcome_told fault_told made ≡ Err e → IsUncoerced w (request_error e meant.document.sources)
    uncoerced shallow (Ok values) is e h = absurd (ok_or_err (outcome_told fault_told (Ok values)) values e refl h)
    uncoerced shallow (Err fault) is e h = record {
      meant = meant;
      operation = o;
      is_chosen = is_chosen;
      is_shallow = shallow;
      fault = fault;
      fails = is;
      told = ap (λ (x : RequestError). request_error x meant.document.sources) (same_err (outcome_told fault_told (Err fault)) e (fault_told fault) h refl);
    }

    pub uncoerced_at : IsShallow w.introspection meant.document o → (why : Refused RequestError) (answer : AnswerError)
        → CoercionAnswers (outcome_told fault_told (coerced_variables meant.schema.types o.variables w.variables)) (Err why)
        → IsOfStep kind.Variable meant.document.sources why answer → HasCauseOf w answer
    uncoerced_at shallow (Fault e) answer h k =
        of_step w kind.Variable meant.document.sources (Fault e) answer
        (λ x same. subst (λ (x : RequestError). IsUncoerced w (request_error x meant.document.sources)) (one_fault e x same)
        (uncoerced shallow (coerced_variables meant.schema.types o.variables w.variables) refl e h)) k
    uncoerced_at shallow Memory answer h k = subst (HasCauseOf w) (sym k) tt

-- what is given, and what is refused
pub given_of : {A : Type 0} (w : Wanted) (P : A → Type 0) (result : Result A AnswerError) → OrCause w P result → IfOk result P
given_of w P (Ok a) h = h
given_of w P (Err e) h = tt

pub cause_of : {A : Type 0} (w : Wanted) (P : A → Type 0) (result : Result A AnswerError) → OrCause w P result → IfErr result (HasCauseOf w)
cause_of w P (Ok a) h = tt
cause_of w P (Err e) h = h

on_ok : {A E : Type 0} {P Q : A → Type 0} (result : Result A E) → ((a : A) → P a → Q a) → IfOk result P → IfOk result Q
on_ok (Ok a) f h = f a h
on_ok (Err e) f h = tt

on_err : {A E : Type 0} {P Q : E → Type 0} (result : Result A E) → ((e : E) → P e → Q e) → IfErr result P → IfErr result Q
on_err (Ok a) f h = tt
on_err (Err e) f h = f e h

-- ---- the call

-- the answer, whatever was counted
pub answers_by : {X : Type 0} (types : X → List ℕ) (resolves : Resolving X) (root : X) (call : Call) (before after : ℕ) (result : Result (List ℕ) AnswerError)
    → IfOk result (AnswersWithin types resolves root call before after) → IfOk result (Answers types resolves root call)
answers_by types resolves root call before after (Ok bytes) h = record { members = h.members; object = h.object; holds = h.holds.answered }
answers_by types resolves root call before after (Err e) h = tt

-- what it wants is answered or refused, so the call is
module _ {X : Type 0} (types : X → List ℕ) (resolves : Resolving X) (root : X) (call : Call) (members : Members) (object : IsObjectText call.variables members)
    (before after : ℕ) (result : Result (List ℕ) AnswerError) where
  pub answered_from : OrCause (wanted_with call members) (AnsweredWithin types resolves root (wanted_with call members) before after) result
      → IfOk result (AnswersWithin types resolves root call before after)
  answered_from h =
      on_ok result (λ bytes given. record { members = members; object = object; holds = given })
      (given_of (wanted_with call members) (AnsweredWithin types resolves root (wanted_with call members) before after) result h)

  pub refused_from : OrCause (wanted_with call members) (AnsweredWithin types resolves root (wanted_with call members) before after) result → IfErr result (HasCause call)
  refused_from h =
      on_err result (λ e why. has_cause call members object e why)
      (cause_of (wanted_with call members) (AnsweredWithin types resolves root (wanted_with call members) before after) result h)

-- what is answered is valid, so there is no other cause
pub exact_by : {X : Type 0} (types : X → List ℕ) (resolves : Resolving X) (root : X) (call : Call)
    → ((e : AnswerError) → IsValid call → HasCause call e → e ≡ error.Memory)
    → ((e f : AnswerError) → e ≢ error.Memory → HasCause call e → HasCause call f → ComesFor e f)
    → (result : Result (List ℕ) AnswerError) → IfOk result (Answers types resolves root call) → IfErr result (HasCause call)
    → (e : AnswerError) → e ≢ error.Memory → HasCause call e → IsErrAnd result (ComesFor e)
exact_by types resolves root call valid one (Ok bytes) answered refused e told h =
    absurd (told (valid e (record { members = answered.members; object = answered.object; holds = answered.holds.ready }) h))
exact_by types resolves root call valid one (Err f) answered refused e told h = one e f told h refused

pub valid_by : (call : Call) → ((e : AnswerError) → IsValid call → HasCause call e → e ≡ error.Memory)
    → (result : Result (List ℕ) AnswerError) → IfErr result (HasCause call) → IsValid call → IfErr result (λ e. e ≡ error.Memory)
valid_by call only (Ok bytes) refused valid = tt
valid_by call only (Err e) refused valid = only e valid refused

-- ---- from what is wanted to the response

-- an execution looks at least at the operation's own selections
least_looks : {X : Type 0} (types : X → List ℕ) (resolves : Resolving X) (root : X) (schema : Schema) (document : ExecutableDocument) (o : Operation) (values : Members)
    (T : ObjectType) (introspection : Bool) (before after : ℕ) → ExecutionLooks introspection types resolves root schema document o values T before after
    → before + length o.selection_set.selections ≤ after
least_looks types resolves root schema document o values T true before after h = h.least
least_looks types resolves root schema document o values T false before after h = h.least

-- the parts of what is ready are those that the execution is told
module _ {X : Type 0} (types : X → List ℕ) (resolves : Resolving X) (root : X) (w : Wanted) where
  result_of : (introspection : Bool) → introspection ≡ w.introspection → (schema : Schema) (document : ExecutableDocument) (o : Operation) (values : Members) (before after : ℕ)
      (written : Written) → IsResultOf introspection types resolves root schema document o values before after written
      → IsResultOf w.introspection types resolves root schema document o values before after written
  result_of introspection is schema document o values before after written h =
      subst (λ (b : Bool). IsResultOf b types resolves root schema document o values before after written) is h

  -- the response to what was ready
  pub answered_ready : {E : Type 0} (before between started after : ℕ) (ready : ReadyOperation) → IsReady w before between ready → (result : Result Written E)
      → IfOk result (IsResultOf ready.introspection types resolves root ready.schema.now ready.document.now ready.operation.now ready.variables started after)
      → IfOk result (λ written. Answered types resolves root w written.bytes)
  answered_ready before between started after ready is (Ok written) h =
      let made = result_of ready.introspection is.introspection ready.schema.now ready.document.now ready.operation.now ready.variables started after written h in
      record { ready = ready_as is; executed = made.is }
  answered_ready before between started after ready is (Err e) h = tt

  -- with its looks
  pub responds : {E : Type 0} (before between after : ℕ) (ready : ReadyOperation) → IsReady w before between ready → SelectsSomething ready.operation.now
      → (result : Result Written E)
      → IfOk result (IsResultOf ready.introspection types resolves root ready.schema.now ready.document.now ready.operation.now ready.variables between after)
      → IfOk result (Responds types resolves root w before after)
  responds before between after ready is some (Ok written) h =
      let made = result_of ready.introspection is.introspection ready.schema.now ready.document.now ready.operation.now ready.variables between after written h in
      record {
        answered = record { ready = ready_as is; executed = made.is };
        errors = made.errors;
        looks = record {
          some =
              let least = least_looks types resolves root ready.schema.now ready.document.now ready.operation.now ready.variables made.is.root_type w.introspection between after made.looks in
              let rises = is.rises in
              omega (arith, some, rises, least);
          between = between;
          rises = is.rises;
          depth = is.depth;
          execution = made.looks;
        };
      }
  responds before between after ready is some (Err e) h = tt

-- the same of other names of the texts
pub responds_over : {X : Type 0} (types : X → List ℕ) (resolves : Resolving X) (root : X) (wanted : WantedHere) (before after : ℕ) (result : Result Written AnswerError)
    (schema query schema' query' : List ℕ) → schema ≡ schema' → query ≡ query'
    → OrCause (wanted_over schema' query' wanted) (Responds types resolves root (wanted_over schema' query' wanted) before after) result
    → OrCause (wanted_over schema query wanted) (Responds types resolves root (wanted_over schema query wanted) before after) result
responds_over types resolves root wanted before after result schema query schema' query' is also h =
    subst (λ (s : List ℕ). OrCause (wanted_over s query wanted) (Responds types resolves root (wanted_over s query wanted) before after) result) (sym is)
    (subst (λ (q : List ℕ). OrCause (wanted_over schema' q wanted) (Responds types resolves root (wanted_over schema' q wanted) before after) result) (sym also) h)

-- without introspection nothing is checked
pub shallow_off : (introspection : Bool) (document : ExecutableDocument) (o : Operation) → introspection ≡ false → IsShallow introspection document o
shallow_off introspection document o off = λ on. absurd (true_or_false introspection on off)

pub looks_on : (introspection : Bool) (document : ExecutableDocument) (o : Operation) (before after : ℕ) → introspection ≡ true
    → after ≤ before + all_selections document o → after ≤ before + depth_looks introspection document o
looks_on introspection document o before after on h = subst (λ (b : Bool). after ≤ before + depth_looks b document o) (sym on) h

pub looks_off : (introspection : Bool) (document : ExecutableDocument) (o : Operation) (before after : ℕ) → after ≡ before → after ≤ before + depth_looks introspection document o
looks_off introspection document o before after is = omega (arith, is)
