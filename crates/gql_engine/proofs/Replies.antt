-- What is wished of a request, as the code does it.
use Rattle.std.proofs.Common.{◌≡◌, ℕ, List, [], Option, Some, None, Result, Ok, Err, IfOk, refl, ◌∙◌, sym, ap, subst}
use Rattle.std.specs.Borrow.{Bor}
use Rattle.std.specs.Option.{option_copied, unwrap_or}
use Rattle.jb_print.specs.Compact.{compact}
use Rattle.gql_diag.specs.List.{Diagnostics}
use Rattle.gql_diag.specs.Refusal.{refusal_value}
use Rattle.gql_document_types.specs.ChosenOperation.{text_of}
use Rattle.gql_engine.specs.Request.{Asked, asked_in}
use Rattle.gql_engine.specs.declared.request_form.Request.{Request}
use Rattle.gql_resolvers.proofs.DataSkips.{data-whole}
use Rattle.gql_resolvers.specs.Data.{Data}
use Rattle.gql_resolvers.specs.DataMeaning.{data_meaning}
use Rattle.gql_response.specs.declared.graphql_error.GraphQLError.{GraphQLError}
use Rattle.gql_engine.specs.Meant.{AreFaults, no_schema, no_document}
use Rattle.gql_engine.specs.Reply.{root_of, wanted_of}
use Rattle.gql_engine.specs.bridge.Reply.{RespondsTo, WishAnswers, WishRefuses}
use Rattle.gql_engine.specs.Reports.{reports_of}
use Rattle.gql_engine.specs.Responding.{HasCauseOf, OrCause, Responds}
use Rattle.gql_engine.specs.Serving.{IsDoneOutput, IsOutput, IsRefusedOutput, line}
use Rattle.gql_engine.specs.Told.{IsToldOf}
use Rattle.gql_engine.specs.ToldLine.{IsRefusalLine}
use Rattle.gql_engine.specs.declared.output.Output.{Output}
use Rattle.gql_engine.specs.declared.output.Output.TheVariants.{Done, Refused}
use Rattle.gql_engine.specs.declared.task.Wish.TheVariants.{Answer, Check}
use Rattle.gql_engine.specs.Unanswered.{Unanswered, no_texts, no_operation, no_depth, no_variables}
use Rattle.gql_engine.specs.Wanted.{Members, Wanted, wanted_over}
use Rattle.gql_engine.specs.declared.answer_error.AnswerError.{AnswerError}
use Rattle.gql_engine.specs.declared.answer_error.AnswerError.TheVariants as error
use Rattle.gql_engine.specs.declared.answer_error.RequestKind.TheVariants as kind
use Rattle.gql_engine.specs.declared.response_bytes.Written.{Written}

-- ---- what a request wants, as the code hands it on

text_copied : (name : Option (Bor (List ℕ))) → text_of name ≡ option_copied name
text_copied (Some text) = refl
text_copied None = refl

given_or : (given : Option (Bor Members)) (none found : Bor Members) → found ≡ unwrap_or given none → none.now ≡ [] → found.now ≡ unwrap_or (option_copied given) []
given_or (Some members) none found is empty = ap (λ (b : Bor Members). b.now) is
given_or None none found is empty = ap (λ (b : Bor Members). b.now) is ∙ empty

module _ (request : Request) (none found : Bor Members) (empty : none.now ≡ []) where
  pub wanted_is : found ≡ unwrap_or request.variables none
      → wanted_over request.schema.now request.query.now (record { operation_name = request.operation_name; variables = found; introspection = request.introspection })
      ≡ wanted_of (asked_in request)
  wanted_is is =
      ap (λ (name : Option (List ℕ)). record {
        schema = request.schema.now;
        query = request.query.now;
        operation_name = name;
        variables = found.now;
        introspection = request.introspection;
      }) (text_copied request.operation_name)
      ∙ ap (λ (values : Members). record {
        schema = request.schema.now;
        query = request.query.now;
        operation_name = option_copied request.operation_name;
        variables = values;
        introspection = request.introspection;
      }) (given_or request.variables none found is empty)

  pub begins_at : found ≡ unwrap_or request.root none → (root : Data) → root ≡ record { type_name = []; members = found.now } → root ≡ root_of (asked_in request)
  begins_at is root root_is = root_is ∙ ap (λ (members : Members). record { type_name = []; members = members }) (given_or request.root none found is empty)

-- the response to it from there
pub responds_as : (given wanted : Wanted) → given ≡ wanted → (root start : Data) → root ≡ start → (before after : ℕ) (result : Result Written AnswerError)
    → OrCause given (Responds (λ (object : Data). object.type_name) data_meaning root given before after) result
    → OrCause wanted (Responds (λ (object : Data). object.type_name) data_meaning start wanted before after) result
responds_as given wanted is root start begins before after result h =
    subst (λ (w : Wanted). OrCause w (Responds (λ (object : Data). object.type_name) data_meaning start w before after) result) is
    (subst (λ (x : Data). OrCause given (Responds (λ (object : Data). object.type_name) data_meaning x given before after) result) begins h)

-- ---- what a refusal is told as

pub refused_by : (w : Wanted) (e : AnswerError) (text : List ℕ) → HasCauseOf w e → IsToldOf e text
    → (errors : List GraphQLError) × Unanswered w errors × (text ≡ compact (refusal_value errors))
refused_by w (error.Variables fault) text h told = absurd h
refused_by w (error.Schema list) text h told = (_, no_texts list (no_schema list h), told)
refused_by w (error.Document list) text h told = (_, no_texts list (no_document list h), told)
refused_by w (error.Request kind.Operation e) text h told = (_, no_operation e h, told)
refused_by w (error.Request kind.Depth e) text h told = (_, no_depth e h, told)
refused_by w (error.Request kind.Variable e) text h told = (_, no_variables e h, told)
refused_by w error.Memory text h told = absurd told

-- ---- the outputs

on_ok : {A E : Type 0} {P Q : A → Type 0} (result : Result A E) → ((a : A) → P a → Q a) → IfOk result P → IfOk result Q
on_ok (Ok a) f h = f a h
on_ok (Err e) f h = tt

pub is_done : {E : Type 0} (text : List ℕ) (result : Result Output E) → IfOk result (λ output. output ≡ Done text) → IfOk result IsDoneOutput
is_done text result h = on_ok result (λ output is. subst IsDoneOutput (sym is) tt) h

pub is_refused : {E : Type 0} (text : List ℕ) (result : Result Output E) → IfOk result (λ output. output ≡ Refused text) → IfOk result IsRefusedOutput
is_refused text result h = on_ok result (λ output is. subst IsRefusedOutput (sym is) tt) h

pub is_refused_for : {E : Type 0} (e : AnswerError) (result : Result Output E) → IfOk result (IsRefusalLine e) → IfOk result IsRefusedOutput
is_refused_for e result h = on_ok result (λ output is. subst IsRefusedOutput (sym is.2) tt) h

-- want of memory is told to none
untold : (e : AnswerError) (text : List ℕ) → e ≡ error.Memory → IsToldOf e text → ⊥
untold e text is told = subst (λ (x : AnswerError). IsToldOf x text) is told

pub never_told : {E : Type 0} (P : Output → Type 0) (e : AnswerError) → e ≡ error.Memory → (result : Result Output E) → IfOk result (IsRefusalLine e) → IfOk result P
never_told P e is result h = on_ok result (λ output line. absurd (untold e line.0 is line.1)) h

-- of a response, and of why there is none
pub answer_done : {E : Type 0} (request : Asked) (before after : ℕ) (written : Written) → RespondsTo request before after written → (result : Result Output E)
    → IfOk result (λ output. output ≡ Done (line written.bytes)) → IfOk result (IsOutput (WishAnswers Answer request before after) (WishRefuses Answer request))
answer_done request before after written h result k = on_ok result (λ output is.
    subst (IsOutput (WishAnswers Answer request before after) (WishRefuses Answer request)) (sym is) (
      written.bytes,
      record { answered = h.answered; explained = h.answered.executed.in_full data-whole; looks = h.looks },
      refl,
    )) k

pub answer_refused : {E : Type 0} (request : Asked) (before after : ℕ) (e : AnswerError) → HasCauseOf (wanted_of request) e → (result : Result Output E)
    → IfOk result (IsRefusalLine e) → IfOk result (IsOutput (WishAnswers Answer request before after) (WishRefuses Answer request))
answer_refused request before after e h result k = on_ok result (λ output is.
    let why = refused_by (wanted_of request) e is.0 h is.1 in
    subst (IsOutput (WishAnswers Answer request before after) (WishRefuses Answer request)) (sym is.2) (why.0, why.1, ap line why.2)) k

-- of what is wrong with the texts
pub check_refused : {E : Type 0} (request : Asked) (before after : ℕ) (list : Diagnostics) → AreFaults request.schema request.query list → (result : Result Output E)
    → IfOk result (λ output. output ≡ Refused (reports_of list)) → IfOk result (IsOutput (WishAnswers Check request before after) (WishRefuses Check request))
check_refused request before after list h result k = on_ok result (λ output is.
    subst (IsOutput (WishAnswers Check request before after) (WishRefuses Check request)) (sym is) (list, h, refl)) k
