-- What the program writes for a request.
use Rattle.std.proofs.Common.{◌≡◌, ℕ, List, [], Option, Some, None, Result, Ok, Err, IfOk, IfErr, refl, ◌∙◌, sym, ap, subst}
use Rattle.std.specs.Borrow.{Bor}
use Rattle.std.specs.Option.{option_copied, unwrap_or}
use Rattle.gql_resolvers.proofs.DataSkips.{data-whole}
use Rattle.gql_resolvers.specs.Data.{Data}
use Rattle.gql_resolvers.specs.DataMeaning.{data_meaning}
use Rattle.gql_document_types.specs.ChosenOperation.{text_of}
use Rattle.gql_engine.specs.Request.{Asked, asked_in}
use Rattle.gql_engine.specs.declared.request_form.Request.{Request}
use Rattle.gql_engine.specs.Reply.{root_of, wanted_of}
use Rattle.gql_engine.specs.Serving.{IsDoneOutput, IsOutput, IsRefusedOutput, line}
use Rattle.gql_engine.specs.Wanted.{Members, Wanted, wanted_over}
use Rattle.gql_engine.specs.declared.answer_error.AnswerError.TheVariants as error
use Rattle.gql_engine.specs.declared.output.Output.{Output}
use Rattle.gql_engine.specs.declared.output.Output.TheVariants.{Done}
use Rattle.gql_cost.specs.Command.{Refuses}
use Rattle.gql_cost.specs.Limited.{AnsweredWithin, HasLimitedCauseOf}
use Rattle.gql_cost.specs.Program.{CountedAnswers}
use Rattle.gql_cost.specs.Told.{IsLimitedTold}
use Rattle.gql_cost.specs.bridge.Told.{IsLimitedLine}
use Rattle.gql_cost.specs.declared.cost_limit.CostLimit.{CostLimit}
use Rattle.gql_cost.specs.declared.limited_error.LimitedError.{LimitedError}
use Rattle.gql_cost.specs.declared.limited_error.LimitedError.TheVariants.{Answer}

-- ---- outputs

on-ok : {A E : Type 0} {P Q : A → Type 0} (result : Result A E) → ((a : A) → P a → Q a) → IfOk result P → IfOk result Q
on-ok (Ok a) f h = f a h
on-ok (Err e) f h = tt

module _ {E : Type 0} (result : Result Output E) where
  pub is-done : (text : List ℕ) → IfOk result (λ output. output ≡ Done text) → IfOk result IsDoneOutput
  is-done text h = on-ok result (λ output is. subst IsDoneOutput (sym is) tt) h

  pub is-refused : (refusal : LimitedError) → IfOk result (IsLimitedLine refusal) → IfOk result IsRefusedOutput
  is-refused refusal h = on-ok result (λ output is. subst IsRefusedOutput (sym is.2) tt) h

  -- want of memory is told to none
  pub never-told : (P : Output → Type 0) (refusal : LimitedError) → refusal ≡ Answer error.Memory → IfOk result (IsLimitedLine refusal) → IfOk result P
  never-told P refusal is h = on-ok result (λ output told. absurd (subst (λ r. IsLimitedTold r told.0) is told.1)) h

  module _ (limit : CostLimit) (request : Asked) (before after : ℕ) where
    pub answer-done : (bytes : List ℕ) → AnsweredWithin (λ (object : Data). object.type_name) data_meaning (root_of request) limit (wanted_of request) bytes
        → IfOk result (λ output. output ≡ Done (line bytes)) → IfOk result (IsOutput (CountedAnswers limit request before after) (Refuses limit request))
    answer-done bytes within h =
        on-ok result (λ output is.
        subst (IsOutput (CountedAnswers limit request before after) (Refuses limit request)) (sym is)
        (record { bytes = bytes; within = within; explained = within.answered.executed.in_full data-whole; written = refl })) h

    pub answer-refused : (refusal : LimitedError) → HasLimitedCauseOf limit (wanted_of request) refusal → IfOk result (IsLimitedLine refusal)
        → IfOk result (IsOutput (CountedAnswers limit request before after) (Refuses limit request))
    answer-refused refusal cause h =
        on-ok result (λ output told.
        subst (IsOutput (CountedAnswers limit request before after) (Refuses limit request)) (sym told.2)
        (record { refusal = refusal; cause = cause; told = told.0; says = told.1; written = refl })) h

-- ---- what a request wants, and the object that its data are

module _ (limit : CostLimit) (given wanted : Wanted) (is : given ≡ wanted) (root start : Data) (begins : root ≡ start) (result : Result (List ℕ) LimitedError) where
  pub answered-as : IfOk result (AnsweredWithin (λ (object : Data). object.type_name) data_meaning root limit given)
      → IfOk result (AnsweredWithin (λ (object : Data). object.type_name) data_meaning start limit wanted)
  answered-as h =
      subst (λ w. IfOk result (AnsweredWithin (λ (object : Data). object.type_name) data_meaning start limit w)) is
      (subst (λ x. IfOk result (AnsweredWithin (λ (object : Data). object.type_name) data_meaning x limit given)) begins h)

  pub refused-as : IfErr result (HasLimitedCauseOf limit given) → IfErr result (HasLimitedCauseOf limit wanted)
  refused-as h = subst (λ w. IfErr result (HasLimitedCauseOf limit w)) is h

given-or : (given : Option (Bor Members)) (none found : Bor Members) → found ≡ unwrap_or given none → none.now ≡ [] → found.now ≡ unwrap_or (option_copied given) []
given-or (Some members) none found is empty = ap (λ (b : Bor Members). b.now) is
given-or None none found is empty = ap (λ (b : Bor Members). b.now) is ∙ empty

pub begins-at : (given : Option (Bor Members)) (none found : Bor Members) → found ≡ unwrap_or given none → none.now ≡ []
    → (root : Data) → root ≡ record { type_name = []; members = found.now } → root ≡ record { type_name = []; members = unwrap_or (option_copied given) [] }
begins-at given none found is empty root root_is =
    root_is ∙ ap (λ (members : Members). record { type_name = []; members = members }) (given-or given none found is empty)

text-copied : (name : Option (Bor (List ℕ))) → text_of name ≡ option_copied name
text-copied (Some text) = refl
text-copied None = refl

pub wanted-is : (request : Request) (schema query : List ℕ) → schema ≡ request.schema.now → query ≡ request.query.now
    → (none found : Bor Members) → found ≡ unwrap_or request.variables none → none.now ≡ []
    → wanted_over schema query (record { operation_name = request.operation_name; variables = found; introspection = request.introspection })
    ≡ wanted_of (asked_in request)
wanted-is request schema query s q none found is empty =
    ap (λ (text : List ℕ). record {
      schema = text;
      query = query;
      operation_name = text_of request.operation_name;
      variables = found.now;
      introspection = request.introspection;
    }) s
    ∙ ap (λ (text : List ℕ). record {
      schema = request.schema.now;
      query = text;
      operation_name = text_of request.operation_name;
      variables = found.now;
      introspection = request.introspection;
    }) q
    ∙ ap (λ (name : Option (List ℕ)). record {
      schema = request.schema.now;
      query = request.query.now;
      operation_name = name;
      variables = found.now;
      introspection = request.introspection;
    }) (text-copied request.operation_name)
    ∙ ap (λ (values : Members). record {
      schema = request.schema.now;
      query = request.query.now;
      operation_name = option_copied request.operation_name;
      variables = values;
      introspection = request.introspection;
    }) (given-or request.variables none found is empty)
