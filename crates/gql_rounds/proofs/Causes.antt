-- What comes of a call for an answer where nothing is asked.
use Rattle.std.proofs.Common.{◌≡◌, ◌≢◌, ℕ, suc, nat_eq, length, true, false, List, [], ◌∷◌, Option, Some, None, Ok, Err, refl, sym, ap, ◌∙◌, subst}
use Rattle.std.proofs.lemmas.Bool.{eqb-true}
use Rattle.gql_engine.specs.AnswerError.{Asks, Call, HasCause, IsNoVariables, IsObjectText, IsValid, wanted_with}
use Rattle.gql_engine.specs.Ready.{Ready}
use Rattle.gql_engine.specs.Wanted.{Members}
use Rattle.gql_engine.specs.declared.answer_error.AnswerError.{AnswerError}
use Rattle.gql_engine.specs.declared.answer_error.VariablesFault.{VariablesFault}
use Rattle.gql_engine.specs.declared.answer_error.AnswerError.TheVariants as error
use Rattle.gql_document_types.specs.declared.document.ExecutableDocument.{ExecutableDocument}
use Rattle.gql_parser.specs.DocumentText.{DocumentText}
use Rattle.gql_parser.specs.SchemaText.{SchemaText}
use Rattle.gql_schema_types.specs.declared.schema.Schema.{Schema}
use Rattle.gql_rounds.specs.Table.{Table}
use Rattle.gql_rounds.specs.Asked.{AreAsked}
use Rattle.gql_rounds.specs.Wanted.{request_by_table}
use Rattle.gql_rounds.specs.declared.ask.Ask.{Ask}
use Rattle.gql_rounds.specs.bridge.Ready.{FindsCalled, FindsReady, IsReadyBy}
use Rattle.gql_rounds.specs.Rounds.{AreAskedOf, GivesToldAnswer}
use Rattle.gql_rounds.specs.bridge.Rounds.{AsksNothing}
use Rattle.gql_rounds.specs.declared.ready.Ready.{Ready as ReadyHere}

-- what is answered is valid, so nothing is asked
pub answered-nothing : (table : Table) (call : Call) (bytes : List ℕ) → GivesToldAnswer table call (Ok bytes) → AsksNothing table call
    → Asks call (λ wanted. AreAskedOf table wanted [])
answered-nothing table call bytes gives nothing =
    let answered = gives.answered in
    nothing (record { members = answered.members; object = answered.object; holds = answered.holds.ready })

-- want of memory is an answer to any call
pub no-memory : (table : Table) (call : Call) → GivesToldAnswer table call (Err error.Memory)
no-memory table call = record {
  answered = tt;
  refused = tt;
  exact = λ e not cause. tt;
  valid = λ valid. refl;
}

-- variables that are not read
pub unread : (call : Call) (fault : VariablesFault)
    → ((e : AnswerError) → IsNoVariables call.variables e → HasCause call e) → ((e : AnswerError) → IsValid call → HasCause call e → e ≡ error.Memory)
    → IsNoVariables call.variables (error.Variables fault) → ¬ (IsValid call)
unread call fault cause none is valid =
    let e : error.Variables fault ≡ error.Memory = none (error.Variables fault) valid (cause (error.Variables fault) is) in
    cc

-- with the members that were read
pub called : (call : Call) (members : Members) (schema : Schema) (document : ExecutableDocument)
    → ((one other : Members) → IsObjectText call.variables one → IsObjectText call.variables other → one ≡ other)
    → IsObjectText call.variables members → (found : Option ReadyHere) → FindsReady (wanted_with call members) schema document found
    → FindsCalled call schema document found
called call members schema document one_text object (Some ready) is = record { members = members; object = object; holds = is }
called call members schema document one_text object None none = λ valid.
    none (subst (λ (ms : Members). Ready (wanted_with call ms)) (one_text valid.members members valid.object object) valid.holds)

-- what is asked of what is ready
pub asked-of : (table : Table) (call : Call) (schema : Schema) (document : ExecutableDocument) (ready : ReadyHere) (asks : List (List ℕ × Ask))
    → SchemaText call.schema schema → DocumentText schema call.query document → Asks call (λ wanted. IsReadyBy wanted schema document ready)
    → AreAsked (request_by_table schema document ready.variables table) ready.root_type.now ready.operation.now.selection_set.selections asks
    → Asks call (λ wanted. AreAskedOf table wanted asks)
asked-of table call schema document ready asks is_schema is_document finds are = record {
  members = finds.members;
  object = finds.object;
  holds = record {
    ready = record {
      meant = record { schema = schema; document = document; are = record { is_schema = is_schema; is_document = is_document } };
      operation = ready.operation.now;
      is_chosen = finds.holds.is_chosen;
      is_shallow = finds.holds.is_shallow;
      variables = ready.variables;
      are_coerced = finds.holds.are_coerced;
    };
    root_type = ready.root_type.now;
    is_root = finds.holds.is_root;
    are = are;
  };
}

-- a list is empty or not, by its length
pub is-none : {A : Type 0} (xs : List A) → nat_eq (length xs) 0 ≡ true → xs ≡ []
is-none [] none = refl
is-none (x ∷ xs) none = absurd (let e : suc (length xs) ≡ 0 = eqb-true (length (x ∷ xs)) 0 none in cc)

pub is-some : {A : Type 0} (xs : List A) → nat_eq (length xs) 0 ≡ false → xs ≢ []
is-some [] some none = let e : true ≡ false = some in cc
is-some (x ∷ xs) some none = let e : x ∷ xs ≡ [] = none in cc
