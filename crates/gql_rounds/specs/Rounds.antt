-- What a step of a request gives.
use Rattle.std.specs.Prelude.{◌≢◌, ℕ, List, [], Result, Ok, Err}
use Rattle.gql_engine.specs.AnswerError.{Asks as AsksCall, Call}
use Rattle.gql_engine.specs.Answered.{IsRoot}
use Rattle.gql_engine.specs.Answering.{GivesAnswer}
use Rattle.gql_engine.specs.Ready.{Ready}
use Rattle.gql_engine.specs.Wanted.{Wanted}
use Rattle.gql_engine.specs.declared.answer_error.AnswerError.{AnswerError}
use Rattle.gql_schema_types.specs.declared.types.ObjectType.{ObjectType}
use Rattle.gql_rounds.specs.Asked.{AreAsked}
use Rattle.gql_rounds.specs.Known.{Entity, beside, type_of_entity}
use Rattle.gql_rounds.specs.Table.{Table}
use Rattle.gql_rounds.specs.ToldMeaning.{told}
use Rattle.gql_rounds.specs.Wanted.{request_by_table}
use Rattle.gql_rounds.specs.declared.ask.Ask.{Ask}
use Rattle.gql_rounds.specs.declared.round.Round.{Round}
use Rattle.gql_rounds.specs.declared.round.Round.TheVariants.{Asks, Answer}

-- the root: object 0, beside all that was told
abbrev pub root_of : Table → Entity
root_of table = beside table (record { number = 0; type_name = [] })

-- these are what is asked of what is wanted, beyond what was told
pub record AreAskedOf (table : Table) (wanted : Wanted) (asks : List (List ℕ × Ask)) : Type 0 where
  pub ready : Ready wanted
  pub root_type : ObjectType
  pub is_root : IsRoot ready.meant.schema ready.operation root_type
  pub are : AreAsked (request_by_table ready.meant.schema ready.meant.document ready.variables table) root_type
      ready.operation.selection_set.selections asks

-- what a call for an answer gives by what was told
abbrev pub GivesToldAnswer : Table → Call → Result (List ℕ) AnswerError → Type 0
GivesToldAnswer table call result = GivesAnswer type_of_entity told (root_of table) call result

-- All that is asked, and something is; or the answer, where nothing is asked; or the refusal of the call.
abbrev pub GivesRound : Table → Call → Result Round AnswerError → Type 0
GivesRound table call (Ok (Asks asks)) = (asks ≢ []) × AsksCall call (λ wanted. AreAskedOf table wanted asks)
GivesRound table call (Ok (Answer bytes)) = GivesToldAnswer table call (Ok bytes) × AsksCall call (λ wanted. AreAskedOf table wanted [])
GivesRound table call (Err refusal) = GivesToldAnswer table call (Err refusal)
