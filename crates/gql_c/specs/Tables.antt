-- What comes of adding answers to what a handle holds, and how it is told.
use Rattle.std.specs.Prelude.{◌≡◌, ℕ, List, [], Option, Some, None}
use Rattle.jb_text.specs.declared.refused.Refused.TheVariants.{Fault}
use Rattle.jb_tree.specs.declared.value.Value.{Value}
use Rattle.gql_rounds.specs.Told.{HasAnswersFault, TellsAnswers, TellsSome}
use Rattle.gql_rounds.specs.declared.answers_json.AnswersFault.{AnswersFault}
use Rattle.gql_c.specs.declared.answers_add.Adding.{Adding}
use Rattle.gql_c.specs.declared.answers_add.Adding.TheVariants.{Added, NoMemory, WrongHandle, Unread}
use Rattle.gql_c.specs.declared.held.Held.{Held}
use Rattle.gql_c.specs.declared.held.Held.TheVariants.{Answers}
use Rattle.gql_c.specs.declared.status.TheConstants.{ANSWERED, NO_MEMORY, UNREAD, WRONG_HANDLE}

-- what was told: values by the texts that they are found by
abbrev pub Table : Type 0
Table = List (List ℕ × Value)

-- something is wrong with the text of answers
pub record IsNoAnswers (text : List ℕ) : Type 0 where
  pub fault : AnswersFault
  pub is : HasAnswersFault text (Fault fault)

-- to a table: the answers of the text are told too; or, where memory ran out, the first of them, and nothing else; or it is as it was
abbrev pub AddsTo : List ℕ → (old new : Table) → Adding → Type 0
AddsTo text old new Added = TellsAnswers text old new
AddsTo text old new NoMemory = TellsSome text old new
AddsTo text old new WrongHandle = ⊥
AddsTo text old new Unread = IsNoAnswers text × (new ≡ old)

-- it is answers, of which this holds
abbrev pub HoldsAnswers : (Table → Type 0) → Option Held → Type 0
HoldsAnswers Holds (Some (Answers table)) = Holds table
HoldsAnswers Holds held = ⊥

-- to a handle that holds nothing: it holds the answers of the text, or nothing still
abbrev pub AddsFirst : List ℕ → Option Held → Adding → Type 0
AddsFirst text new Added = HoldsAnswers (TellsAnswers text []) new
AddsFirst text new NoMemory = new ≡ None
AddsFirst text new WrongHandle = ⊥
AddsFirst text new Unread = IsNoAnswers text × (new ≡ None)

-- to what is held: answers stay answers, and nothing else is changed or added to
abbrev pub AddsMore : List ℕ → (old new : Held) → Adding → Type 0
AddsMore text (Answers old) (Answers new) adding = AddsTo text old new adding
AddsMore text (Answers old) new adding = ⊥
AddsMore text old new adding = (adding ≡ WrongHandle) × (new ≡ old)

-- to what a handle holds
abbrev pub AddsHeld : List ℕ → (old new : Option Held) → Adding → Type 0
AddsHeld text None new adding = AddsFirst text new adding
AddsHeld text (Some old) (Some new) adding = AddsMore text old new adding
AddsHeld text (Some old) None adding = ⊥

-- ---- how it is told

abbrev pub status_of : Adding → ℕ
status_of Added = ANSWERED
status_of NoMemory = NO_MEMORY
status_of WrongHandle = WRONG_HANDLE
status_of Unread = UNREAD

-- what comes of it, of which this holds, is told by the status
pub record TellsAdding (Holds : Adding → Type 0) (status : ℕ) : Type 0 where
  pub adding : Adding
  pub holds : Holds adding
  pub is_status : status ≡ status_of adding
