-- The JSON of asks and of answers.
use Rattle.std.specs.Prelude.{◌≡◌, ℕ, pos, List, [], ◌∷◌, map, take, Option, Some, None, option_and_then, IsSome, slice_get, codes}
use Rattle.std.specs.List.{AllByRecursion}
use Rattle.std.specs.Map.{lookup, values_of}
use Rattle.std.specs.Str.{bytes_eq}
use Rattle.jb_read.specs.Faults.{JsonFault}
use Rattle.jb_read.specs.Spelling.{JsonText}
use Rattle.jb_text.specs.declared.refused.Refused.{Refused}
use Rattle.jb_text.specs.declared.refused.Refused.TheVariants.{Fault, Memory}
use Rattle.jb_tree.specs.Value.{array_items, object_members}
use Rattle.jb_tree.specs.declared.value.Value.{Value}
use Rattle.jb_tree.specs.declared.value.Value.TheVariants as json
use Rattle.gql_resolvers.specs.DataMeaning.{text_member}
use Rattle.gql_resolvers.specs.Meaning.{Members}
use Rattle.gql_rounds.specs.Key.{key}
use Rattle.gql_rounds.specs.Table.{Table, with_answer}
use Rattle.gql_rounds.specs.ToldMeaning.{number_member}
use Rattle.gql_rounds.specs.declared.ask.Ask.{Ask}
use Rattle.gql_rounds.specs.declared.answers_json.AnswersFault.{AnswersFault}
use Rattle.gql_rounds.specs.declared.answers_json.AnswersFault.TheVariants.{Read, NotList, NotAnswer}

-- an ask as JSON
abbrev pub ask_value : Ask → Value
ask_value ask = json.Object (
    (codes "object", json.Number (pos ask.object))
    ∷ (codes "type", json.String ask.type_name)
    ∷ (codes "field", json.String ask.field)
    ∷ (codes "arguments", json.Object ask.arguments)
    ∷ []
    )

abbrev pub asks_value : List (List ℕ × Ask) → Value
asks_value asks = json.Array (map ask_value (values_of asks))

-- ---- answers

-- the arguments that an answer tells, none where it tells nothing of them
abbrev pub arguments_in : Option Value → Option Members
arguments_in (Some value) = object_members value
arguments_in None = Some []

abbrev pub answer_by : Option ℕ → Option (List ℕ) → Option Members → Option Value → Option (List ℕ × Value)
answer_by (Some object) (Some field) (Some arguments) (Some value) = Some (key object field arguments, value)
answer_by (Some object) (Some field) (Some arguments) None = None
answer_by (Some object) (Some field) None value = None
answer_by (Some object) None arguments value = None
answer_by None field arguments value = None

abbrev pub answer_of : Members → Option (List ℕ × Value)
answer_of members =
    answer_by (number_member (codes "object") members) (text_member (codes "field") members)
    (arguments_in (lookup (bytes_eq (codes "arguments")) members)) (lookup (bytes_eq (codes "value")) members)

-- the answer that an item is: the text that it is found by, and its value
abbrev pub answer_in : Value → Option (List ℕ × Value)
answer_in item = option_and_then answer_of (object_members item)

abbrev pub IsAnswer : Value → Type 0
IsAnswer item = IsSome (answer_in item)

abbrev pub told_answer : Table → Option (List ℕ × Value) → Table
told_answer table (Some answer) = with_answer table answer.0 answer.1
told_answer table None = table

-- in their order
abbrev pub all_told : Table → List Value → Table
all_told table [] = table
all_told table (item ∷ items) = all_told (told_answer table (answer_in item)) items

-- the text is a list of answers, and these are told
pub record TellsAnswers (text : List ℕ) (old new : Table) : Type 0 where
  pub items : List Value
  pub read : JsonText text (json.Array items)
  pub each : AllByRecursion IsAnswer items
  pub told : new ≡ all_told old items

-- the text is a JSON text of another value than a list
pub record IsNoList (text : List ℕ) : Type 0 where
  pub value : Value
  pub read : JsonText text value
  pub other : array_items value ≡ None

-- the first item that is no answer has this index
pub record IsFirstOther (items : List Value) (index : ℕ) : Type 0 where
  pub item : Value
  pub at : slice_get items index ≡ Some item
  pub none : answer_in item ≡ None
  pub before : AllByRecursion IsAnswer (take index items)

-- the text is a list that has one
pub record HasOther (text : List ℕ) (index : ℕ) : Type 0 where
  pub items : List Value
  pub read : JsonText text (json.Array items)
  pub first : IsFirstOther items index

-- why a text tells no answers
abbrev pub HasAnswersFault : List ℕ → Refused AnswersFault → Type 0
HasAnswersFault text (Fault (Read fault)) = JsonFault text fault
HasAnswersFault text (Fault NotList) = IsNoList text
HasAnswersFault text (Fault (NotAnswer index)) = HasOther text index
HasAnswersFault text Memory = Unit {0}

-- ---- what is left where answers are not told

-- the first of these items were told, in their order, and nothing else was
pub record TellsFirst (items : List Value) (old new : Table) : Type 0 where
  pub count : ℕ
  pub told : new ≡ all_told old (take count items)

-- nothing was told, or the first of the answers of the text
pub data TellsSome (text : List ℕ) (old new : Table) : Type 0 where
  untold : new ≡ old → TellsSome text old new
  first : (items : List Value) → JsonText text (json.Array items) → AllByRecursion IsAnswer items → TellsFirst items old new → TellsSome text old new

-- a fault leaves the table as it was; where memory runs out, this holds
abbrev pub LeavesTable : Type 0 → Refused AnswersFault → Table → Table → Type 0
LeavesTable Tells (Fault fault) old new = new ≡ old
LeavesTable Tells Memory old new = Tells
