-- What only private clauses and proofs cite, beside `Told`.
use Rattle.std.specs.Prelude.{ℕ, List, [], Option}
use Rattle.std.specs.Borrow.{Bor}
use Rattle.std.specs.Option.{option_map_or}
use Rattle.jb_text.specs.declared.refused.Refused.{Refused}
use Rattle.jb_text.specs.declared.refused.Refused.TheVariants.{Fault, Memory}
use Rattle.jb_tree.specs.declared.value.Value.{Value}
use Rattle.gql_resolvers.specs.Meaning.{Members}
use Rattle.gql_rounds.specs.Key.{key}
use Rattle.gql_rounds.specs.declared.answers_json.Answer.{Answer}
use Rattle.gql_rounds.specs.declared.answers_json.AnswersFault.{AnswersFault}
use Rattle.gql_rounds.specs.declared.answers_json.AnswersFault.TheVariants.{Read, NotList, NotAnswer}
use Rattle.gql_rounds.specs.Told.{IsFirstOther}

-- an answer as the code has it
abbrev pub seen : Answer → List ℕ × Value
seen answer = (key answer.object answer.field.now (option_map_or (λ (ms : Bor Members). ms.now) answer.arguments []), answer.value.now)

abbrev pub arguments_seen : Option (Bor Members) → Members
arguments_seen arguments = option_map_or (λ (ms : Bor Members). ms.now) arguments []

abbrev pub IsItemFault : List Value → Refused AnswersFault → Type 0
IsItemFault items (Fault (NotAnswer index)) = IsFirstOther items index
IsItemFault items (Fault (Read fault)) = ⊥
IsItemFault items (Fault NotList) = ⊥
IsItemFault items Memory = Unit {0}
