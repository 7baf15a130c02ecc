-- The line that tells a refusal of an answer.
use Rattle.std.specs.Prelude.{◌≡◌, ℕ, List}
use Rattle.gql_engine.specs.Serving.{line}
use Rattle.gql_engine.specs.Told.{IsToldOf}
use Rattle.gql_engine.specs.declared.answer_error.AnswerError.{AnswerError}
use Rattle.gql_engine.specs.declared.output.Output.{Output}
use Rattle.gql_engine.specs.declared.output.Output.TheVariants.{Refused}

abbrev pub IsRefusalLine : AnswerError → Output → Type 0
IsRefusalLine refusal output = (text : List ℕ) × IsToldOf refusal text × (output ≡ Refused (line text))
