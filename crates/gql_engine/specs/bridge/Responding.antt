-- What only private clauses and proofs cite, beside `Responding`.
use Rattle.std.specs.Prelude.{◌≡◌, ◌⊎◌}
use Rattle.jb_text.specs.declared.refused.Refused.{Refused}
use Rattle.jb_text.specs.declared.refused.Refused.TheVariants.{Fault, Memory}
use Rattle.gql_response.specs.RequestFault.{request_error}
use Rattle.gql_response.specs.declared.request_error.RequestError.{RequestError}
use Rattle.gql_source.specs.File.{Files}
use Rattle.gql_engine.specs.declared.answer_error.AnswerError.{AnswerError}
use Rattle.gql_engine.specs.declared.answer_error.AnswerError.TheVariants as error
use Rattle.gql_engine.specs.declared.answer_error.RequestKind.{RequestKind}

-- ---- on the way

-- the refusal of a step, unless memory ran out
abbrev pub IsOfStep : RequestKind → Files → Refused RequestError → AnswerError → Type 0
IsOfStep step sources (Fault why) told = (told ≡ error.Request step (request_error why sources)) ⊎ (told ≡ error.Memory)
IsOfStep step sources Memory told = told ≡ error.Memory
