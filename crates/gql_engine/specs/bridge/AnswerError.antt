-- What only private clauses and proofs cite, beside `AnswerError`.
use Rattle.std.specs.Prelude.{ℕ, List}
use Rattle.gql_engine.specs.declared.call.Call.{Call as CallHere}
use Rattle.gql_engine.specs.AnswerError.{Call, call_of}

-- the call over these texts
abbrev pub call_over : (schema query : List ℕ) → CallHere → Call
call_over schema query call = call_of schema query call.operation_name call.variables.now call.introspection
