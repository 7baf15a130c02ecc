-- What only private clauses and proofs cite, beside `Answered`.
use Rattle.std.specs.Prelude.{◌≡◌, length}
use Rattle.jb_print.specs.Compact.{compact}
use Rattle.gql_response.specs.Response.{response_value}
use Rattle.gql_response.specs.declared.execution_response.ExecutionResponse.{ExecutionResponse}
use Rattle.gql_engine.specs.declared.response_bytes.Written.{Written}

-- a response as it is written
pub record IsPrint (response : ExecutionResponse) (written : Written) : Type 0 where
  pub bytes : written.bytes ≡ compact (response_value response)
  pub errors : written.errors ≡ length response.errors
