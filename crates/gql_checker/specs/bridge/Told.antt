-- What only private clauses and proofs cite, beside `Told`.
use Rattle.gql_engine.specs.Serving.{line}
use Rattle.gql_engine.specs.declared.output.Output.{Output}
use Rattle.gql_engine.specs.declared.output.Output.TheVariants.{Done, Refused}
use Rattle.gql_response_check.specs.declared.verdict.Verdict.{Verdict}
use Rattle.gql_response_check.specs.declared.verdict.Verdict.TheVariants.{Explained, NotResponse, FalseError, BadValue}
use Rattle.gql_checker.specs.Told.{told}

-- the line of a verdict: what was asked for is that the response is explained
abbrev pub output_of : Verdict → Output
output_of Explained = Done (line (told Explained))
output_of (NotResponse fault) = Refused (line (told (NotResponse fault)))
output_of (FalseError index) = Refused (line (told (FalseError index)))
output_of (BadValue path) = Refused (line (told (BadValue path)))
