use Rattle.std.proofs.Common.{ap, ◌∙◌}
use Rattle.gql_response.specs.Response.{response_value}
use Rattle.gql_response.specs.Reading.{response_of, shaped}
use Rattle.gql_response.proofs.ReadsBack.{response_back}
use Rattle.gql_diag.proofs.response_laws.responses_read_back.Goals as goal

pub returns : goal.returns
returns c = λ response held proper shallow.
    ap response_of (c.compact_reads_back.ensures.reads (response_value response) proper shallow) ∙ ap shaped (response_back response held)
